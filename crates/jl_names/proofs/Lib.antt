-- tests and bytes
pub mod Tests
pub mod Bytes
pub mod Parts
-- modified UTF-8, and names
pub mod UnitLaws
pub mod ClassNameLaws
pub mod StopLaws
-- descriptors, and slots
pub mod DescriptorLaws
pub mod MethodLaws
pub mod SlotLaws
-- prints and repeats
pub mod PrintLaws
pub mod RepeatLaws
-- worked rows
pub mod Rows
