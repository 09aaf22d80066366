-- opcodes and instructions
pub mod OpcodeLaws
pub mod FixedLaws
pub mod PlainLaws
pub mod SwitchLaws
pub mod InstructionLaws
-- a code: its invocations, one reading, no fault
pub mod SiteLaws
pub mod CodeLaws
pub mod KeptLaws
pub mod StopLaws
pub mod CodeFaultLaws
-- worked rows
pub mod Rows
