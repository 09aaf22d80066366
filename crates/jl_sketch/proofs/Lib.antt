-- constants and their numbers
pub mod Positions
pub mod EntryLaws
pub mod SameConstants
pub mod Holding
pub mod Naming
pub mod CountLaws
-- a sketch has a layout, of which each number has its size
pub mod Cases
pub mod Sizes
pub mod SketchNames
pub mod SketchLies
-- what is read again of its bytes
pub mod SketchTexts
pub mod SketchCodes
pub mod SketchNest
pub mod SketchShown
-- worked sketches
mod Rows
