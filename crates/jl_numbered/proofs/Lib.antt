pub mod PlacedLaws
pub mod Rows
