pub mod Walks
pub mod Crossing
mod ListLaws
mod PartLaws
