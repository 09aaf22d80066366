pub mod Upward
pub mod Bridges
pub mod Overrides
pub mod Constancy
pub mod Choices
pub mod SameBelow
