pub mod Unchanged
pub mod Present
pub mod Constancy
pub mod Later
