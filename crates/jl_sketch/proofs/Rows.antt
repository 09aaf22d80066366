-- Sketches worked by hand.
pub mod Sketches
mod Constants
mod Faults
mod Names
