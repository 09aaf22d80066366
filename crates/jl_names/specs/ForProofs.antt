-- Reading functions on lists: what the private functions compute, from the left. Only private clauses cite
-- them; no public clause does, nor should another crate.
pub mod Steps
pub mod Units
pub mod Descriptors
pub mod MethodTypes
pub mod Repeats
pub mod Prints
