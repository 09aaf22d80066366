-- Means of proof. What is promised doesn't rest on how these say it.
pub mod Defaults
pub mod Faults
pub mod Growing
pub mod Kept
