-- Means of proof. What is promised doesn't rest on how these say it.
pub mod Behind
pub mod Calling
pub mod Starts
