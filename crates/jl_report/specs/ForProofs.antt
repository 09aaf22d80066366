-- Means of proof. What is promised doesn't rest on how these say it.
pub mod Found
pub mod Marking
pub mod Results
pub mod Waiting
