-- Means of proof. What is promised doesn't rest on how these say it.
pub mod Counts
pub mod Earlier
pub mod Fills
pub mod Holding
pub mod Rows
pub mod Wide
