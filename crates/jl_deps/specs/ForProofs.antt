-- Means of proof. What is promised doesn't rest on how these say it.
pub mod Grouped
pub mod Kept
pub mod Lists
pub mod Packed
pub mod Telling
