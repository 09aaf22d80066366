-- Means of proof. What is promised doesn't rest on how these say it.
pub mod Entries
pub mod Changes
pub mod Replays
pub mod Steps
pub mod Touched
