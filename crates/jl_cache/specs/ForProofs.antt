-- Means of proof: what is promised does not rest on how these say it.
pub mod Few
pub mod Kept
pub mod Sites
