-- Means of proof. What is promised doesn't rest on how these say it.
pub mod BySite
pub mod Leaving
pub mod Padded
pub mod Same
pub mod SameLink
pub mod TargetCode
pub mod Whole
pub mod WholeFalls
