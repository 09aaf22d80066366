-- `Settling` is what contracts cite; `ForProofs` has means of proof.
pub mod Settling
pub mod ForProofs
