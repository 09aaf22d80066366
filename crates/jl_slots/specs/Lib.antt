-- `ForProofs` has means of proof.
pub mod ForProofs
