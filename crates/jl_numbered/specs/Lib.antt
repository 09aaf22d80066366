-- `Numbers` is what contracts cite; `ForProofs` has means of proof.
pub mod Numbers
pub mod ForProofs
