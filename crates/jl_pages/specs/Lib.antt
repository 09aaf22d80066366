-- `Listing` is what contracts cite; `ForProofs` has means of proof.
pub mod Listing
pub mod ForProofs
