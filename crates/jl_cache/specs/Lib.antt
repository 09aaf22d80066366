-- `Links` is what contracts cite, `ForProofs` what proofs go by.
pub mod Links
pub mod ForProofs
