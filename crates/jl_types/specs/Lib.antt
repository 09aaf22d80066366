-- What a link is and what a call answers, in reading order. `ForProofs` has means of proof.
pub mod ForProofs
pub mod Values
pub mod Linkage
pub mod Events
