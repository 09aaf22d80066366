-- `Indexes` is what contracts cite; `Lists` and `Ways` are means of proof.
pub mod Forms
pub mod Indexes
pub mod Ways
pub mod ForProofs
