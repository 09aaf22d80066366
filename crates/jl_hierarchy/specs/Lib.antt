-- Contracts cite `Constancy`, and parts of `Prints`, `Redeclared` and `Retiring`. The rest has means of proof.
pub mod Constancy
pub mod Prints
pub mod Redeclared
pub mod Retiring
pub mod ForProofs
