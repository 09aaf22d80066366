pub mod Help
pub mod Words
pub mod ForProofs
