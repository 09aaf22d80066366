pub mod Known
pub mod Instructions
pub mod Codes
pub mod Kept
pub mod Faults
pub mod ForProofs
