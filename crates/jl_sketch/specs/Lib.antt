pub mod Counts
pub mod Constants
pub mod Layouts
pub mod Names
pub mod Faults
pub mod ForProofs
