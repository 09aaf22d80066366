pub mod Numbers
pub mod Constants
pub mod Known
pub mod Pools
pub mod Faults
pub mod ForProofs
