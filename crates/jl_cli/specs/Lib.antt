pub mod Endings
pub mod Modes
pub mod Farms
pub mod Asked
pub mod ForProofs
