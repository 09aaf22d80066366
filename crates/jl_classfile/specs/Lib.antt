pub mod Layouts
pub mod CodeAttributes
pub mod Parts
pub mod Conditions
pub mod ClassFiles
pub mod Shown
pub mod Faults
pub mod ForProofs
