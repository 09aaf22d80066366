pub mod Devices
pub mod Counted
pub mod FailAt
pub mod Lines
pub mod Answers
pub mod ForProofs
