-- Faults over classes and sites alone, which call sites run on, and what the events of call sites do at a world. `ForProofs` is a means of
-- proof.
pub mod Faults
pub mod Known
pub mod Earlier
pub mod Targeted
pub mod Marks
pub mod Laws
pub mod ForProofs
