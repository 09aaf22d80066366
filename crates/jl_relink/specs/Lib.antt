-- `Preparations`, `Laws` and `Placed` are what contracts cite beside jl_types; the others are means of proof.
pub mod Preparations
pub mod Laws
pub mod Placed
pub mod Stages
pub mod Receivers
pub mod ForProofs
