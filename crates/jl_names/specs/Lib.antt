-- What the contracts cite, in reading order. `ForProofs` is for the private clauses alone.
pub mod Mutf8
pub mod ClassNames
pub mod Descriptors
pub mod MethodTypes
pub mod Repeats
pub mod ForProofs
