-- What contracts cite, in reading order. `ForProofs` has means of proof.
pub mod ForProofs
pub mod Gathering
pub mod Order
pub mod Reports
pub mod Drops
pub mod Methods
pub mod Finals
pub mod Made
pub mod Totals
