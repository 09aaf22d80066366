-- Reading functions on lists: what the private readers compute. No public clause cites them.
pub mod Bodies
pub mod Members
pub mod Nests
pub mod Passes
