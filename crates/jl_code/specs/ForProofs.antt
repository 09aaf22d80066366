-- Reading functions on lists: what the private readers compute. No public clause cites them.
pub mod Instructions
pub mod Plain
pub mod Sites
