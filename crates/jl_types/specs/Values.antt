-- What a world has, in reading order.
pub mod Target
pub mod World
pub mod Members
pub mod Ancestry
