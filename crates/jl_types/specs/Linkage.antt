-- The link of a site in a world, and the answers to its calls, in reading order.
pub mod Access
pub mod Resolution
pub mod Overriding
pub mod Selection
pub mod Targets
pub mod Stages
pub mod Links
pub mod Calls
