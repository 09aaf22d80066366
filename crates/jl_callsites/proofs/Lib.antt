-- faults and sizes of targets
pub mod Rows
pub mod Worlds
pub mod Sizes
pub mod Accepted
-- what a call site runs, through every change
pub mod Turns
pub mod Walks
pub mod Known
pub mod Invoked
-- what holds no loader
pub mod Spared
-- what is let go
pub mod Releasing
-- threads
pub mod Crossing
