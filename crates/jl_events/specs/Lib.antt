-- In reading order: whether an event is accepted, what is kept of it, and what it makes of the world.
pub mod Judging
pub mod Accepted
pub mod Changes
