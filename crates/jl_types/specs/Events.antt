-- What changes a world, and what is accepted and installed then, in reading order.
pub mod Limits
pub mod Definitions
pub mod Retirement
pub mod Release
pub mod Batches
pub mod Event
pub mod Verdict
pub mod Preparation
pub mod History
pub mod Entries
pub mod Footprints
pub mod Fast
