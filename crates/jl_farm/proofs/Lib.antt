-- the queue and its workers
pub mod Queue
pub mod EachOnce
pub mod Shifts
-- what jobs come to, and what their reports show
pub mod Causes
pub mod Outcomes
pub mod Installs
-- threads, and worked rows
pub mod Crossing
pub mod Rows
