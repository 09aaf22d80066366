-- the index: sites by keys, and the bound
pub mod KeyLists
pub mod ListLaws
pub mod IndexLaws
pub mod TouchLaws
pub mod GroupLaws
pub mod AskedLaws
pub mod BoundLaws
-- what a link rests on, and what an event changes of that
pub mod PointLaws
pub mod WayLaws
pub mod StageLaws
pub mod TellingLaws
-- worked rows
pub mod Rows
