-- the link from scratch: receivers, stages, costs
pub mod RowLaws
pub mod StageLaws
pub mod CountLaws
pub mod Costs
pub mod OneForAll
-- preparations
pub mod BatchLaws
pub mod EarlierLaws
pub mod WorkCounts
pub mod WideLaws
-- what stays through an event: classes, call sites, bindings
pub mod Bindings
pub mod Loaders
pub mod Staying
pub mod WayKeys
pub mod Paths
pub mod Releases
pub mod Closing
pub mod InOrder
-- an event that changes nothing of what a link rests on
pub mod Untouched
pub mod KeyLaws
-- one receiver more
pub mod OneReceiver
-- threads, and worked rows
pub mod Crossing
pub mod Rows
