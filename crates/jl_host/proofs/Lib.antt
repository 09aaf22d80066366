-- what is read of numbers that a host gives
pub mod ReadingLaws
pub mod TargetLaws
pub mod FileLaws
-- what it is shown: links again, waiting sites, renewed numbers; and its limits
pub mod ReadAgain
pub mod BitLaws
pub mod DeclarableLaws
pub mod GivenLaws
pub mod AwaitedLaws
pub mod LimitLaws
pub mod ShortLaws
pub mod RenewLaws
pub mod RenewingLaws
pub mod EndLaws
-- a seat, brought up to date
pub mod BehindLaws
pub mod CaughtUp
pub mod SeatLaws
pub mod SelectionLaws
-- a renewal in steps, beside its linker
pub mod UnderWayLists
pub mod UnderWayLinks
pub mod UnderWayTaken
pub mod UnderWayCarried
pub mod UnderWayMade
pub mod ComingOver
pub mod UnderWayUnmade
pub mod UnderWayFilled
pub mod UnderWayWhy
pub mod UnderWayEnded
-- threads, and worked rows
pub mod Crossing
pub mod Rows
