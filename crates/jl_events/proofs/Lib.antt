-- verdicts, event by event
pub mod PlaceLaws
pub mod RetireLaws
pub mod CallSiteLaws
pub mod InstallLaws
-- an accepted event: what it finds, what it changes, what is kept of it
pub mod ChangeLaws
pub mod ConstantLaws
pub mod AcceptedLaws
pub mod NextLaws
-- worked events
pub mod Rows
