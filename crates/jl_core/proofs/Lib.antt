-- the links and the index after an event
pub mod KeptLaws
pub mod InstallLaws
pub mod GivenLaws
pub mod RetireLaws
pub mod RetireSteps
pub mod StepLaws
-- the log, and what a core is after any events
pub mod LogLaws
pub mod ToldLaws
pub mod HistoryLaws
pub mod WorkLaws
pub mod HeadlineLaws
-- a planned event: its slots, and the instance that is behind
pub mod SlotLaws
pub mod PlanLaws
pub mod CatchUpLaws
pub mod ReplayLaws
-- threads, and worked cores
pub mod Crossing
pub mod Rows
