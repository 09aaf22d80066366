-- which classes there are, and which invocations
pub mod GatherLaws
pub mod InvocationLaws
-- rows: links, methods, objects without a file, totals
pub mod AskingLaws
pub mod FindingLaws
pub mod MethodLaws
pub mod MadeLaws
pub mod TotalLaws
-- a further class: what it drops, and what stays
pub mod DropLaws
pub mod StayLaws
pub mod FinalLaws
-- FINAL methods: what is resolved, what is overridden, and what a further class leaves
pub mod ResolvedLaws
pub mod OverrideWalks
pub mod OverrideLaws
pub mod DerivedLaws
pub mod FinalCallLaws
pub mod FinalRowLaws
-- worked rows
pub mod Rows
