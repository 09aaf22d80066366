-- lists of entries: beginnings, ends, and the cores whose logs they are
pub mod Beginnings
pub mod Ends
pub mod Logs
pub mod PastLaws
pub mod Alone
-- the published table, step by step
pub mod Opens
pub mod SlotLaws
pub mod Rules
pub mod Adding
pub mod Next
pub mod Steps
-- answers at once, and by what is remembered
pub mod FastLaws
pub mod MemoLaws
-- threads, and worked rows
pub mod Crossing
pub mod EntryRows
pub mod Rows
