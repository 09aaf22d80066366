-- `History`, `Receivers`, `Calls` and `Remembering` are what contracts cite. `Shown`, the rule of the published table, and `Slots`, how it
-- keeps links, are means of proof.
pub mod History
pub mod Receivers
pub mod Calls
pub mod Remembering
pub mod ForProofs
