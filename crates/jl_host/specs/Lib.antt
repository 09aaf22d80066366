-- Contracts cite `Numbers`, `Telling`, `Showing`, `Copies`, `Linkers`, `Seats`, `Memos`, `Reading`, `Targets`, `Views`, `Awaiting`,
-- `Asking`, `Calling`, `Linking`, `Renewals`, `Renewing` and `UnderWay`. What stands in `ForProofs` is a means of proof.
pub mod Numbers
pub mod Telling
pub mod Showing
pub mod Copies
pub mod Linkers
pub mod Seats
pub mod Memos
pub mod Reading
pub mod Targets
pub mod Views
pub mod Awaiting
pub mod Asking
pub mod Calling
pub mod Linking
pub mod Renewals
pub mod Renewing
pub mod UnderWay
pub mod ForProofs
