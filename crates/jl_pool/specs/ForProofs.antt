-- Reading functions on lists: what the private readers compute. The only public clauses that cite them are those of
-- `Pool::form` and of the readers of numbers, for the crates above that read on.
pub mod Fields
pub mod Constants
pub mod Entries
pub mod Forms
pub mod Table
pub mod Marks
