-- lists, tests and faults
pub mod Lists
pub mod Firsts
pub mod Bools
pub mod BySite
-- ancestors and overriding
pub mod Ancestors
pub mod Overrides
pub mod Walks
pub mod Grown
-- one event more: what is there, what is installed
pub mod Orders
pub mod Retiring
pub mod Releasing
pub mod Places
pub mod Within
pub mod ClassCounts
pub mod Settling
pub mod Installed
pub mod OneMore
pub mod Accepting
pub mod InstalledLinks
-- links and the answers of calls
pub mod Agreement
pub mod SameAnswer
-- lists of entries, and the table that they write
pub mod Legal
pub mod Written
pub mod Emptied
-- threads, and worked worlds
pub mod Crossing
pub mod Rows
