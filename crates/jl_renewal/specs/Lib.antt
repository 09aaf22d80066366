-- `Numbers`, `Staying`, `Present`, `Renewal`, `Renewed`, `Carries`, `Moved`, `Told` and `Adds` are what contracts cite; `Marks` and `Room` are
-- means of proof.
pub mod Numbers
pub mod Staying
pub mod Present
pub mod Renewal
pub mod Renewed
pub mod Carries
pub mod Moved
pub mod Adds
pub mod Told
pub mod Marks
pub mod Room
