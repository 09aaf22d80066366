-- `State`, `Installs`, `Logs`, `Plans`, `Headline` and `Works` are what contracts cite; the others are means of proof.
pub mod State
pub mod Installs
pub mod Logs
pub mod Plans
pub mod Headline
pub mod WorkBounds
pub mod ForProofs
