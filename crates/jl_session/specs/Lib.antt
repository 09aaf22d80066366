pub mod Jsons
pub mod Scans
pub mod Sketches
pub mod Obeying
pub mod Sessions
