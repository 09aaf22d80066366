pub mod Flags
pub mod Special
pub mod Site
pub mod Operands
pub mod Class
pub mod Kept
