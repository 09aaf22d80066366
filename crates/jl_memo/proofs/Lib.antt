pub mod Closing
pub mod Staying
pub mod Rows
pub mod Right
