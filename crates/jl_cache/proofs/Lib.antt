pub mod Rows
pub mod LinkLaws
pub mod ListLaws
pub mod SiteLaws
