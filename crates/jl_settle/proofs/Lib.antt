pub mod SumLaws
pub mod TogetherLaws
pub mod SettleLaws
pub mod Rows
pub mod RequestedLaws
