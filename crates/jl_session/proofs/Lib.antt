pub mod JsonLaws
pub mod LackLaws
pub mod HexLaws
pub mod ScanLaws
pub mod ObeyLaws
pub mod FloatLaws
pub mod GrowLaws
pub mod Rows
