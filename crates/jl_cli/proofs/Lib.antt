pub mod LackLaws
pub mod FloatLaws
pub mod FarmEnds
pub mod Rows
pub mod FaultRows
pub mod FarmRows
