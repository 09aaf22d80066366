pub mod BufferLaws
pub mod LineLaws
pub mod FaultLaws
pub mod NewlineLaws
