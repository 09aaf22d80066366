-- names and texts
pub mod NameLaws
pub mod PlainLaws
pub mod WrittenLaws
pub mod FloatLaws
-- commands and targets: each form is read, and nothing else
pub mod CommandLaws
pub mod FormLaws
pub mod KeyLaws
pub mod TargetLaws
pub mod TypeLaws
-- sketches
pub mod SketchLaws
pub mod SketchFormLaws
-- worked rows
pub mod Rows
