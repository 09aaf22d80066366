-- lists of items, attributes and members, and the layout
pub mod ItemLaws
pub mod ListLaws
pub mod AllLaws
pub mod PartLaws
pub mod BodyLaws
pub mod LayoutLaws
-- the passes, in their order
pub mod HeadLaws
pub mod LinkLaws
pub mod MemberTests
pub mod MemberNumbers
pub mod TwinLaws
pub mod MemberLaws
pub mod NestLaws
pub mod CodeAttributeLaws
-- the whole file: what it shows, one reading, no fault, another newest version
pub mod ShownLaws
pub mod ReadLaws
pub mod ClassLaws
pub mod FaultLaws
pub mod VersionLaws
-- worked rows
pub mod Rows
