-- numbers, constants and their texts
pub mod Fields
pub mod ConstantLaws
pub mod FormLaws
pub mod LaneLaws
pub mod MarkLaws
-- what constants name: passes over the entries
pub mod LookUpLaws
pub mod TypedLaws
pub mod EntryLaws
pub mod PlaceLaws
pub mod NameLaws
-- the whole pool: what is kept, one reading, no fault
pub mod TableLaws
pub mod PoolLaws
pub mod PoolFaultLaws
