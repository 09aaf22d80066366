-- walks and lists
pub mod Turns
pub mod Rising
pub mod Appending
pub mod Found
-- what loaders have recorded
pub mod Records
pub mod Recents
pub mod OwnRecords
-- what holds of classes through every change: the invariant, part by part
pub mod KeptLaws
pub mod Ancestors
pub mod Parents
pub mod Objects
pub mod Closed
pub mod Finals
pub mod Constancy
-- a definition, a record more, a loader that goes
pub mod FaultLaws
pub mod NewClass
pub mod NewRecords
pub mod Growing
pub mod GoneLaws
pub mod Heirs
pub mod LoaderGone
-- methods, superinterface methods, and walks up the superclasses
pub mod PrintLaws
pub mod DefaultLaws
pub mod Chains
pub mod Lines
-- marks of methods that a subclass declares again
pub mod MarkLaws
pub mod Redeclaring
pub mod NewMarks
