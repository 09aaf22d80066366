-- lists, numbers, and lists of events that are accepted one after another
pub mod ListLaws
pub mod NumberLaws
pub mod ReleasedRows
pub mod AddLaws
pub mod FollowLaws
pub mod StopLaws
pub mod Phases
-- what stays, as the code finds it
pub mod MarkLaws
pub mod HeldLaws
-- whether a fresh core may have what stays
pub mod RoomLaws
-- what holds of a world after accepted events
pub mod Fit
pub mod FitParts
pub mod FitClasses
pub mod Releasing
pub mod FitSites
pub mod FitLaws
-- the loaders and classes of the fresh core
mod KeptLaws
pub mod ClassLaws
pub mod ClassSteps
pub mod DefinedLaws
pub mod ClassPhase
pub mod LoaderPhase
-- its switch points, call sites, places and bindings
pub mod StayLaws
pub mod FreshClasses
pub mod SwitchPhase
pub mod TargetLaws
pub mod CallSitePhase
pub mod PlacePhase
pub mod BindingPhase
pub mod SitePhases
-- its links
pub mod InstallLaws
pub mod QuietLaws
pub mod LinkLaws
-- the whole of a renewal
pub mod RenewalPhases
pub mod RenewalLaws
-- linking commutes with renumbering: classes, access, resolution, selection, stages, links and calls
pub mod Alike
pub mod AlikeLists
pub mod AlikeClasses
pub mod AlikeAbove
pub mod AlikeBelow
pub mod AlikeLaws
pub mod AlikeSites
pub mod EmbedLaws
pub mod AccessLaws
pub mod ResolutionLaws
pub mod OverridingLaws
pub mod SelectionLaws
pub mod CallSiteLaws
pub mod StageLaws
pub mod CallLaws
pub mod ScratchLaws
pub mod LinkClasses
pub mod LinkNumbers
pub mod RenewedSites
pub mod ComeOver
pub mod NumberedLinks
-- what the old core accepts after a renewal comes over
pub mod MovedFollows
pub mod MovedLists
pub mod MovedClasses
pub mod MovedTargets
pub mod MovedSites
pub mod MovedSteps
pub mod MovedRetiring
pub mod MovedNames
pub mod MovedReleasing
pub mod MovedEvents
pub mod MovedRests
pub mod MovedRecords
pub mod MovedFirst
pub mod MovedWorld
pub mod MovedLaw
pub mod MovedNumbers
pub mod MovedCarries
pub mod MovedGone
pub mod MovedScratch
pub mod MovedBeside
pub mod MovedLinks
pub mod MovedLater
pub mod MovedFaults
-- worked renewals
pub mod Rows
