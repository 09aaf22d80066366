-- The numbers of what is told: statuses, faults, and what was made.
use Rattle.std.specs.Prelude.{ℕ, Bool, true, false, if◌then◌else◌}
use Rattle.jl_classfile.specs.declared.fault.ClassFault.{ClassFault}
use Rattle.jl_classfile.specs.declared.fault.ClassFault.TheVariants as file
use Rattle.jl_types.specs.declared.event.Made.{Made}
use Rattle.jl_types.specs.declared.event.Made.TheVariants as made
use Rattle.jl_types.specs.declared.refusal.DefineFault.{DefineFault}
use Rattle.jl_types.specs.declared.refusal.DefineFault.TheVariants as definition
use Rattle.jl_types.specs.declared.refusal.DelegateFault.{DelegateFault}
use Rattle.jl_types.specs.declared.refusal.DelegateFault.TheVariants as delegation
use Rattle.jl_types.specs.declared.refusal.CallSiteFault.{CallSiteFault}
use Rattle.jl_types.specs.declared.refusal.CallSiteFault.TheVariants as site
use Rattle.jl_types.specs.declared.refusal.NotLinkable.{NotLinkable}
use Rattle.jl_types.specs.declared.refusal.NotLinkable.TheVariants.{ArrayReceiver, PolymorphicSignature}
use Rattle.jl_types.specs.declared.refusal.PrepareFault.{PrepareFault}
use Rattle.jl_types.specs.declared.refusal.PrepareFault.TheVariants as preparation
use Rattle.jl_types.specs.declared.refusal.Refusal.{Refusal}
use Rattle.jl_types.specs.declared.refusal.Refusal.TheVariants as refusal

-- ---- statuses beside those of refusals, and such that calls without an event answer, too

abbrev pub done : ℕ
done = 0

abbrev pub unknown_class : ℕ
unknown_class = 2

abbrev pub no_such_place : ℕ
no_such_place = 3

abbrev pub sites_full : ℕ
sites_full = 5

abbrev pub memory : ℕ
memory = 15

abbrev pub no_class_file : ℕ
no_class_file = 32

abbrev pub malformed : ℕ
malformed = 33

abbrev pub closed : ℕ
closed = 34

abbrev pub open_already : ℕ
open_already = 35

abbrev pub too_short : ℕ
too_short = 36

abbrev pub released : ℕ
released = 37

-- ---- refusals

abbrev pub status_of_refusal : Refusal → ℕ
status_of_refusal (refusal.Define fault) = 1
status_of_refusal refusal.UnknownClass = unknown_class
status_of_refusal refusal.NoSuchPlace = no_such_place
status_of_refusal (refusal.NotLinkable reason) = 4
status_of_refusal refusal.SitesFull = sites_full
status_of_refusal (refusal.CallSite fault) = 6
status_of_refusal refusal.NotDynamic = 7
status_of_refusal (refusal.AlreadyBound c) = 8
status_of_refusal refusal.TypeMismatch = 9
status_of_refusal (refusal.Stale s link) = 10
status_of_refusal (refusal.NotReady s) = 11
status_of_refusal (refusal.UnknownSite s) = 12
status_of_refusal (refusal.Repeated s) = 13
status_of_refusal refusal.BatchSize = 14
status_of_refusal refusal.Memory = memory
status_of_refusal (refusal.Delegate fault) = 16
status_of_refusal refusal.LoadersFull = 17
status_of_refusal (refusal.Retire fault) = 19
status_of_refusal (refusal.RetireAll loader fault) = 19
status_of_refusal (refusal.Release fault) = 20

abbrev pub define_number : DefineFault → ℕ
define_number definition.UnknownLoader = 1
define_number definition.AlreadyRecorded = 2
define_number definition.NamesItself = 3
define_number (definition.MissingParent name) = 4
define_number definition.SuperIsInterface = 5
define_number definition.FinalSuper = 6
define_number (definition.NotAnInterface name) = 7
define_number (definition.InaccessibleParent name) = 8
define_number definition.SecondObject = 9
define_number definition.Full = 10

abbrev pub call_site_number : CallSiteFault → ℕ
call_site_number site.UnknownCallSite = 1
call_site_number site.Constant = 2
call_site_number site.WrongType = 3
call_site_number site.UnknownMethod = 4
call_site_number site.NotStatic = 5
call_site_number site.UnknownSwitch = 6
call_site_number site.TooDeep = 7
call_site_number site.Full = 8
call_site_number (site.InvokerOrder c) = 9

-- the call site that a fault is about, if any
abbrev pub invoked_in : CallSiteFault → ℕ
invoked_in (site.InvokerOrder c) = c
invoked_in _ = 0

abbrev pub delegate_number : DelegateFault → ℕ
delegate_number delegation.UnknownLoader = 1
delegate_number delegation.NotRecorded = 2
delegate_number delegation.AlreadyRecorded = 3

abbrev pub not_linkable_number : NotLinkable → ℕ
not_linkable_number ArrayReceiver = 1
not_linkable_number PolymorphicSignature = 2

-- sites that aren't prepared have the status of the refusal of that name
abbrev pub status_of_unprepared : PrepareFault → ℕ
status_of_unprepared (preparation.NotReady s) = 11
status_of_unprepared (preparation.UnknownSite s) = 12
status_of_unprepared (preparation.Repeated s) = 13
status_of_unprepared preparation.BatchSize = 14
status_of_unprepared preparation.Memory = memory

-- ---- class files

abbrev pub is_memory : ClassFault → Bool
is_memory file.Memory = true
is_memory _ = false

abbrev pub status_of_file : ClassFault → ℕ
status_of_file fault = if is_memory fault then memory else no_class_file

-- ---- what was made

abbrev pub number_of : Made → ℕ
number_of made.Nothing = 0
number_of (made.Loader n) = n
number_of (made.Class n) = n
number_of (made.Site n) = n
number_of (made.CallSite n) = n
number_of (made.Switch n) = n

-- ---- what is no longer there

-- the new number of what a renewal doesn't take over
abbrev pub gone : ℕ
gone = 4294967295
