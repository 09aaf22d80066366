-- What is told of an event, or of bytes that are no class file.
use Rattle.std.specs.Prelude.{ℕ, min, length, List, Option, Some, None, Result, Ok, Err}
use Rattle.jl_pool.specs.declared.pool_fault.PoolFault.{PoolFault}
use Rattle.jl_pool.specs.declared.pool_fault.PoolFault.TheVariants as pool
use Rattle.jl_code.specs.declared.code_fault.CodeFault.{CodeFault}
use Rattle.jl_code.specs.declared.code_fault.CodeFault.TheVariants as code
use Rattle.jl_classfile.specs.declared.fault.ClassFault.{ClassFault}
use Rattle.jl_classfile.specs.declared.fault.ClassFault.TheVariants as file
use Rattle.jl_types.specs.declared.event.Reply.{Reply}
use Rattle.jl_types.specs.declared.refusal.DefineFault.{DefineFault}
use Rattle.jl_types.specs.declared.refusal.DefineFault.TheVariants.{MissingParent, NotAnInterface, InaccessibleParent}
use Rattle.jl_types.specs.declared.refusal.PrepareFault.{PrepareFault}
use Rattle.jl_types.specs.declared.refusal.PrepareFault.TheVariants as preparation
use Rattle.jl_types.specs.declared.refusal.ReleaseFault.{ReleaseFault}
use Rattle.jl_types.specs.declared.refusal.ReleaseFault.TheVariants as release
use Rattle.jl_types.specs.declared.refusal.RetireFault.{RetireFault}
use Rattle.jl_types.specs.declared.refusal.RetireFault.TheVariants as retirement
use Rattle.jl_types.specs.declared.refusal.Refusal.{Refusal}
use Rattle.jl_types.specs.declared.refusal.Refusal.TheVariants as refusal
use Rattle.jl_host.specs.declared.told.Told.{Told}
use Rattle.jl_host.specs.Numbers.{done, status_of_refusal, define_number, call_site_number, invoked_in, delegate_number, not_linkable_number, number_of}

abbrev pub nothing : Told
nothing = record { number = 0; fault = 0; place = 0; cause = 0; at = 0; dropped = 0 }

abbrev pub with_fault : ℕ → Told
with_fault fault = record { number = 0; fault = fault; place = 0; cause = 0; at = 0; dropped = 0 }

abbrev pub with_place : ℕ → Told
with_place place = record { number = 0; fault = 0; place = place; cause = 0; at = 0; dropped = 0 }

abbrev pub at_place : ℕ → ℕ → Told
at_place fault place = record { number = 0; fault = fault; place = place; cause = 0; at = 0; dropped = 0 }

-- ---- renewals

-- an event names what was released: this, after so many events
abbrev pub told_of_released : ℕ → ℕ → Told
told_of_released place before = record { number = min before 4294967295; fault = 0; place = place; cause = 0; at = 0; dropped = 0 }

-- ---- events

-- what was made, and how many links the event removed
abbrev pub told_of_reply : Reply → Told
told_of_reply reply = record {
  number = number_of reply.made;
  fault = 0;
  place = 0;
  cause = 0;
  at = 0;
  dropped = min (length reply.dropped) 4294967295;
}

abbrev pub told_of_retirement : RetireFault → Told
told_of_retirement retirement.UnknownLoader = with_fault 1
told_of_retirement retirement.FirstLoader = with_fault 2
told_of_retirement (retirement.Inherited c) = at_place 3 c
told_of_retirement (retirement.Recorded loader) = at_place 4 loader
told_of_retirement (retirement.Targeted c) = at_place 5 c

abbrev pub told_of_release : ReleaseFault → Told
told_of_release (release.UnknownCallSite c) = at_place 1 c
told_of_release (release.UnknownSwitch p) = at_place 2 p
told_of_release (release.Invoked c) = at_place 3 c
told_of_release (release.Guarded c) = at_place 4 c

abbrev pub told_of_refusal : Refusal → Told
told_of_refusal (refusal.Define fault) = with_fault (define_number fault)
told_of_refusal (refusal.NotLinkable reason) = with_fault (not_linkable_number reason)
told_of_refusal (refusal.CallSite fault) = at_place (call_site_number fault) (invoked_in fault)
told_of_refusal (refusal.Delegate fault) = with_fault (delegate_number fault)
told_of_refusal (refusal.AlreadyBound c) = with_place c
told_of_refusal (refusal.Stale s link) = with_place s
told_of_refusal (refusal.NotReady s) = with_place s
told_of_refusal (refusal.UnknownSite s) = with_place s
told_of_refusal (refusal.Repeated s) = with_place s
told_of_refusal refusal.UnknownClass = nothing
told_of_refusal refusal.NoSuchPlace = nothing
told_of_refusal refusal.SitesFull = nothing
told_of_refusal refusal.NotDynamic = nothing
told_of_refusal refusal.TypeMismatch = nothing
told_of_refusal refusal.BatchSize = nothing
told_of_refusal refusal.Memory = nothing
told_of_refusal refusal.LoadersFull = nothing
told_of_refusal (refusal.Retire fault) = told_of_retirement fault
told_of_refusal (refusal.RetireAll loader fault) = record (told_of_retirement fault) { number = loader }
told_of_refusal (refusal.Release fault) = told_of_release fault

-- by the outcome of the event
abbrev pub status_of : Result Reply Refusal → ℕ
status_of (Ok reply) = done
status_of (Err r) = status_of_refusal r

abbrev pub told_of : Result Reply Refusal → Told
told_of (Ok reply) = told_of_reply reply
told_of (Err r) = told_of_refusal r

-- a parent that is missing, that is no interface though it has to be one, or that isn't accessible, by its name (JVMS 5.3.5)
abbrev pub parent_named : DefineFault → Option (List ℕ)
parent_named (MissingParent name) = Some name
parent_named (NotAnInterface name) = Some name
parent_named (InaccessibleParent name) = Some name
parent_named _ = None

-- the class that a refusal tells of by its name
abbrev pub class_named : Result Reply Refusal → Option (List ℕ)
class_named (Err (refusal.Define fault)) = parent_named fault
class_named _ = None

abbrev pub told_of_unprepared : PrepareFault → Told
told_of_unprepared (preparation.NotReady s) = with_place s
told_of_unprepared (preparation.UnknownSite s) = with_place s
told_of_unprepared (preparation.Repeated s) = with_place s
told_of_unprepared preparation.BatchSize = nothing
told_of_unprepared preparation.Memory = nothing

-- ---- class files (JVMS 4)

-- a fault of the constant pool, at an entry
abbrev pub in_pool : ℕ → ℕ → Told
in_pool cause entry = record { number = 0; fault = 5; place = entry; cause = cause; at = 0; dropped = 0 }

abbrev pub told_of_pool : PoolFault → Told
told_of_pool pool.Truncated = in_pool 1 0
told_of_pool (pool.BadTag entry) = in_pool 2 entry
told_of_pool (pool.BadIndex entry) = in_pool 3 entry
told_of_pool (pool.BadUtf8 entry) = in_pool 4 entry
told_of_pool (pool.BadDescriptor entry) = in_pool 5 entry
told_of_pool pool.Memory = in_pool 0 0

-- a fault of a method's code, at a pc
abbrev pub in_code : ℕ → ℕ → ℕ → Told
in_code method cause pc = record { number = 0; fault = 10; place = method; cause = cause; at = pc; dropped = 0 }

abbrev pub told_of_code : ℕ → CodeFault → Told
told_of_code method (code.BadOpcode pc) = in_code method 1 pc
told_of_code method (code.CutShort pc) = in_code method 2 pc
told_of_code method (code.BadSwitch pc) = in_code method 3 pc
told_of_code method (code.BadOperand pc) = in_code method 4 pc
told_of_code method code.BadLayout = in_code method 5 0
told_of_code method code.Memory = in_code method 0 0

abbrev pub told_of_file : ClassFault → Told
told_of_file file.TooLarge = with_fault 1
told_of_file file.BadMagic = with_fault 2
told_of_file file.BadVersion = with_fault 3
told_of_file file.Truncated = with_fault 4
told_of_file (file.Pool fault) = told_of_pool fault
told_of_file file.ModuleFile = with_fault 6
told_of_file file.BadSuper = with_fault 7
told_of_file (file.DuplicateMethod method) = at_place 8 method
told_of_file (file.TwoCodes method) = at_place 9 method
told_of_file (file.Code method fault) = told_of_code method fault
told_of_file file.TrailingBytes = with_fault 11
told_of_file (file.BadMember member) = at_place 12 member
told_of_file (file.BadLink number) = at_place 13 number
told_of_file file.BadNest = with_fault 14
told_of_file file.Memory = nothing
