-- Numbers that hosts know by include/linkd.h, and what is shown of small values.
pub mod Renewing
use Rattle.std.specs.Prelude.{◌≡◌, ℕ, ◌+◌, ◌*◌, List, [], ◌∷◌, ◌++◌, map, replicate, Some, None, option_map}
use Rattle.std.proofs.Common.{refl}
use Rattle.jl_pool.specs.declared.pool_fault.PoolFault.TheVariants as pool
use Rattle.jl_code.specs.declared.code_fault.CodeFault.TheVariants as code
use Rattle.jl_classfile.specs.declared.fault.ClassFault.TheVariants as file
use Rattle.jl_types.specs.declared.event.Made.TheVariants as made
use Rattle.jl_types.specs.declared.refusal.DefineFault.TheVariants as definition
use Rattle.jl_types.specs.declared.refusal.DelegateFault.TheVariants as delegation
use Rattle.jl_types.specs.declared.refusal.CallSiteFault.TheVariants as site
use Rattle.jl_types.specs.declared.refusal.NotLinkable.TheVariants.{ArrayReceiver, PolymorphicSignature}
use Rattle.jl_types.specs.declared.refusal.PrepareFault.TheVariants as preparation
use Rattle.jl_types.specs.declared.refusal.Refusal.TheVariants as refusal
use Rattle.jl_types.specs.declared.refusal.ReleaseFault.TheVariants as release
use Rattle.jl_types.specs.declared.refusal.RetireFault.TheVariants as retirement
use Rattle.jl_types.specs.declared.answer.Answer.TheVariants as answer
use Rattle.jl_types.specs.declared.answer.Fast.TheVariants.{Now, Miss}
use Rattle.jl_types.specs.declared.answer.Missing.TheVariants.{Named, CallerHost, MethodHost}
use Rattle.jl_types.specs.declared.answer.Outcome.TheVariants.{Run, Throws}
use Rattle.jl_types.specs.declared.answer.Recv.TheVariants.{Null, Of}
use Rattle.jl_types.specs.declared.answer.Throwable.TheVariants as throwable
use Rattle.jl_types.specs.declared.answer.Unlinked.TheVariants as unlinked
use Rattle.jl_types.specs.declared.ids.MethodId.{MethodId}
use Rattle.jl_types.specs.declared.link.Link.TheVariants as link
use Rattle.jl_types.specs.declared.link.TableKind.TheVariants.{Virtual, Interface}
use Rattle.jl_types.specs.declared.target.CallSiteKind.TheVariants.{Constant, Mutable, Volatile}
use Rattle.jl_types.specs.Values.Target.{Target, Method, Guard, Invoker}
use Rattle.jl_host.specs.declared.told.Told.{Told}
use Rattle.jl_host.specs.declared.shown.Row.{Row}
use Rattle.jl_host.specs.declared.targets.TargetPart.{TargetPart}
use Rattle.jl_host.specs.Numbers.{done, memory, no_class_file, malformed, closed, open_already, too_short}
use Rattle.jl_host.specs.Numbers.{status_of_refusal, define_number, call_site_number, delegate_number, not_linkable_number, status_of_unprepared}
use Rattle.jl_host.specs.Numbers.{status_of_file, number_of}
use Rattle.jl_host.specs.Telling.{told_of_refusal, told_of_reply, told_of_unprepared, told_of_file}
use Rattle.jl_host.specs.Showing.{recv_of, answer_shown, fast_shown, bits_of, answer_of, link_shown, shown}
use Rattle.jl_host.specs.declared.shown.LinkShown.{LinkShown}
use Rattle.jl_host.specs.Reading.{link_of, all_of}
use Rattle.jl_host.specs.Targets.{nesting, part, targets_of, target_of}
use Rattle.jl_host.specs.Linkers.{kind_of}

-- ---- statuses

statuses : done ∷ memory ∷ no_class_file ∷ malformed ∷ closed ∷ open_already ∷ too_short ∷ [] ≡ 0 ∷ 15 ∷ 32 ∷ 33 ∷ 34 ∷ 35 ∷ 36 ∷ []
statuses = refl

refusals : map status_of_refusal (refusal.Define definition.Full ∷ refusal.UnknownClass ∷ refusal.NoSuchPlace ∷ refusal.NotLinkable ArrayReceiver
    ∷ refusal.SitesFull
    ∷ refusal.CallSite site.Full ∷ refusal.NotDynamic ∷ refusal.AlreadyBound 0 ∷ refusal.TypeMismatch ∷ refusal.Stale 0 link.Mega ∷ refusal.NotReady 0
    ∷ refusal.UnknownSite 0
    ∷ refusal.Repeated 0 ∷ refusal.BatchSize ∷ refusal.Memory ∷ refusal.Delegate delegation.NotRecorded ∷ refusal.LoadersFull
    ∷ refusal.Retire retirement.FirstLoader ∷ refusal.RetireAll 7 retirement.FirstLoader ∷ refusal.Release (release.Guarded 7) ∷ [])
    ≡ 1 ∷ 2 ∷ 3 ∷ 4 ∷ 5 ∷ 6 ∷ 7 ∷ 8 ∷ 9 ∷ 10 ∷ 11 ∷ 12 ∷ 13 ∷ 14 ∷ 15 ∷ 16 ∷ 17 ∷ 19 ∷ 19 ∷ 20 ∷ []
refusals = refl

unprepared : map status_of_unprepared (preparation.NotReady 0 ∷ preparation.UnknownSite 0 ∷ preparation.Repeated 0 ∷ preparation.BatchSize ∷ preparation.Memory
    ∷ [])
    ≡ 11 ∷ 12 ∷ 13 ∷ 14 ∷ 15 ∷ []
unprepared = refl

-- ---- what stands in a refusal

definitions : map define_number (definition.UnknownLoader ∷ definition.AlreadyRecorded ∷ definition.NamesItself ∷ definition.MissingParent []
    ∷ definition.SuperIsInterface
    ∷ definition.FinalSuper ∷ definition.NotAnInterface [] ∷ definition.InaccessibleParent [] ∷ definition.SecondObject ∷ definition.Full ∷ [])
    ≡ 1 ∷ 2 ∷ 3 ∷ 4 ∷ 5 ∷ 6 ∷ 7 ∷ 8 ∷ 9 ∷ 10 ∷ []
definitions = refl

call_sites : map call_site_number (site.UnknownCallSite ∷ site.Constant ∷ site.WrongType ∷ site.UnknownMethod ∷ site.NotStatic ∷ site.UnknownSwitch
    ∷ site.TooDeep ∷ site.Full
    ∷ site.InvokerOrder 7 ∷ [])
    ≡ 1 ∷ 2 ∷ 3 ∷ 4 ∷ 5 ∷ 6 ∷ 7 ∷ 8 ∷ 9 ∷ []
call_sites = refl

delegations : map delegate_number (delegation.UnknownLoader ∷ delegation.NotRecorded ∷ delegation.AlreadyRecorded ∷ []) ≡ 1 ∷ 2 ∷ 3 ∷ []
delegations = refl

never_linked : map not_linkable_number (ArrayReceiver ∷ PolymorphicSignature ∷ []) ≡ 1 ∷ 2 ∷ []
never_linked = refl

kinds : map kind_of (0 ∷ 1 ∷ 2 ∷ 3 ∷ 4 ∷ []) ≡ None ∷ Some Constant ∷ Some Mutable ∷ Some Volatile ∷ None ∷ []
kinds = refl

made_numbers : map number_of (made.Nothing ∷ made.Loader 4 ∷ made.Class 5 ∷ made.Site 6 ∷ made.CallSite 7 ∷ made.Switch 8 ∷ []) ≡ 0 ∷ 4 ∷ 5 ∷ 6 ∷ 7 ∷ 8 ∷ []
made_numbers = refl

-- ---- what is told: the number, the fault, the place, the cause, the pc

abbrev five : Told → List ℕ
five told = told.number ∷ told.fault ∷ told.place ∷ told.cause ∷ told.at ∷ []

told_events : map five (told_of_reply (record { made = made.Class 7; dropped = 3 ∷ [] }) ∷ told_of_refusal (refusal.Define definition.FinalSuper)
    ∷ told_of_refusal (refusal.NotLinkable PolymorphicSignature) ∷ told_of_refusal (refusal.CallSite site.TooDeep)
    ∷ told_of_refusal (refusal.Delegate delegation.AlreadyRecorded)
    ∷ told_of_refusal (refusal.AlreadyBound 7) ∷ told_of_refusal (refusal.Stale 7 link.Mega) ∷ told_of_refusal (refusal.NotReady 7)
    ∷ told_of_refusal (refusal.UnknownSite 7)
    ∷ told_of_refusal (refusal.Repeated 7) ∷ told_of_refusal refusal.SitesFull ∷ told_of_unprepared (preparation.NotReady 7)
    ∷ told_of_refusal (refusal.CallSite (site.InvokerOrder 7)) ∷ [])
    ≡ (7 ∷ 0 ∷ 0 ∷ 0 ∷ 0 ∷ []) ∷ (0 ∷ 6 ∷ 0 ∷ 0 ∷ 0 ∷ []) ∷ (0 ∷ 2 ∷ 0 ∷ 0 ∷ 0 ∷ []) ∷ (0 ∷ 7 ∷ 0 ∷ 0 ∷ 0 ∷ []) ∷ (0 ∷ 3 ∷ 0 ∷ 0 ∷ 0 ∷ [])
    ∷ (0 ∷ 0 ∷ 7 ∷ 0 ∷ 0 ∷ [])
    ∷ (0 ∷ 0 ∷ 7 ∷ 0 ∷ 0 ∷ []) ∷ (0 ∷ 0 ∷ 7 ∷ 0 ∷ 0 ∷ []) ∷ (0 ∷ 0 ∷ 7 ∷ 0 ∷ 0 ∷ []) ∷ (0 ∷ 0 ∷ 7 ∷ 0 ∷ 0 ∷ []) ∷ (0 ∷ 0 ∷ 0 ∷ 0 ∷ 0 ∷ [])
    ∷ (0 ∷ 0 ∷ 7 ∷ 0 ∷ 0 ∷ []) ∷ (0 ∷ 9 ∷ 7 ∷ 0 ∷ 0 ∷ []) ∷ []
told_events = refl

-- a retirement of several tells by the number the loader that keeps them from going, and one of a single loader tells no number
told_retirements : map five (told_of_refusal (refusal.Retire retirement.UnknownLoader) ∷ told_of_refusal (refusal.Retire (retirement.Recorded 7))
    ∷ told_of_refusal (refusal.RetireAll 6 retirement.UnknownLoader) ∷ told_of_refusal (refusal.RetireAll 0 retirement.FirstLoader)
    ∷ told_of_refusal (refusal.RetireAll 6 (retirement.Inherited 7)) ∷ told_of_refusal (refusal.RetireAll 6 (retirement.Recorded 7))
    ∷ told_of_refusal (refusal.RetireAll 6 (retirement.Targeted 7)) ∷ [])
    ≡ (0 ∷ 1 ∷ 0 ∷ 0 ∷ 0 ∷ []) ∷ (0 ∷ 4 ∷ 7 ∷ 0 ∷ 0 ∷ []) ∷ (6 ∷ 1 ∷ 0 ∷ 0 ∷ 0 ∷ []) ∷ (0 ∷ 2 ∷ 0 ∷ 0 ∷ 0 ∷ []) ∷ (6 ∷ 3 ∷ 7 ∷ 0 ∷ 0 ∷ [])
    ∷ (6 ∷ 4 ∷ 7 ∷ 0 ∷ 0 ∷ []) ∷ (6 ∷ 5 ∷ 7 ∷ 0 ∷ 0 ∷ []) ∷ []
told_retirements = refl

told_releases : map (λ f. five (told_of_refusal (refusal.Release f)))
    (release.UnknownCallSite 7 ∷ release.UnknownSwitch 7 ∷ release.Invoked 7 ∷ release.Guarded 7 ∷ [])
    ≡ (0 ∷ 1 ∷ 7 ∷ 0 ∷ 0 ∷ []) ∷ (0 ∷ 2 ∷ 7 ∷ 0 ∷ 0 ∷ []) ∷ (0 ∷ 3 ∷ 7 ∷ 0 ∷ 0 ∷ []) ∷ (0 ∷ 4 ∷ 7 ∷ 0 ∷ 0 ∷ []) ∷ []
told_releases = refl

told_files : map (λ f. five (told_of_file f)) (file.TooLarge ∷ file.BadMagic ∷ file.BadVersion ∷ file.Truncated ∷ file.Pool pool.Truncated
    ∷ file.Pool (pool.BadTag 9)
    ∷ file.Pool (pool.BadIndex 9) ∷ file.Pool (pool.BadUtf8 9) ∷ file.Pool (pool.BadDescriptor 9) ∷ file.ModuleFile ∷ file.BadSuper ∷ file.DuplicateMethod 9
    ∷ file.TwoCodes 9
    ∷ file.Code 9 (code.BadOpcode 8) ∷ file.Code 9 (code.CutShort 8) ∷ file.Code 9 (code.BadSwitch 8) ∷ file.Code 9 (code.BadOperand 8)
    ∷ file.Code 9 code.BadLayout
    ∷ file.TrailingBytes ∷ file.BadMember 9 ∷ file.BadLink 9 ∷ file.BadNest ∷ [])
    ≡ (0 ∷ 1 ∷ 0 ∷ 0 ∷ 0 ∷ []) ∷ (0 ∷ 2 ∷ 0 ∷ 0 ∷ 0 ∷ []) ∷ (0 ∷ 3 ∷ 0 ∷ 0 ∷ 0 ∷ []) ∷ (0 ∷ 4 ∷ 0 ∷ 0 ∷ 0 ∷ []) ∷ (0 ∷ 5 ∷ 0 ∷ 1 ∷ 0 ∷ [])
    ∷ (0 ∷ 5 ∷ 9 ∷ 2 ∷ 0 ∷ [])
    ∷ (0 ∷ 5 ∷ 9 ∷ 3 ∷ 0 ∷ []) ∷ (0 ∷ 5 ∷ 9 ∷ 4 ∷ 0 ∷ []) ∷ (0 ∷ 5 ∷ 9 ∷ 5 ∷ 0 ∷ []) ∷ (0 ∷ 6 ∷ 0 ∷ 0 ∷ 0 ∷ []) ∷ (0 ∷ 7 ∷ 0 ∷ 0 ∷ 0 ∷ [])
    ∷ (0 ∷ 8 ∷ 9 ∷ 0 ∷ 0 ∷ []) ∷ (0 ∷ 9 ∷ 9 ∷ 0 ∷ 0 ∷ [])
    ∷ (0 ∷ 10 ∷ 9 ∷ 1 ∷ 8 ∷ []) ∷ (0 ∷ 10 ∷ 9 ∷ 2 ∷ 8 ∷ []) ∷ (0 ∷ 10 ∷ 9 ∷ 3 ∷ 8 ∷ []) ∷ (0 ∷ 10 ∷ 9 ∷ 4 ∷ 8 ∷ []) ∷ (0 ∷ 10 ∷ 9 ∷ 5 ∷ 0 ∷ [])
    ∷ (0 ∷ 11 ∷ 0 ∷ 0 ∷ 0 ∷ []) ∷ (0 ∷ 12 ∷ 9 ∷ 0 ∷ 0 ∷ []) ∷ (0 ∷ 13 ∷ 9 ∷ 0 ∷ 0 ∷ []) ∷ (0 ∷ 14 ∷ 0 ∷ 0 ∷ 0 ∷ []) ∷ []
told_files = refl

file_statuses : map status_of_file (file.BadNest ∷ file.Pool pool.Truncated ∷ file.Memory ∷ []) ≡ 32 ∷ 32 ∷ 15 ∷ []
file_statuses = refl

-- ---- receivers, answers and links

receivers : map recv_of (0 ∷ 65535 ∷ 4294967294 ∷ 4294967295 ∷ []) ≡ Of 0 ∷ Of 65535 ∷ Of 4294967294 ∷ Null ∷ []
receivers = refl

abbrev m : MethodId
m = record { class = 5; index = 6 }

answers : map (λ a. let shown = answer_shown a in shown.kind ∷ shown.class_number ∷ shown.value ∷ []) (answer.Run m ∷ answer.Throws throwable.NoSuchMethodError
    ∷ answer.Throws throwable.IllegalAccessError ∷ answer.Throws throwable.IncompatibleClassChangeError ∷ answer.Throws throwable.AbstractMethodError
    ∷ answer.Throws throwable.NullPointerException ∷ answer.BadReceiver ∷ answer.Unlinked (unlinked.NotReady Named)
    ∷ answer.Unlinked (unlinked.NotReady CallerHost)
    ∷ answer.Unlinked (unlinked.NotReady MethodHost) ∷ answer.Unlinked unlinked.Unbound ∷ answer.Unlinked unlinked.Gone ∷ answer.Unlinked unlinked.NoSite ∷ [])
    ≡ (0 ∷ 5 ∷ 6 ∷ []) ∷ (1 ∷ 0 ∷ 1 ∷ []) ∷ (1 ∷ 0 ∷ 2 ∷ []) ∷ (1 ∷ 0 ∷ 3 ∷ []) ∷ (1 ∷ 0 ∷ 4 ∷ []) ∷ (1 ∷ 0 ∷ 5 ∷ []) ∷ (2 ∷ 0 ∷ 0 ∷ []) ∷ (3 ∷ 0 ∷ 1 ∷ [])
    ∷ (3 ∷ 0 ∷ 2 ∷ [])
    ∷ (3 ∷ 0 ∷ 3 ∷ []) ∷ (3 ∷ 0 ∷ 4 ∷ []) ∷ (3 ∷ 0 ∷ 5 ∷ []) ∷ (3 ∷ 0 ∷ 6 ∷ []) ∷ []
answers = refl

at_once : map (λ f. (fast_shown f).kind) (Now (answer.Run m) ∷ Now answer.BadReceiver ∷ Miss ∷ []) ≡ 0 ∷ 2 ∷ 4 ∷ []
at_once = refl

abbrev nothing : Row
nothing = record { receiver = 0; kind = 0; class_number = 0; value = 0 }

links : map (λ l. let shown = link_shown l in shown.kind ∷ shown.count ∷ []) (None ∷ Some (link.Fault throwable.IllegalAccessError) ∷ Some (link.Plain m)
    ∷ Some (link.Direct (Run m))
    ∷ Some (link.Table Virtual []) ∷ Some (link.Table Interface ((3, Run m) ∷ (4, Run m) ∷ [])) ∷ Some link.Mega ∷ [])
    ≡ (0 ∷ 0 ∷ []) ∷ (1 ∷ 1 ∷ []) ∷ (2 ∷ 1 ∷ []) ∷ (3 ∷ 1 ∷ []) ∷ (4 ∷ 0 ∷ []) ∷ (5 ∷ 2 ∷ []) ∷ (6 ∷ 0 ∷ []) ∷ []
links = refl

table_rows : (link_shown (Some (link.Table Virtual ((3, Run m) ∷ (4, Throws throwable.AbstractMethodError) ∷ [])))).rows
    ≡ record { receiver = 3; kind = 0; class_number = 5; value = 6 } ∷ record { receiver = 4; kind = 1; class_number = 0; value = 4 }
    ∷ nothing ∷ nothing ∷ nothing ∷ nothing ∷ nothing ∷ nothing ∷ []
table_rows = refl

single_rows : map (λ l. (link_shown l).rows) (Some (link.Fault throwable.IllegalAccessError) ∷ Some (link.Plain m)
    ∷ Some (link.Direct (Throws throwable.NullPointerException)) ∷ [])
    ≡ (record { receiver = 0; kind = 1; class_number = 0; value = 2 } ∷ replicate 7 nothing)
    ∷ (record { receiver = 0; kind = 0; class_number = 5; value = 6 } ∷ replicate 7 nothing)
    ∷ (record { receiver = 0; kind = 1; class_number = 0; value = 5 } ∷ replicate 7 nothing) ∷ []
single_rows = refl

-- ---- links that are given: what was shown is read again, and what no link is isn't

read_again : map (λ l. link_of (shown l)) (link.Fault throwable.IllegalAccessError ∷ link.Plain m ∷ link.Direct (Run m)
    ∷ link.Direct (Throws throwable.AbstractMethodError) ∷ link.Table Virtual []
    ∷ link.Table Interface ((3, Run m) ∷ (4, Throws throwable.NoSuchMethodError) ∷ []) ∷ link.Mega ∷ [])
    ≡ map Some (link.Fault throwable.IllegalAccessError ∷ link.Plain m ∷ link.Direct (Run m)
    ∷ link.Direct (Throws throwable.AbstractMethodError) ∷ link.Table Virtual []
    ∷ link.Table Interface ((3, Run m) ∷ (4, Throws throwable.NoSuchMethodError) ∷ []) ∷ link.Mega ∷ [])
unfolding all_of
read_again = refl

abbrev given : ℕ → ℕ → ℕ → ℕ → LinkShown
given kind count first value = record {
  kind = kind;
  count = count;
  rows = record { receiver = 3; kind = first; class_number = 5; value = value } ∷ replicate 7 nothing;
}

no_links : map link_of (given 0 0 0 0 ∷ given 1 1 0 6 ∷ given 2 1 1 1 ∷ given 3 0 0 6 ∷ given 3 2 0 6 ∷ given 3 1 2 6 ∷ given 3 1 1 6 ∷ given 3 1 0 65536
    ∷ given 4 9 0 6 ∷ given 4 1 2 6 ∷ given 6 1 0 6 ∷ given 7 1 0 6 ∷ [])
    ≡ replicate 12 None
unfolding all_of
no_links = refl

-- ---- targets that are given: the parts of a guard follow it, and those of its parts follow these

abbrev runs : Target
runs = Method m

targets : map target_of ((part 0 5 6 ∷ []) ∷ (part 0 5 65535 ∷ []) ∷ (part 1 7 9 ∷ part 0 5 6 ∷ part 2 8 9 ∷ []) ∷ (part 2 8 9 ∷ [])
    ∷ (part 1 7 0 ∷ part 1 3 0 ∷ part 0 5 6 ∷ part 2 1 0 ∷ part 2 2 0 ∷ [])
    ∷ (part 1 7 0 ∷ part 2 1 0 ∷ part 1 3 0 ∷ part 0 5 6 ∷ part 2 2 0 ∷ [])
    ∷ (part 1 7 0 ∷ part 1 3 0 ∷ part 2 1 0 ∷ part 2 2 0 ∷ part 1 4 0 ∷ part 0 5 6 ∷ part 2 3 0 ∷ []) ∷ [])
    ≡ map Some (runs ∷ Method (record { class = 5; index = 65535 }) ∷ Guard 7 runs (Invoker 8) ∷ Invoker 8
    ∷ Guard 7 (Guard 3 runs (Invoker 1)) (Invoker 2) ∷ Guard 7 (Invoker 1) (Guard 3 runs (Invoker 2))
    ∷ Guard 7 (Guard 3 (Invoker 1) (Invoker 2)) (Guard 4 runs (Invoker 3)) ∷ [])
unfolding targets_of
targets = refl

-- none, one too many, one too few, a guard after its parts, a kind that is none, and a method that is too large
no_targets : map target_of ([] ∷ (part 0 5 6 ∷ part 2 8 0 ∷ []) ∷ (part 1 7 0 ∷ part 0 5 6 ∷ part 2 8 0 ∷ part 2 8 0 ∷ [])
    ∷ (part 1 7 0 ∷ []) ∷ (part 1 7 0 ∷ part 0 5 6 ∷ []) ∷ (part 0 5 6 ∷ part 2 8 0 ∷ part 1 7 0 ∷ [])
    ∷ (part 3 5 6 ∷ []) ∷ (part 1 7 0 ∷ part 0 5 6 ∷ part 3 5 6 ∷ []) ∷ (part 0 5 65536 ∷ []) ∷ [])
    ≡ replicate 9 None
unfolding targets_of
no_targets = refl

-- guards, so many below one another, each the first part of the one above it, and at the bottom this part
abbrev firsts : ℕ → TargetPart → List TargetPart
firsts n bottom = replicate n (part 1 0 0) ++ bottom ∷ replicate n (part 2 8 0)

-- as deep as JSON may be, and one deeper
deepest : map (λ parts. option_map nesting (target_of parts))
    (firsts 125 (part 0 5 6) ∷ firsts 126 (part 0 5 6) ∷ firsts 126 (part 2 8 0) ∷ firsts 127 (part 2 8 0) ∷ [])
    ≡ Some 127 ∷ None ∷ Some 127 ∷ None ∷ []
unfolding targets_of
deepest = refl

-- ---- answers in 64 bits

run_in_bits : bits_of (answer_shown (answer.Run (record { class = 5; index = 2 }))) ≡ 5 + 2 * 4294967296
run_in_bits = refl

last_run_in_bits : bits_of (answer_shown (answer.Run (record { class = 4294967295; index = 65535 }))) ≡ 281474976710655
last_run_in_bits = refl

thrown_in_bits : bits_of (answer_shown (answer.Throws throwable.NullPointerException)) ≡ 72057594037927936 + 5 * 4294967296
thrown_in_bits = refl

miss_in_bits : bits_of (fast_shown Miss) ≡ 288230376151711744
miss_in_bits = refl

had_back_from_bits : answer_of (72057594037927936 + 5 * 4294967296) ≡ answer_shown (answer.Throws throwable.NullPointerException)
had_back_from_bits = refl
