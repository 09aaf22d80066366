-- What an open linker holds, and what each call on a linker leaves, by the status that it answers.
use Rattle.std.specs.Prelude.{◌^◌, ◌≡◌, ◌⊎◌, ◌-◌, ◌<◌, ◌≤◌, ℕ, nat_le, nat_lt, ◌==◌, List, [], length, slice_get}
use Rattle.std.specs.Prelude.{Option, Some, None, option_map, Result, Ok, Err}
use Rattle.std.specs.Prelude.{if◌then◌else◌, Bool, ◌&&◌, MatchBool}
use Rattle.std.specs.Option.{option_map_or}
use Rattle.jl_classfile.specs.declared.fault.ClassFault.{ClassFault}
use Rattle.jl_classfile.specs.Parts.{Parts}
use Rattle.jl_classfile.specs.ClassFiles.{IsClassUpTo}
use Rattle.jl_classfile.specs.Conditions.{newest_of_17}
use Rattle.jl_classfile.specs.Shown.{shown}
use Rattle.jl_classfile.specs.Faults.{IsFaultUpTo}
use Rattle.jl_types.specs.declared.limits.Limits.{Limits}
use Rattle.jl_types.specs.Events.Event.{Event}
use Rattle.jl_types.specs.declared.event.EventOf.TheVariants as event
use Rattle.jl_types.specs.declared.event.Reply.{Reply}
use Rattle.jl_types.specs.declared.refusal.PrepareFault.{PrepareFault}
use Rattle.jl_types.specs.declared.refusal.Refusal.{Refusal}
use Rattle.jl_types.specs.declared.target.CallSiteKind.{CallSiteKind}
use Rattle.jl_types.specs.declared.target.CallSiteKind.TheVariants.{Constant, Mutable, Volatile}
use Rattle.jl_types.specs.Values.Target.{Target}
use Rattle.jl_types.specs.Linkage.Calls.{dispatch}
use Rattle.jl_types.specs.Events.History.{installed}
use Rattle.jl_relink.specs.declared.preparation.Prepared.{Prepared}
use Rattle.jl_relink.specs.Preparations.{IsPreparation}
use Rattle.jl_core.specs.State.{State, empty_core, events, world_of, IsApplied}
use Rattle.jl_json.specs.Commands.{is_method_descriptor}
use Rattle.jl_json.specs.Targets.{target_in}
use Rattle.jl_session.specs.Jsons.{IsReadAs, IsTextOf}
use Rattle.jl_session.specs.Obeying.{LacksAnswer}
use Rattle.jl_session.specs.Sessions.{Session, session_over, snapshot_of, IsSessionAnswer}
use Rattle.jl_host.specs.declared.told.Told.{Told}
use Rattle.jl_host.specs.declared.shown.CallAnswer.{CallAnswer}
use Rattle.jl_host.specs.declared.shown.LinkShown.{LinkShown}
use Rattle.jl_host.specs.Numbers.{done, memory, no_class_file, malformed, closed, open_already, status_of_unprepared}
use Rattle.jl_host.specs.Telling.{nothing, status_of, told_of, told_of_unprepared, told_of_file, class_named}
use Rattle.jl_host.specs.Copies.{IsCopied}
use Rattle.jl_host.specs.Showing.{recv_of, answer_shown, link_shown}

pub record Opened : Type 0 where
  pub session : Session  -- the core, and the batches of links that were prepared
  pub said : List ℕ  -- the text of the last answer
  pub named : Option (List ℕ)  -- the class that the refusal of the last event told of by its name

-- nothing was said yet over this core
abbrev pub opened_over : State → Opened
opened_over core = record { session = session_over core; said = []; named = None }

-- nothing happened yet, and there may be so many of each kind
abbrev pub newly_opened : Limits → Opened
newly_opened limits = opened_over (empty_core limits)

-- ---- opening

-- the most sites that may be requested
abbrev pub most_sites : ℕ
most_sites = 2 ^ 20

-- as many of each other kind as a linker may have
abbrev pub wide : ℕ → Limits
wide sites = record { sites = sites; loaders = 2 ^ 20; classes = 2 ^ 20; call_sites = 2 ^ 20; switches = 2 ^ 20 }

-- open already; no number of sites that may be; want of memory; or open, with nothing in it
abbrev pub IsOpen : ℕ → Option Opened → ℕ → Option Opened → Type 0
IsOpen max_sites (Some old) status new = (status ≡ open_already) × (new ≡ Some old)
IsOpen max_sites None status new =
    ((status ≡ done) × (1 ≤ max_sites) × (max_sites ≤ most_sites) × (new ≡ Some (newly_opened (wide max_sites))))
    ⊎ ((status ≡ malformed) × ((max_sites ≡ 0) ⊎ (most_sites < max_sites)) × (new ≡ None))
    ⊎ ((status ≡ memory) × (1 ≤ max_sites) × (max_sites ≤ most_sites) × (new ≡ None))

abbrev pub limits_of : ℕ → ℕ → ℕ → ℕ → ℕ → Limits
limits_of sites loaders classes call_sites switches =
    record { sites = sites; loaders = loaders; classes = classes; call_sites = call_sites; switches = switches }

-- there are some sites, and of no kind there are more than 2^20
abbrev pub may_be_asked : Limits → Bool
may_be_asked asked =
    nat_le 1 asked.sites
    && (nat_le asked.sites most_sites
    && (nat_le asked.loaders (2 ^ 20)
    && (nat_le asked.classes (2 ^ 20)
    && (nat_le asked.call_sites (2 ^ 20)
    && nat_le asked.switches (2 ^ 20)))))

-- 0 stands for 2^20
abbrev pub limit_asked : ℕ → ℕ
limit_asked n = if n == 0 then 2 ^ 20 else n

abbrev pub limits_asked : Limits → Limits
limits_asked asked =
    limits_of asked.sites (limit_asked asked.loaders) (limit_asked asked.classes) (limit_asked asked.call_sites) (limit_asked asked.switches)

-- open already; or open with these limits, and with nothing in it, or there was no memory; or these limits may not be
abbrev pub IsOpenWith : Limits → Option Opened → ℕ → Option Opened → Type 0
IsOpenWith asked (Some old) status new = (status ≡ open_already) × (new ≡ Some old)
IsOpenWith asked None status new =
    MatchBool (may_be_asked asked)
    (((status ≡ done) × (new ≡ Some (newly_opened (limits_asked asked)))) ⊎ ((status ≡ memory) × (new ≡ None)))
    ((status ≡ malformed) × (new ≡ None))

-- ---- events

-- the core takes the event or refuses it, and the status and what is told say which
pub record IsAsked (e : Event) (old : Opened) (status : ℕ) (told : Told) (new : Opened) : Type 0 where
  pub outcome : Result Reply Refusal
  pub applied : IsApplied old.session.core e outcome new.session.core
  pub batches : new.session.batches ≡ old.session.batches
  pub said : new.said ≡ old.said
  pub named : new.named ≡ class_named outcome
  pub status_is : status ≡ status_of outcome
  pub told_is : told ≡ told_of outcome

-- no event was asked for, for this reason
abbrev pub IsUnasked : ℕ → Opened → ℕ → Told → Opened → Type 0
IsUnasked reason old status told new = (status ≡ reason) × (told ≡ nothing) × (new ≡ old)

-- the event, if it is one
abbrev pub IsAskedIf : Option Event → Opened → ℕ → Told → Opened → Type 0
IsAskedIf None old status told new = IsUnasked malformed old status told new
IsAskedIf (Some e) old status told new = IsAsked e old status told new

-- the linker isn't open; or it is, and this holds of the call
abbrev pub IfOpen : (Opened → ℕ → Told → Opened → Type 0) → Option Opened → ℕ → Told → Option Opened → Type 0
IfOpen IsSo None status told new = (status ≡ closed) × (told ≡ nothing) × (new ≡ None)
IfOpen IsSo (Some old) status told new = (next : Opened) × (new ≡ Some next) × IsSo old status told next

-- the linker isn't open; or this holds of the call; or there was no memory for what the event is to have
abbrev pub IfOpenWithMemory : (Opened → ℕ → Told → Opened → Type 0) → Option Opened → ℕ → Told → Option Opened → Type 0
IfOpenWithMemory IsSo = IfOpen (λ old status told new. IsSo old status told new ⊎ IsUnasked memory old status told new)

abbrev pub IsNewLoader : Option Opened → ℕ → Told → Option Opened → Type 0
IsNewLoader = IfOpen (IsAsked event.NewLoader)

-- the bytes aren't a class file of a version up to the newest one, or there was no memory to read them
abbrev pub IsUnreadUpTo : ℕ → List ℕ → Opened → ℕ → Told → Opened → Type 0
IsUnreadUpTo newest bytes old status told new =
    ((f : ClassFault) × IsFaultUpTo newest bytes f × (status ≡ no_class_file) × (told ≡ told_of_file f) × (new ≡ old))
    ⊎ IsUnasked memory old status told new

-- the event of the class that the bytes are; or why they aren't read (JVMS 4)
abbrev pub IsDefinedUpTo : ℕ → ℕ → List ℕ → Opened → ℕ → Told → Opened → Type 0
IsDefinedUpTo newest loader bytes old status told new =
    ((p : Parts) × IsClassUpTo newest bytes p × IsAsked (event.Define loader (shown p)) old status told new)
    ⊎ IsUnreadUpTo newest bytes old status told new

abbrev pub IsDefineUpTo : ℕ → ℕ → List ℕ → Option Opened → ℕ → Told → Option Opened → Type 0
IsDefineUpTo newest loader bytes = IfOpen (IsDefinedUpTo newest loader bytes)

-- the definition by a class file of a version up to that of SE 17
abbrev pub IsDefine : ℕ → List ℕ → Option Opened → ℕ → Told → Option Opened → Type 0
IsDefine loader bytes = IsDefineUpTo newest_of_17 loader bytes

abbrev pub IsDelegate : ℕ → List ℕ → ℕ → Option Opened → ℕ → Told → Option Opened → Type 0
IsDelegate loader name to = IfOpenWithMemory (IsAsked (event.Delegate loader name to))

-- whether the bytes are a class file of a version up to the newest one; no event is asked for
abbrev pub IsCheckedUpTo : ℕ → List ℕ → Opened → ℕ → Told → Opened → Type 0
IsCheckedUpTo newest bytes old status told new =
    ((p : Parts) × IsClassUpTo newest bytes p × IsUnasked done old status told new) ⊎ IsUnreadUpTo newest bytes old status told new

abbrev pub IsCheckUpTo : ℕ → List ℕ → Option Opened → ℕ → Told → Option Opened → Type 0
IsCheckUpTo newest bytes = IfOpen (IsCheckedUpTo newest bytes)

-- a method is among the first 2^16 of its class
abbrev pub request_at : ℕ → ℕ → ℕ → Option Event
request_at class method pc =
    if nat_lt method 65536 then Some (event.Request (record { class = class; method = method; pc = pc })) else None

abbrev pub IsRequest : ℕ → ℕ → ℕ → Option Opened → ℕ → Told → Option Opened → Type 0
IsRequest class method pc = IfOpen (IsAskedIf (request_at class method pc))

abbrev pub kind_of : ℕ → Option CallSiteKind
kind_of n = if n == 1 then Some Constant else if n == 2 then Some Mutable else if n == 3 then Some Volatile else None

-- a kind, a method descriptor (JVMS 4.3.3) and a target
abbrev pub call_site_of : Option CallSiteKind → List ℕ → Option Target → Option Event
call_site_of None ty t = None
call_site_of (Some kind) ty None = None
call_site_of (Some kind) ty (Some t) = if is_method_descriptor ty then Some (event.NewCallSite kind ty t) else None

-- a target is read from its JSON
abbrev pub IsNewCallSite : ℕ → List ℕ → List ℕ → Option Opened → ℕ → Told → Option Opened → Type 0
IsNewCallSite kind ty text = IfOpenWithMemory (λ old status told new.
    (t : Option Target) × IsReadAs target_in text t × IsAskedIf (call_site_of (kind_of kind) ty t) old status told new)

abbrev pub IsSetTarget : ℕ → List ℕ → Option Opened → ℕ → Told → Option Opened → Type 0
IsSetTarget c text = IfOpenWithMemory (λ old status told new.
    (t : Option Target) × IsReadAs target_in text t × IsAskedIf (option_map (event.SetTarget c) t) old status told new)

abbrev pub IsNewSwitch : Option Opened → ℕ → Told → Option Opened → Type 0
IsNewSwitch = IfOpen (IsAsked event.NewSwitch)

abbrev pub IsInvalidate : List ℕ → Option Opened → ℕ → Told → Option Opened → Type 0
IsInvalidate points = IfOpenWithMemory (IsAsked (event.Invalidate points))

abbrev pub IsBind : ℕ → ℕ → Option Opened → ℕ → Told → Option Opened → Type 0
IsBind s c = IfOpen (IsAsked (event.Bind s c))

abbrev pub IsRetire : ℕ → Option Opened → ℕ → Told → Option Opened → Type 0
IsRetire loader = IfOpen (IsAsked (event.Retire loader))

abbrev pub IsRetireAll : List ℕ → Option Opened → ℕ → Told → Option Opened → Type 0
IsRetireAll loaders = IfOpenWithMemory (IsAsked (event.RetireAll loaders))

abbrev pub IsRelease : List ℕ → List ℕ → Option Opened → ℕ → Told → Option Opened → Type 0
IsRelease call_sites points = IfOpenWithMemory (IsAsked (event.Release call_sites points))

-- by the outcome of the preparation of the sites
abbrev pub IsInstallOf : Result Prepared PrepareFault → Opened → ℕ → Told → Opened → Type 0
IsInstallOf (Ok prepared) old status told new = IsAsked (event.Install prepared.rows) old status told new
IsInstallOf (Err f) old status told new = (status ≡ status_of_unprepared f) × (told ≡ told_of_unprepared f) × (new ≡ old)

-- the sites are prepared in the core as it is, and their links installed
abbrev pub IsInstalled : List ℕ → Opened → ℕ → Told → Opened → Type 0
IsInstalled sites old status told new =
    (outcome : Result Prepared PrepareFault) × IsPreparation (snapshot_of old.session) sites outcome
    × IsInstallOf outcome old status told new

abbrev pub IsInstall : List ℕ → Option Opened → ℕ → Told → Option Opened → Type 0
IsInstall sites = IfOpenWithMemory (IsInstalled sites)

-- ---- lists that are copied into an array

-- the linker isn't open, and nothing was written; or these are copied
abbrev pub IsTaken : (Opened → List ℕ) → Option Opened → List ℕ → ℕ → ℕ → List ℕ → ℕ → Option Opened → Type 0
IsTaken items None before length_before status after count new =
    (status ≡ closed) × (after ≡ before) × (count ≡ length_before) × (new ≡ None)
IsTaken items (Some old) before length_before status after count new = IsCopied (items old) before status after count × (new ≡ Some old)

-- what the last accepted event dropped
abbrev pub last_dropped : State → List ℕ
last_dropped core = option_map_or (λ entry. entry.1.dropped) (slice_get core.log (length core.log - 1)) []

abbrev pub IsDropped : Option Opened → List ℕ → ℕ → ℕ → List ℕ → ℕ → Option Opened → Type 0
IsDropped = IsTaken (λ old. last_dropped old.session.core)

abbrev pub IsTake : Option Opened → List ℕ → ℕ → ℕ → List ℕ → ℕ → Option Opened → Type 0
IsTake = IsTaken (λ old. old.said)

-- ---- calls and links

-- the linker isn't open, and nothing was written; or this is
abbrev pub IsWritten : {A : Type 0} → (Opened → A) → Option Opened → A → ℕ → A → Option Opened → Type 0
IsWritten value None before status after new = (status ≡ closed) × (after ≡ before) × (new ≡ None)
IsWritten value (Some old) before status after new = (status ≡ done) × (after ≡ value old) × (new ≡ Some old)

-- the answer of the call now
abbrev pub IsCall : ℕ → ℕ → Option Opened → CallAnswer → ℕ → CallAnswer → Option Opened → Type 0
IsCall site receiver = IsWritten (λ old. answer_shown (dispatch (world_of old.session.core) site (recv_of receiver)))

-- the installed link
abbrev pub IsLinkOf : ℕ → Option Opened → LinkShown → ℕ → LinkShown → Option Opened → Type 0
IsLinkOf site = IsWritten (λ old. link_shown (installed (events old.session.core) site))

-- ---- commands as text

-- The answer is kept, and its length told; or there was no memory for it, and the command was obeyed or the session stays. In both cases
-- what an event named stays.
abbrev pub IsAnswered : List ℕ → Opened → ℕ → ℕ → ℕ → Opened → Type 0
IsAnswered line old before status count new =
    ((status ≡ done) × IsTextOf (λ answer. IsSessionAnswer old.session line answer new.session) new.said × (count ≡ length new.said)
    × (new.named ≡ old.named))
    ⊎ ((status ≡ memory) × LacksAnswer old.session (λ answer. IsSessionAnswer old.session line answer new.session) new.session
    × (new.said ≡ old.said) × (count ≡ before) × (new.named ≡ old.named))

abbrev pub IsAnswer : List ℕ → Option Opened → ℕ → ℕ → ℕ → Option Opened → Type 0
IsAnswer line None before status count new = (status ≡ closed) × (count ≡ before) × (new ≡ None)
IsAnswer line (Some old) before status count new = (next : Opened) × (new ≡ Some next) × IsAnswered line old before status count next
