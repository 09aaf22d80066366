-- The answer to an event, and the world after it.
use Rattle.std.specs.Prelude.{◌≡◌, ◌≢◌, ◌<◌, ◌≤◌, All, AllPairs, ℕ, Bool, true, false, not, ◌&&◌, ◌||◌, ◌==◌, nat_le, List, [], ◌∷◌, ◌++◌, map}
use Rattle.std.specs.Prelude.{position, length, slice_get, slice_set, fold, Option, Some, None, Result, Ok, Err, option_map, codes, if◌then◌else◌}
use Rattle.std.specs.Option.{option_map_or}
use Rattle.std.specs.List.{list_any, starts_with}
use Rattle.std.specs.Bool.{then_some}
use Rattle.std.specs.Str.{bytes_eq}
use Rattle.jl_class.specs.declared.site.Operand.{Operand}
use Rattle.jl_class.specs.declared.site.Operand.TheVariants as operand
use Rattle.jl_class.specs.Site.{Site}
use Rattle.jl_types.specs.declared.ids.Place.{Place}
use Rattle.jl_types.specs.declared.limits.Limits.{Limits}
use Rattle.jl_types.specs.declared.link.Link.{Link}
use Rattle.jl_types.specs.declared.answer.Unlinked.{Unlinked}
use Rattle.jl_types.specs.declared.target.CallSiteKind.TheVariants.{Constant, Mutable, Volatile}
use Rattle.jl_types.specs.declared.target.CallSiteKind.{CallSiteKind}
use Rattle.jl_types.specs.Events.Event.{Event}
use Rattle.jl_types.specs.declared.event.EventOf.TheVariants as event
use Rattle.jl_types.specs.declared.event.Made.{Made}
use Rattle.jl_types.specs.declared.event.Made.TheVariants as made
use Rattle.jl_types.specs.declared.refusal.CallSiteFault.{CallSiteFault}
use Rattle.jl_types.specs.declared.refusal.CallSiteFault.TheVariants as fault
use Rattle.jl_types.specs.declared.refusal.NotLinkable.TheVariants.{ArrayReceiver, PolymorphicSignature}
use Rattle.jl_types.specs.declared.refusal.SitesFault.{SitesFault}
use Rattle.jl_types.specs.declared.refusal.SitesFault.TheVariants as sites
use Rattle.jl_types.specs.declared.refusal.Refusal.{Refusal}
use Rattle.jl_types.specs.declared.refusal.Refusal.TheVariants.{Define, UnknownClass, NoSuchPlace, NotLinkable, SitesFull, CallSite, NotDynamic}
use Rattle.jl_types.specs.declared.refusal.Refusal.TheVariants.{AlreadyBound, TypeMismatch, Stale, NotReady, UnknownSite, Repeated, BatchSize}
use Rattle.jl_types.specs.declared.refusal.Refusal.TheVariants.{Delegate, LoadersFull, Retire, RetireAll, Release}
use Rattle.jl_types.specs.Linkage.Links.{same_link}
use Rattle.jl_types.specs.Values.World.{World, Classes, CallSite as CallSiteRow, unreleased, is_missing}
use Rattle.jl_types.specs.Values.Target.{Target}
use Rattle.jl_types.specs.Linkage.Resolution.{first_of}
use Rattle.jl_types.specs.Linkage.Targets.{target_fault}
use Rattle.jl_types.specs.Values.Members.{is_present}
use Rattle.jl_types.specs.Linkage.Stages.{invocation_at, bound_to}
use Rattle.jl_types.specs.Linkage.Links.{scratch}
use Rattle.jl_types.specs.Events.Batches.{is_bad_size, sites_fault}
use Rattle.jl_types.specs.Events.Definitions.{define_fault, defined, delegate_fault, delegated}
use Rattle.jl_types.specs.Events.Retirement.{retire_fault, retired}
use Rattle.jl_types.specs.Events.Release.{release_fault, released_from}

-- the first refusal, else what the event gives a number to
abbrev pub unless : Option Refusal → Made → Result Made Refusal
unless None m = Ok m
unless (Some refusal) m = Err refusal

abbrev pub same_place : Place → Place → Bool
same_place p q = (p.class == q.class) && ((p.method == q.method) && (p.pc == q.pc))

-- ---- a request

abbrev pub names_array : Operand (List ℕ) → Bool
names_array (operand.Method ref) = starts_with ◌==◌ ref.owner (codes "[")
names_array (operand.CallSite specifier) = false

-- it names a method of one of the classes whose methods any descriptor fits (JVMS 2.9.3)
abbrev pub is_polymorphic : Operand (List ℕ) → Bool
is_polymorphic (operand.Method ref) =
    bytes_eq ref.owner (codes "java/lang/invoke/MethodHandle")
    || bytes_eq ref.owner (codes "java/lang/invoke/VarHandle")
is_polymorphic (operand.CallSite specifier) = false

abbrev pub new_place_fault : Limits → World → Site → Option Refusal
new_place_fault limits w site = first_of (
    then_some (names_array site.operand) (NotLinkable ArrayReceiver)
    ∷ then_some (is_polymorphic site.operand) (NotLinkable PolymorphicSignature)
    ∷ then_some (nat_le limits.sites (length w.places)) SitesFull
    ∷ [])

-- a place that is requested already keeps its number
abbrev pub request_place : Limits → World → Option ℕ → Site → Result Made Refusal
request_place limits w (Some s) site = Ok (made.Site s)
request_place limits w None site = unless (new_place_fault limits w site) (made.Site (length w.places))

abbrev pub if_invoked : Limits → World → Place → Option Site → Result Made Refusal
if_invoked limits w place None = Err NoSuchPlace
if_invoked limits w place (Some site) = request_place limits w (position (same_place place) w.places) site

abbrev pub request_at : Limits → World → Place → Result Made Refusal
request_at limits w place =
    if is_present w.classes place.class then if_invoked limits w place (invocation_at w.classes place)
    else Err UnknownClass

abbrev pub requested : List Place → Place → List Place
requested places place = if list_any (same_place place) places then places else places ++ place ∷ []

-- ---- call sites and switch points

-- the first fault of a new call site, with this limit of call sites
abbrev pub new_call_site_fault : ℕ → World → List ℕ → Target → Option CallSiteFault
new_call_site_fault most_call_sites w ty t = first_of (
    then_some (nat_le most_call_sites (length w.sites.call_sites)) fault.Full
    ∷ target_fault w (length w.sites.call_sites) ty t
    ∷ [])

abbrev pub is_constant : CallSiteKind → Bool
is_constant Constant = true
is_constant Mutable = false
is_constant Volatile = false

abbrev pub set_target_fault : World → ℕ → Option CallSiteRow → Target → Option CallSiteFault
set_target_fault w c None t = Some fault.UnknownCallSite
set_target_fault w c (Some site) t = if is_constant site.kind then Some fault.Constant else target_fault w c site.ty t

abbrev pub invalidate_fault : World → List ℕ → Option CallSiteFault
invalidate_fault w points = then_some (list_any (is_missing w.sites.switches) points) fault.UnknownSwitch

abbrev pub retargeted : List (Option CallSiteRow) → ℕ → Target → List (Option CallSiteRow)
retargeted sites c t =
    option_map_or (λ site. slice_set sites c (Some (record site { target = t }))) (unreleased sites c) sites

abbrev pub invalidated : List (Option Bool) → List ℕ → List (Option Bool)
invalidated switches points = fold (λ left p. slice_set left p (Some false)) switches points

-- ---- a binding

abbrev pub type_fault : List ℕ → Option CallSiteRow → Option Refusal
type_fault ty None = Some (CallSite fault.UnknownCallSite)
type_fault ty (Some site) = then_some (not (bytes_eq site.ty ty)) TypeMismatch

abbrev pub operand_fault : World → ℕ → ℕ → Operand (List ℕ) → Option Refusal
operand_fault w s c (operand.Method ref) = Some NotDynamic
operand_fault w s c (operand.CallSite specifier) = first_of (
    option_map AlreadyBound (bound_to w s)
    ∷ type_fault specifier.ty (unreleased w.sites.call_sites c)
    ∷ [])

abbrev pub bind_at : World → ℕ → ℕ → Option Site → Option Refusal
bind_at w s c None = Some (UnknownSite s)
bind_at w s c (Some site) = operand_fault w s c site.operand

abbrev pub bind_fault : World → ℕ → ℕ → Option Place → Option Refusal
bind_fault w s c None = Some (UnknownSite s)
bind_fault w s c (Some place) =
    if is_present w.classes place.class then bind_at w s c (invocation_at w.classes place) else Some (UnknownSite s)

-- ---- an install

abbrev pub of_sites : SitesFault → Refusal
of_sites (sites.Unknown s) = UnknownSite s
of_sites (sites.Repeated s) = Repeated s

-- the row's link has to be the one from scratch now
abbrev pub row_fault : ℕ → Link → Result Link Unlinked → Option Refusal
row_fault s l (Err reason) = Some (NotReady s)
row_fault s l (Ok now) = if same_link now l then None else Some (Stale s now)

abbrev pub install_fault : World → List (ℕ × Link) → Option Refusal
install_fault w rows = first_of (
    then_some (is_bad_size (length rows)) BatchSize
    ∷ option_map of_sites (sites_fault w [] (map (λ row. row.0) rows))
    ∷ first_of (map (λ row. row_fault row.0 row.1 (scratch w row.0)) rows)
    ∷ [])

-- An install is accepted: 1 to 256 rows, of requested sites, none of them twice, and each link is the one from scratch now.
pub record Accepts (w : World) (rows : List (ℕ × Link)) : Type 0 where
  pub some : 1 ≤ length rows
  pub few : length rows ≤ 256
  pub requested : All (λ row. row.0 < length w.places) rows
  pub once : AllPairs (λ a b. a.0 ≢ b.0) rows
  pub present : All (λ row. scratch w row.0 ≡ Ok row.1) rows

-- ---- a retirement of several loaders at once

-- the fault of the first loader that may not go with the others
abbrev pub retire_all_fault : World → List ℕ → Option Refusal
retire_all_fault w loaders = first_of (map (λ l. option_map (RetireAll l) (retire_fault w loaders l)) loaders)

-- ---- the verdict on an event, with a linker's limits: the first refusal, else what the event makes

abbrev pub verdict : Limits → World → Event → Result Made Refusal
verdict limits w event.NewLoader =
    unless (then_some (nat_le limits.loaders (length w.classes.loaders)) LoadersFull) (made.Loader (length w.classes.loaders))
verdict limits w (event.Define loader file) =
    unless (option_map Define (define_fault limits.classes w.classes loader file)) (made.Class (length w.classes.rows))
verdict limits w (event.Delegate loader name to) =
    unless (option_map Delegate (delegate_fault w.classes loader name to)) made.Nothing
verdict limits w (event.Request place) = request_at limits w place
verdict limits w (event.NewCallSite kind ty t) =
    unless (option_map CallSite (new_call_site_fault limits.call_sites w ty t)) (made.CallSite (length w.sites.call_sites))
verdict limits w (event.SetTarget c t) =
    unless (option_map CallSite (set_target_fault w c (unreleased w.sites.call_sites c) t)) made.Nothing
verdict limits w event.NewSwitch =
    unless (then_some (nat_le limits.switches (length w.sites.switches)) (CallSite fault.Full))
    (made.Switch (length w.sites.switches))
verdict limits w (event.Invalidate points) = unless (option_map CallSite (invalidate_fault w points)) made.Nothing
verdict limits w (event.Bind s c) = unless (bind_fault w s c (slice_get w.places s)) made.Nothing
verdict limits w (event.Install rows) = unless (install_fault w rows) made.Nothing
verdict limits w (event.Retire loader) = unless (option_map Retire (retire_fault w (loader ∷ []) loader)) made.Nothing
verdict limits w (event.RetireAll loaders) = unless (retire_all_fault w loaders) made.Nothing
verdict limits w (event.Release call_sites points) = unless (option_map Release (release_fault w.sites call_sites points)) made.Nothing

-- ---- the world after an event

abbrev pub with_classes : World → Classes → World
with_classes w cs = record w { classes = cs }

abbrev pub with_call_sites : World → List (Option CallSiteRow) → World
with_call_sites w call_sites = record w { sites = record w.sites { call_sites = call_sites } }

abbrev pub with_switches : World → List (Option Bool) → World
with_switches w switches = record w { sites = record w.sites { switches = switches } }

abbrev pub step : World → Event → World
step w event.NewLoader = with_classes w (record w.classes { loaders = w.classes.loaders ++ [] ∷ [] })
step w (event.Define loader file) = with_classes w (defined w.classes loader file)
step w (event.Delegate loader name to) = with_classes w (delegated w.classes loader name to)
step w (event.Request place) = record w { places = requested w.places place }
step w (event.NewCallSite kind ty t) =
    with_call_sites w (w.sites.call_sites ++ Some (record { kind = kind; ty = ty; target = t }) ∷ [])
step w (event.SetTarget c t) = with_call_sites w (retargeted w.sites.call_sites c t)
step w event.NewSwitch = with_switches w (w.sites.switches ++ Some true ∷ [])
step w (event.Invalidate points) = with_switches w (invalidated w.sites.switches points)
step w (event.Bind s c) = record w { bindings = w.bindings ++ (s, c) ∷ [] }
step w (event.Install rows) = w
step w (event.Retire loader) = with_classes w (retired w.classes (loader ∷ []))
step w (event.RetireAll loaders) = with_classes w (retired w.classes loaders)
step w (event.Release call_sites points) = record w { sites = released_from w.sites call_sites points }
