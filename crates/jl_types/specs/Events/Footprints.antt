-- What a site's link from scratch rests on that an event may change (selective recompilation: Chambers, Dean and Grove 1995). Which of
-- that an event changes. How many evaluations an event may take.
use Rattle.std.specs.Prelude.{ℕ, zero, suc, ◌+◌, Bool, true, false, ◌&&◌, ◌==◌, List, [], ◌∷◌, ◌++◌, map, filter, filter_map, sum_by, length}
use Rattle.std.specs.Prelude.{slice_get, Option, Some, None, is_some, if◌then◌else◌, not}
use Rattle.std.specs.List.{list_any, range_with_len}
use Rattle.std.specs.Option.{option_map_or}
use Rattle.jl_class.specs.declared.site.Kind.{Kind}
use Rattle.jl_class.specs.declared.site.Operand.{Operand}
use Rattle.jl_class.specs.declared.site.Operand.TheVariants as operand
use Rattle.jl_class.specs.Site.{Site}
use Rattle.jl_types.specs.declared.ids.Place.{Place}
use Rattle.jl_types.specs.Events.Event.{Event}
use Rattle.jl_types.specs.declared.event.EventOf.TheVariants as event
use Rattle.jl_types.specs.declared.answer.Outcome.{Outcome}
use Rattle.jl_types.specs.declared.answer.Outcome.TheVariants.{Run, Throws}
use Rattle.jl_types.specs.declared.link.Link.{Link}
use Rattle.jl_types.specs.declared.link.Link.TheVariants.{Fault, Plain, Direct, Table, Mega}
use Rattle.jl_types.specs.Linkage.Links.{runs}
use Rattle.jl_types.specs.Values.World.{World, Classes, Sites, unreleased}
use Rattle.jl_types.specs.Values.Target.{Target, Method, Guard, Invoker}
use Rattle.jl_types.specs.Values.Members.{is_concrete, is_private, is_present}
use Rattle.jl_types.specs.Values.Ancestry.{ancestors, receivers}
use Rattle.jl_types.specs.Linkage.Targets.{is_valid}
use Rattle.jl_types.specs.Linkage.Stages.{Selector, ByVirtual, ByInterface, BySpecial, ResolvedCall, Stage, Waits, Fails, Calls, Selects}
use Rattle.jl_types.specs.Linkage.Stages.{invocation_at, bound_to, by_operand}
use Rattle.jl_types.specs.Events.Definitions.{defined}
use Rattle.jl_types.specs.Events.Retirement.{losing_receivers, retires_site}
use Rattle.jl_types.specs.Events.Verdict.{step}
use Rattle.jl_types.specs.Events.History.{world_after, installed, site_numbers}
use Rattle.jl_types.specs.declared.key.Key.{Key}
use Rattle.jl_types.specs.declared.key.Key.TheVariants as key

-- ---- keys

abbrev pub same_key : Key → Key → Bool
same_key (key.Receivers c) (key.Receivers d) = c == d
same_key (key.Target c) (key.Target d) = c == d
same_key (key.Valid p) (key.Valid q) = p == q
same_key _ _ = false

abbrev pub has_key : List Key → Key → Bool
has_key keys k = list_any (λ other. same_key other k) keys

-- some key is in both
abbrev pub meets : List Key → List Key → Bool
meets footprint keys = list_any (has_key keys) footprint

-- ---- what a link rests on

-- the receivers of the class that the reference names, if the invocation looks at them
abbrev pub of_selector : Classes → ResolvedCall → Selector → List Key
of_selector cs i ByVirtual = if is_private cs i.method then [] else key.Receivers i.named ∷ []
of_selector cs i ByInterface = key.Receivers i.named ∷ []
of_selector cs i BySpecial = []

abbrev pub of_stage : Classes → Stage → List Key
of_stage cs (Waits reason) = []
of_stage cs (Fails throwable) = []
of_stage cs (Calls m) = []
of_stage cs (Selects i) = of_selector cs i i.selector

-- the call sites and the valid points that an evaluation of the target passes, in order; `ways` has those of each call site
abbrev pub way_by : Sites → (ℕ → List Key) → Target → List Key
way_by sites ways (Method m) = []
way_by sites ways (Guard p first fallback) =
    if is_valid sites p then key.Valid p ∷ way_by sites ways first else way_by sites ways fallback
way_by sites ways (Invoker c) = ways c

-- what an evaluation of call site c passes, if it is one of the first n: itself, and what its target passes over those before it
abbrev pub way_below : Sites → ℕ → ℕ → List Key
way_below sites zero c = []
way_below sites (suc n) c =
    if n == c then key.Target c ∷ option_map_or (λ site. way_by sites (way_below sites n) site.target) (unreleased sites.call_sites c) []
    else way_below sites n c

-- what an evaluation of call site c passes, in order: call sites and valid points
abbrev pub path : Sites → ℕ → List Key
path sites c =
    key.Target c ∷ option_map_or (λ site. way_by sites (way_below sites c) site.target) (unreleased sites.call_sites c) []

abbrev pub call_site_in : Key → Option ℕ
call_site_in (key.Target c) = Some c
call_site_in _ = None

abbrev pub point_in : Key → Option ℕ
point_in (key.Valid p) = Some p
point_in _ = None

-- these of so many numbers, each once, rising
abbrev pub among : ℕ → List ℕ → List ℕ
among n points = filter (λ p. list_any (λ q. q == p) points) (range_with_len 0 n)

-- the targets of the call sites on the path of this one, and the valid points on it
abbrev pub of_call_site : Sites → ℕ → List Key
of_call_site sites c =
    map key.Target (among (c + 1) (filter_map call_site_in (path sites c)))
    ++ map key.Valid (among (length sites.switches) (filter_map point_in (path sites c)))

abbrev pub of_binding : Sites → Option ℕ → List Key
of_binding sites None = []
of_binding sites (Some c) = of_call_site sites c

-- an invokedynamic rests on the call site to which it is bound
abbrev pub of_operand : World → ℕ → ℕ → Kind → Operand (List ℕ) → List Key
of_operand w s d kind (operand.Method ref) = of_stage w.classes (by_operand w s d kind (operand.Method ref))
of_operand w s d kind (operand.CallSite specifier) = of_binding w.sites (bound_to w s)

abbrev pub of_invocation : World → ℕ → ℕ → Option Site → List Key
of_invocation w s d None = []
of_invocation w s d (Some site) = of_operand w s d site.kind site.operand

abbrev pub of_place : World → ℕ → Option Place → List Key
of_place w s None = []
of_place w s (Some place) =
    if is_present w.classes place.class then of_invocation w s place.class (invocation_at w.classes place) else []

-- what the link of site s rests on
abbrev pub footprint : World → ℕ → List Key
footprint w s = of_place w s (slice_get w.places s)

-- ---- what an event changes

-- the receivers of the ancestors of the class c, if objects may be of c
abbrev pub of_class : Classes → ℕ → List Key
of_class cs c = if is_concrete cs c then map key.Receivers (ancestors cs.rows c) else []

-- those of these points that are valid, each once, rising
abbrev pub still_valid : Sites → List ℕ → List ℕ
still_valid sites points = filter (is_valid sites) (among (length sites.switches) points)

abbrev pub keys : World → Event → List Key
keys w (event.Define loader file) = of_class (defined w.classes loader file) (length w.classes.rows)
keys w (event.SetTarget c t) = key.Target c ∷ []
keys w (event.Invalidate points) = map key.Valid (still_valid w.sites points)
keys w (event.Retire loader) = map key.Receivers (losing_receivers w.classes (loader ∷ []))
keys w (event.RetireAll loaders) = map key.Receivers (losing_receivers w.classes loaders)
keys w (event.Release call_sites points) = map key.Target call_sites
keys w _ = []

-- the event changes something of what the link of site s rests on
abbrev pub touches : World → Event → ℕ → Bool
touches w e s = meets (footprint w s) (keys w e)

-- ---- how many evaluations an event may take

-- one for each receiver that the link looks at, or one if it looks at none
abbrev pub most_by : Classes → List Key → ℕ
most_by cs [] = 1
most_by cs (key.Receivers c ∷ keys) = length (receivers cs c)
most_by cs (key.Target c ∷ keys) = 1
most_by cs (key.Valid p ∷ keys) = 1

abbrev pub most_for : World → ℕ → ℕ
most_for w s = most_by w.classes (footprint w s)

-- the sites with an installed link that the event touches, rising
abbrev pub touched : List Event → Event → List ℕ
touched h e = filter (λ s. is_some (installed h s) && touches (world_after h) e s) (site_numbers h)

-- the event retires the site
abbrev pub retires : World → Event → ℕ → Bool
retires w (event.Retire loader) s = retires_site w (loader ∷ []) s
retires w (event.RetireAll loaders) s = retires_site w loaders s
retires w _ s = false

-- the touched sites that the event doesn't retire
abbrev pub left_touched : List Event → Event → List ℕ
left_touched h e = filter (λ s. not (retires (world_after h) e s)) (touched h e)

-- how many evaluations these sites may take, by the receivers that the event leaves
abbrev pub most_left : List Event → Event → ℕ
most_left h e = sum_by (most_for (step (world_after h) e)) (left_touched h e)

-- An install looks up the link of each row, and a retirement those of the touched sites that are left, by the receivers that are
-- left. Any other event compares those of the touched sites, with one evaluation each.
abbrev pub bound : List Event → Event → ℕ
bound h (event.Install rows) = sum_by (λ row. most_for (world_after h) row.0) rows
bound h (event.Retire loader) = most_left h (event.Retire loader)
bound h (event.RetireAll loaders) = most_left h (event.RetireAll loaders)
bound h e = length (touched h e)

-- ---- one receiver more

-- the link stays if one receiver with this outcome is added: all run one method, or there were too many before
abbrev pub stays_with : Link → Outcome → Bool
stays_with (Direct (Run m)) o = runs m o
stays_with (Direct (Throws throwable)) o = false
stays_with Mega o = true
stays_with (Fault throwable) o = false
stays_with (Plain m) o = false
stays_with (Table kind rows) o = false
