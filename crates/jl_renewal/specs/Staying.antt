-- What stays of a world (JVMS 5.3; java.lang.invoke: CallSite, SwitchPoint), and its numbers in the fresh core.
use Rattle.std.specs.Prelude.{ℕ, ◌+◌, Bool, false, not, ◌&&◌, ◌||◌, ◌==◌, List, [], ◌∷◌, map, length, slice_get, Option, Some, None}
use Rattle.std.specs.Option.{option_map_or}
use Rattle.std.specs.List.{list_any, range_with_len}
use Rattle.jl_types.specs.Values.Target.{Target, Method, Guard, Invoker}
use Rattle.jl_types.specs.declared.ids.Place.{Place}
use Rattle.jl_types.specs.Values.World.{World, Classes, CallSite, is_missing}
use Rattle.jl_types.specs.Values.Members.{numbers, is_present, is_retired}
use Rattle.jl_types.specs.Linkage.Stages.{bound_to}
use Rattle.jl_types.specs.Events.Retirement.{has_target}
use Rattle.jl_renewal.specs.declared.released.Released.{Released}
use Rattle.jl_renewal.specs.Numbers.{Numbers, numbered, staying}

-- ---- loaders, classes and sites

-- the loaders that aren't retired
abbrev pub staying_loaders : Classes → List Bool
staying_loaders cs = map (λ l. not (is_retired cs l)) (range_with_len 0 (length cs.loaders))

-- the classes that these have defined
abbrev pub staying_classes : Classes → List Bool
staying_classes cs = map (is_present cs) (numbers cs)

-- the sites in them
abbrev pub staying_sites : Classes → List Place → List Bool
staying_sites cs places = map (λ place. is_present cs place.class) places

-- ---- call sites and switch points

abbrev pub is_among : List ℕ → ℕ → Bool
is_among released k = list_any (λ r. r == k) released

-- the target invokes the call site
abbrev pub invokes : ℕ → Target → Bool
invokes c (Method m) = false
invokes c (Guard p first fallback) = invokes c first || invokes c fallback
invokes c (Invoker d) = d == c

-- the target has a guard by the switch point
abbrev pub guards_by : ℕ → Target → Bool
guards_by p (Method m) = false
guards_by p (Guard q first fallback) = (q == p) || (guards_by p first || guards_by p fallback)
guards_by p (Invoker c) = false

abbrev pub is_in_staying_class : World → ℕ → Bool
is_in_staying_class w s = option_map_or (λ place. is_present w.classes place.class) (slice_get w.places s) false

-- the site is bound to a call site that is released
abbrev pub has_lost_call_site : World → ℕ → Bool
has_lost_call_site w s = option_map_or (is_missing w.sites.call_sites) (bound_to w s) false

-- it isn't gone
abbrev pub is_alive : World → ℕ → Bool
is_alive w s = is_in_staying_class w s && not (has_lost_call_site w s)

-- it isn't released, and its owner hasn't let it go, or a site that stays is bound to it
abbrev pub is_held : World → Released → ℕ → Bool
is_held w released c =
    not (is_missing w.sites.call_sites c)
    && (not (is_among released.call_sites c) || list_any (λ b. (b.1 == c) && is_in_staying_class w b.0) w.bindings)

abbrev pub with_first : Bool → ℕ → List (Option CallSite) → List Bool → List Bool
with_first held c later stays = (held || list_any (has_target (invokes c)) (staying stays later)) ∷ stays

-- from number c on: those that are held, and those that the target of a later one which stays invokes; one that is released goes
abbrev pub staying_from : (ℕ → Bool) → ℕ → List (Option CallSite) → List Bool
staying_from held c [] = []
staying_from held c (None ∷ later) = false ∷ staying_from held (c + 1) later
staying_from held c (Some site ∷ later) = with_first (held c) c later (staying_from held (c + 1) later)

abbrev pub staying_call_sites : World → Released → List Bool
staying_call_sites w released = staying_from (is_held w released) 0 w.sites.call_sites

-- it isn't released, and its owner hasn't let it go, or the target of a call site that stays guards by it
abbrev pub point_stays : World → Released → ℕ → Bool
point_stays w released p =
    not (is_missing w.sites.switches p)
    && (not (is_among released.switches p)
    || list_any (has_target (guards_by p)) (staying (staying_call_sites w released) w.sites.call_sites))

abbrev pub staying_switches : World → Released → List Bool
staying_switches w released = map (point_stays w released) (range_with_len 0 (length w.sites.switches))

-- ---- the numbers of what stays

abbrev pub numbers_of : World → Released → Numbers
numbers_of w released = record {
  loaders = numbered (staying_loaders w.classes);
  classes = numbered (staying_classes w.classes);
  sites = numbered (staying_sites w.classes w.places);
  call_sites = numbered (staying_call_sites w released);
  switches = numbered (staying_switches w released);
}
