-- Marks for the call sites and switch points that are to go, and which call sites need a marked one. A means of proof.
use Rattle.std.specs.Prelude.{ℕ, Bool, true, false, not, ◌&&◌, ◌||◌, List, find, fold, length, replicate, slice_get, slice_set, Option}
use Rattle.std.specs.List.{range_with_len}
use Rattle.std.specs.Option.{option_map_or}
use Rattle.jl_types.specs.Values.Target.{Target, Method, Guard, Invoker}
use Rattle.jl_types.specs.Values.World.{Sites, unreleased}
use Rattle.jl_types.specs.Events.Retirement.{has_target}

-- those of these numbers are set
abbrev pub with_marks : List Bool → List ℕ → List Bool
with_marks marks listed = fold (λ left k. slice_set left k true) marks listed

-- a mark for each of so many numbers: whether it is listed
abbrev pub marked : ℕ → List ℕ → List Bool
marked count listed = with_marks (replicate count false) listed

abbrev pub is_marked : List Bool → ℕ → Bool
is_marked marks k = option_map_or (λ mark. mark) (slice_get marks k) false

-- the target invokes a marked call site or guards by a marked switch point, be it on a side that isn't taken
abbrev pub needs_marked : List Bool → List Bool → Target → Bool
needs_marked sites switches (Method m) = false
needs_marked sites switches (Guard p first fallback) =
    is_marked switches p || (needs_marked sites switches first || needs_marked sites switches fallback)
needs_marked sites switches (Invoker c) = is_marked sites c

-- call site c isn't marked, and needs one that is
abbrev pub stays_needing : Sites → List Bool → List Bool → ℕ → Bool
stays_needing sites marks switches c = not (is_marked marks c) && has_target (needs_marked marks switches) (unreleased sites.call_sites c)

-- the least such call site
abbrev pub first_marked : Sites → List Bool → List Bool → Option ℕ
first_marked sites marks switches = find (stays_needing sites marks switches) (range_with_len 0 (length sites.call_sites))
