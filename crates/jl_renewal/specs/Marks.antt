-- Flags that are set, or taken back, by their numbers. A means of proof.
use Rattle.std.specs.Prelude.{ℕ, ◌+◌, Bool, false, not, ◌&&◌, ◌||◌, ◌==◌, List, [], ◌∷◌, get_or, Option, option_and_then}
use Rattle.std.specs.Bool.{then_some}
use Rattle.std.specs.List.{list_any}
use Rattle.jl_types.specs.Values.Target.{Target}
use Rattle.jl_types.specs.Values.World.{World, Sites, CallSite, unreleased}
use Rattle.jl_types.specs.Events.Retirement.{has_target}
use Rattle.jl_renewal.specs.declared.released.Released.{Released}
use Rattle.jl_renewal.specs.Numbers.{staying}
use Rattle.jl_renewal.specs.Staying.{is_in_staying_class, is_among, guards_by}

-- each flag from number n on, as its number and what it was make it
abbrev pub changed_from : (ℕ → Bool → Bool) → ℕ → List Bool → List Bool
changed_from change n [] = []
changed_from change n (flag ∷ flags) = change n flag ∷ changed_from change (n + 1) flags

-- those of these numbers are set
abbrev pub marked : (ℕ → Bool) → List Bool → List Bool
marked test flags = changed_from (λ n flag. flag || test n) 0 flags

-- those of these numbers are taken back
abbrev pub cleared : (ℕ → Bool) → List Bool → List Bool
cleared test flags = changed_from (λ n flag. flag && not (test n)) 0 flags

-- the binding is to the call site, and of a site that stays
abbrev pub binds_staying : World → ℕ → ℕ × ℕ → Bool
binds_staying w c b = (b.1 == c) && is_in_staying_class w b.0

-- the owner hasn't let the call site go, or a site that stays is bound to it; it may be released
abbrev pub is_wanted : World → Released → ℕ → Bool
is_wanted w released c = not (is_among released.call_sites c) || list_any (binds_staying w c) w.bindings

-- the owner hasn't let the switch point go, or the target of a call site whose flag is set guards by it; it may be released
abbrev pub is_wanted_point : Sites → List Bool → Released → ℕ → Bool
is_wanted_point sites stays released p = not (is_among released.switches p) || list_any (has_target (guards_by p)) (staying stays sites.call_sites)

-- the target of the call site, if its flag is set
abbrev pub flagged_target : List Bool → List (Option CallSite) → ℕ → Option Target
flagged_target flags sites c = option_and_then (λ site. then_some (get_or flags c false) site.target) (unreleased sites c)
