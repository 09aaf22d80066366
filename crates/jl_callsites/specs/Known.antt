-- Every guard of a call site's target names a switch point that was made, and every invoker an earlier call site. And which changes leave
-- what runs as it was.
use Rattle.std.specs.Prelude.{◌≡◌, ℕ, ◌<◌, ◌+◌, Bool, true, false, ◌&&◌, nat_lt, List, [], ◌∷◌, length, Option, Some, None}
use Rattle.jl_types.specs.declared.key.Key.TheVariants as key
use Rattle.jl_types.specs.Values.Target.{Target, Method, Guard, Invoker}
use Rattle.jl_types.specs.Values.World.{CallSite, Sites}
use Rattle.jl_types.specs.Linkage.Targets.{method_of}
use Rattle.jl_types.specs.Events.Footprints.{has_key, path}

-- the switch points of the target's guards are among the first so many, and its invokers are of call sites before this one
abbrev pub is_known : ℕ → ℕ → Target → Bool
is_known points c (Method m) = true
is_known points c (Guard p first fallback) = nat_lt p points && (is_known points c first && is_known points c fallback)
is_known points c (Invoker d) = nat_lt d c

-- each target of these call sites, which have numbers from c on, is known in this way; a released call site is passed over
abbrev pub all_known : ℕ → ℕ → List (Option CallSite) → Bool
all_known points c [] = true
all_known points c (None ∷ rows) = all_known points (c + 1) rows
all_known points c (Some site ∷ rows) = is_known points c site.target && all_known points (c + 1) rows

-- the switch points of each call site's target were made, and it invokes call sites before it
abbrev pub are_known : Sites → Bool
are_known sites = all_known (length sites.switches) 0 sites.call_sites

-- each call site that was there runs what it ran before
pub record RunAsBefore (old new : Sites) : Type 0 where
  pub same : (c : ℕ) → c < length old.call_sites → method_of new c ≡ method_of old c

-- each call site whose path doesn't go through this one runs what it ran before
pub record OthersRunAsBefore (old new : Sites) (site : ℕ) : Type 0 where
  pub same : (c : ℕ) → has_key (path old c) (key.Target site) ≡ false → method_of new c ≡ method_of old c
