-- What is among numbers, and the way of a target. A means of proof.
use Rattle.std.specs.Prelude.{ℕ, ◌==◌, Bool, List}
use Rattle.std.specs.List.{list_any}
use Rattle.jl_types.specs.Values.Target.{Target}
use Rattle.jl_types.specs.Values.World.{Sites}
use Rattle.jl_types.specs.declared.key.Key.{Key}
use Rattle.jl_types.specs.Events.Footprints.{way_by, way_below}

abbrev pub has : ℕ → List ℕ → Bool
has n xs = list_any (λ x. x == n) xs

-- what an evaluation of the target, as one of call site c, comes by
abbrev pub way : Sites → ℕ → Target → List Key
way sites c t = way_by sites (way_below sites c) t
