-- The order in which classes are reported.
use Rattle.std.specs.Prelude.{ℕ, List, [], slice_get, IsSortedByKey}
use Rattle.std.specs.Option.{option_map_or}
use Rattle.std.specs.Ordering.{nat_cmp}
use Rattle.std.specs.Cmp.Lexicographic.{slice_cmp}
use Rattle.jl_types.specs.Values.World.{Classes}

abbrev pub name_of : Classes → ℕ → List ℕ
name_of cs c = option_map_or (λ row. row.file.name) (slice_get cs.rows c) []

-- by their names, as these are in bytes
abbrev pub AreByName : Classes → List ℕ → Type 0
AreByName cs classes = IsSortedByKey (name_of cs) (slice_cmp nat_cmp) classes
