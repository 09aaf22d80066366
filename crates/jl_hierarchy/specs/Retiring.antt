-- Which classes a loader has defined, and lists without them.
use Rattle.std.specs.Prelude.{ℕ, ◌==◌, Bool, false, not, if◌then◌else◌, List, [], filter, map, slice_get}
use Rattle.std.specs.Option.{option_map_or}
use Rattle.jl_types.specs.Values.World.{Class, Classes}
use Rattle.jl_types.specs.Values.Members.{is_retired}
use Rattle.jl_types.specs.Events.Retirement.{is_listed}

abbrev pub is_row_of : List Class → ℕ → ℕ → Bool
is_row_of rows loader c = option_map_or (λ row. row.loader == loader) (slice_get rows c) false

-- one of the loaders has defined the class
abbrev pub is_row_of_any : List Class → List ℕ → ℕ → Bool
is_row_of_any rows loaders c = option_map_or (λ row. is_listed loaders row.loader) (slice_get rows c) false

-- those of the classes that none of the loaders has defined
abbrev pub without : List Class → List ℕ → List ℕ → List ℕ
without rows loaders xs = filter (λ c. not (is_row_of_any rows loaders c)) xs

-- the classes of these records that the loader has defined
abbrev pub own_recorded : List Class → ℕ → List (List ℕ × ℕ) → List ℕ
own_recorded rows loader records = filter (is_row_of rows loader) (map (λ r. r.1) records)

-- the classes that the loader has defined, in the order in which it recorded them; a retired loader has none
abbrev pub own_classes : Classes → ℕ → List ℕ
own_classes cs loader =
    if is_retired cs loader then [] else option_map_or (own_recorded cs.rows loader) (slice_get cs.loaders loader) []
