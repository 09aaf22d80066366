-- Whether anything that stays needs one of the loaders that go. A means of proof.
use Rattle.std.specs.Prelude.{ℕ, Bool, false, not, ◌&&◌, List, slice_get}
use Rattle.std.specs.Option.{option_map_or}
use Rattle.std.specs.List.{list_any}
use Rattle.jl_types.specs.Values.World.{Classes}
use Rattle.jl_types.specs.Values.Members.{is_present}
use Rattle.jl_types.specs.Values.Ancestry.{ancestors}
use Rattle.jl_types.specs.Events.Retirement.{is_listed, is_of_any}

-- the present class of a loader that stays has an ancestor of one of those that go
abbrev pub inherits_any : Classes → List ℕ → ℕ → Bool
inherits_any cs loaders x = is_present cs x && (not (is_of_any cs loaders x) && list_any (is_of_any cs loaders) (ancestors cs.rows x))

-- the loader stays, and records a class of one of those that go
abbrev pub records_any : Classes → List ℕ → ℕ → Bool
records_any cs loaders k =
    not (is_listed loaders k) && option_map_or (list_any (λ r. is_of_any cs loaders r.1)) (slice_get cs.loaders k) false
