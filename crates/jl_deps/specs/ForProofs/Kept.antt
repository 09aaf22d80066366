-- Footprints as they are kept. A means of proof.
use Rattle.std.specs.Prelude.{List, [], ◌∷◌}
use Rattle.jl_types.specs.declared.key.Key.{Key}
use Rattle.jl_deps.specs.declared.kept.Kept.{Kept}
use Rattle.jl_deps.specs.declared.kept.Kept.TheVariants.{Nothing, One, Several}

-- the keys that are kept
abbrev pub keys_of : Kept → List Key
keys_of Nothing = []
keys_of (One key) = key ∷ []
keys_of (Several keys) = keys.value
