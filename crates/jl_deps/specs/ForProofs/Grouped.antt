-- The sites of a group, as they are kept. A means of proof.
use Rattle.std.specs.Prelude.{ℕ, List, [], ◌∷◌}
use Rattle.jl_deps.specs.declared.group.Kept.{Kept}
use Rattle.jl_deps.specs.declared.group.Kept.TheVariants.{Nothing, One, Many}

abbrev pub kept_sites : Kept → List ℕ
kept_sites Nothing = []
kept_sites (One site) = site ∷ []
kept_sites (Many sites) = sites.value.keys
