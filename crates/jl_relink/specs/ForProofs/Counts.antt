-- How many receivers the link of a selection looks at. A means of proof.
use Rattle.std.specs.Prelude.{ℕ, List, [], ◌∷◌, if◌then◌else◌}
use Rattle.jl_types.specs.declared.link.TableKind.{TableKind}
use Rattle.jl_types.specs.declared.link.TableKind.TheVariants.{Virtual, Interface}
use Rattle.jl_types.specs.declared.key.Key.{Key}
use Rattle.jl_types.specs.declared.key.Key.TheVariants as key
use Rattle.jl_types.specs.Values.World.{Classes}
use Rattle.jl_types.specs.Values.Members.{is_private}
use Rattle.jl_types.specs.Events.Footprints.{most_by}
use Rattle.jl_relink.specs.declared.selection.Selection.{Selection}

abbrev pub keys_by : Classes → Selection → TableKind → List Key
keys_by cs s Virtual = if is_private cs s.method then [] else key.Receivers s.named ∷ []
keys_by cs s Interface = key.Receivers s.named ∷ []

abbrev pub most_of : Classes → Selection → ℕ
most_of cs s = most_by cs (keys_by cs s s.kind)
