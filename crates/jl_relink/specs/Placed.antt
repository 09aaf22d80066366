-- An invocation that is asked by its place, without a request.
use Rattle.std.specs.Prelude.{[], ◌∷◌}
use Rattle.jl_types.specs.declared.ids.Place.{Place}
use Rattle.jl_types.specs.Values.World.{World, Classes, nothing_yet}

-- the world of these classes in which this place alone is requested, and no call site is there
abbrev pub asking : Classes → Place → World
asking cs place = record { classes = cs; places = place ∷ []; bindings = []; sites = nothing_yet.sites }
