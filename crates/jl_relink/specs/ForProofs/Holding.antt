-- What a snapshot holds.
use Rattle.jl_types.specs.Values.World.{World}
use Rattle.jl_relink.specs.declared.snapshot.Held.{Held}
use Rattle.jl_relink.specs.declared.snapshot.Held.TheVariants as held

-- the world, whether others hold it, too, or none
abbrev pub held_world : Held → World
held_world (held.Owned world) = world
held_world (held.Shared world) = world.value
