use Rattle.std.specs.Prelude.{◌≡◌, filter_map, take}
use Rattle.jl_types.specs.Values.Members as members
use Rattle.jl_hierarchy.proofs.classes.Classes.found_all.Given as goal

abbrev pub invariant-loop-name : goal.invariant-loop-name
invariant-loop-name l =
    l.found.items ≡ filter_map (members.lookup l.fn.self l.fn.loader) (take l.name-index l.fn.names)
