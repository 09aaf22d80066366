use Rattle.std.specs.Prelude.{◌≡◌, ◌++◌, drop, filter_map, option_to_list}
use Rattle.jl_types.specs.Values.Ancestry as ancestry
use Rattle.jl_types.specs.Linkage.Resolution.{defaults}
use Rattle.jl_hierarchy.specs.ForProofs.Defaults.{default_at}
use Rattle.jl_hierarchy.proofs.classes.Classes.default_by.Given as goal

-- what was found and what the ancestors from here on have are the defaults
abbrev pub invariant-loop-ancestor : goal.invariant-loop-ancestor
invariant-loop-ancestor l =
    option_to_list l.found ++ filter_map (default_at l.fn.self l.fn.sought.name l.fn.sought.ty l.fn.class)
    (drop l.ancestor-index (ancestry.ancestors l.fn.self.rows l.fn.class))
    ≡ defaults l.fn.self l.fn.sought.name l.fn.sought.ty l.fn.class
