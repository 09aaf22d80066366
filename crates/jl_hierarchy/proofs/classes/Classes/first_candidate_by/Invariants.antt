use Rattle.std.specs.Prelude.{◌≡◌, drop, filter_map}
use Rattle.jl_types.specs.Values.Ancestry as ancestry
use Rattle.jl_types.specs.Linkage.Resolution.{first_element, candidates}
use Rattle.jl_hierarchy.specs.ForProofs.Defaults.{candidate_at}
use Rattle.jl_hierarchy.proofs.classes.Classes.first_candidate_by.Given as goal

-- what the ancestors from here on have first is what all of them have
abbrev pub invariant-loop-ancestor : goal.invariant-loop-ancestor
invariant-loop-ancestor l =
    first_element (filter_map (candidate_at l.fn.self l.fn.sought.name l.fn.sought.ty l.fn.class)
    (drop l.ancestor-index (ancestry.ancestors l.fn.self.rows l.fn.class)))
    ≡ first_element (candidates l.fn.self l.fn.sought.name l.fn.sought.ty l.fn.class)
