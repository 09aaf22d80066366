use Rattle.std.proofs.Common.{◌≡◌, ◌<◌, length}
use Rattle.jl_types.specs.Values.Ancestry as ancestry
use Rattle.jl_hierarchy.proofs.classes.Classes.is_subclass.Given as goal

-- the chain from here holds the other one exactly if the class's chain does
abbrev pub invariant-loop-other : goal.invariant-loop-other
invariant-loop-other l = record {
  there : l.at < length l.self.rows;
  same : ancestry.is_subclass l.self l.at l.other ≡ ancestry.is_subclass l.fn.self l.fn.class l.fn.other;
}

abbrev pub decreases-loop-other : goal.decreases-loop-other
decreases-loop-other l = l.at
