use Rattle.std.specs.Prelude.{take}
use Rattle.jl_hierarchy.specs.ForProofs.Kept.{AreChanged, lists}
use Rattle.jl_hierarchy.specs.Retiring.{without}
use Rattle.jl_hierarchy.proofs.retire.drop_receivers.Given as goal

-- the lists of the classes so far are done
abbrev pub invariant-loop-class : goal.invariant-loop-class
invariant-loop-class l = AreChanged (take l.class-index l.fn.losing) (without l.rows.items l.retired.keys) (lists l.fn.below) (lists l.below)
