use Rattle.std.specs.HashSet.{contains}
use Rattle.std.proofs.Common.{nat_eq, ◌&&◌}
use Rattle.jl_names.proofs.RepeatLaws.{Met}
use Rattle.jl_names.proofs.repeat.first_again.Given as goal

abbrev pub invariant-loop-i : goal.invariant-loop-i
invariant-loop-i l = Met l.numbers l.pairs l.i (contains (λ x y. nat_eq x.0 y.0 && nat_eq x.1 y.1) l.met)
