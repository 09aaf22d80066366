use Rattle.std.specs.List.{AllWithin}
use Rattle.jl_classfile.specs.Conditions.{IsClassNumber}
use Rattle.jl_classfile.proofs.links.check_classes.Given as goal

abbrev pub invariant-loop-number : goal.invariant-loop-number
invariant-loop-number l = AllWithin (IsClassNumber l.pool) l.numbers 0 l.number-index
