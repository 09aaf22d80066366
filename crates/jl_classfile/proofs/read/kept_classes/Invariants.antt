use Rattle.std.proofs.Common.{◌≡◌, ◌++◌, drop}
use Rattle.std.specs.Prelude.{map}
use Rattle.jl_classfile.specs.Shown.{name_or_nothing}
use Rattle.jl_classfile.proofs.read.kept_classes.Given as goal

abbrev pub invariant-loop-number : goal.invariant-loop-number
invariant-loop-number l = l.names.items ++ map (name_or_nothing l.pool) (drop l.number-index l.numbers) ≡ map (name_or_nothing l.pool) l.numbers
