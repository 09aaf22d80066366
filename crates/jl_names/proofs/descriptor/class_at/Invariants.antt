use Rattle.std.proofs.Common.{◌≡◌, true, take, drop}
use Rattle.jl_names.specs.ForProofs.Descriptors.{class_at}
use Rattle.jl_names.proofs.ClassNameLaws.{prefixed}
use Rattle.jl_names.proofs.descriptor.class_at.Given as goal

abbrev pub invariant-loop-i : goal.invariant-loop-i
invariant-loop-i l = prefixed (take l.i l.text) (class_at l.fresh (drop l.i l.text)) ≡ class_at true l.text
