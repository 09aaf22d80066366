use Rattle.std.proofs.Common.{◌≡◌, length}
use Rattle.jl_classfile.specs.Conditions.{attributes_of}
use Rattle.jl_classfile.proofs.member.first_called.Given as goal

abbrev pub invariant-loop-attribute : goal.invariant-loop-attribute
invariant-loop-attribute l = attributes_of l.pool l.name l.rest ≡ attributes_of l.pool l.name l.attributes

abbrev pub decreases-loop-attribute : goal.decreases-loop-attribute
decreases-loop-attribute l = length l.rest
