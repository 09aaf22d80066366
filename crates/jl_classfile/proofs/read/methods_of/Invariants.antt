use Rattle.std.proofs.Common.{take}
use Rattle.jl_classfile.specs.ForProofs.Passes.{MethodsKept}
use Rattle.jl_classfile.proofs.read.methods_of.Given as goal

abbrev pub invariant-loop-i : goal.invariant-loop-i
invariant-loop-i l = MethodsKept l.pool (take l.i l.members) l.sites.items l.methods.items
