use Rattle.std.proofs.Common.{◌≤◌}
use Rattle.std.specs.Prelude.{IfSome}
use Rattle.std.specs.List.{AllWithin}
use Rattle.jl_classfile.specs.ForProofs.Members.{MethodTested}
use Rattle.jl_classfile.proofs.member.check_methods.Given as goal

abbrev pub invariant-loop-i : goal.invariant-loop-i
invariant-loop-i l = record { tested : AllWithin (MethodTested l.pool l.interface) l.methods 0 l.i; no_twin : IfSome l.twin (λ t. l.i ≤ t) }
