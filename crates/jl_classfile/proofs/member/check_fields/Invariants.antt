use Rattle.std.specs.List.{AllWithin}
use Rattle.jl_classfile.specs.ForProofs.Members.{FieldTested}
use Rattle.jl_classfile.proofs.member.check_fields.Given as goal

abbrev pub invariant-loop-i : goal.invariant-loop-i
invariant-loop-i l = AllWithin (FieldTested l.pool) l.fields 0 l.i
