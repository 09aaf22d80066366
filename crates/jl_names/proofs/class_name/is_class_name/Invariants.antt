use Rattle.std.proofs.Common.{◌≡◌, drop}
use Rattle.jl_names.specs.ClassNames.{is_class_name}
use Rattle.jl_names.proofs.ClassNameLaws.{is_name}
use Rattle.jl_names.proofs.class_name.is_class_name.Given as goal

abbrev pub invariant-loop-byte : goal.invariant-loop-byte
invariant-loop-byte l = is_name l.fresh (drop l.byte-index l.name) ≡ is_class_name l.name
