use Rattle.std.proofs.Common.{◌≡◌, take}
use Rattle.jl_names.specs.Mutf8.{mutf8}
use Rattle.jl_names.proofs.mutf8.encode_mutf8.Given as goal

abbrev pub invariant-loop-unit : goal.invariant-loop-unit
invariant-loop-unit l = l.text.items ≡ mutf8 (take l.unit-index l.units)
