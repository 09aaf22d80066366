use Rattle.std.proofs.Common.{◌≡◌}
use Rattle.std.specs.BTreeMap.{keys}
use Rattle.jl_json.proofs.SketchLaws.{fit}
use Rattle.jl_json.proofs.sketch.are_among.Given as goal

abbrev pub invariant-loop-key : goal.invariant-loop-key
invariant-loop-key l = fit l.named l.key-iterator ≡ fit l.named (keys l.fn.members)
