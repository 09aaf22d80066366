use Rattle.std.proofs.Common.{◌≡◌, take}
use Rattle.std.specs.Prelude.{map}
use Rattle.jl_code.specs.Codes.{code_bytes}
use Rattle.jl_sketch.specs.Layouts.{call_instruction}
use Rattle.jl_sketch.proofs.write.code_of.Given as goal

abbrev pub invariant-loop-call : goal.invariant-loop-call
invariant-loop-call l = l.code.items ≡ code_bytes (map (call_instruction l.constants) (take l.call-index l.calls))
