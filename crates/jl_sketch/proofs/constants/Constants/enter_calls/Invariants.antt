use Rattle.std.proofs.Common.{◌≡◌, take}
use Rattle.std.specs.Prelude.{fold}
use Rattle.jl_sketch.specs.Constants.{with_call}
use Rattle.jl_sketch.proofs.constants.Constants.enter_calls.Given as goal

abbrev pub invariant-loop-call : goal.invariant-loop-call
invariant-loop-call l = l.self ≡ fold with_call l.initial.self (take l.call-index l.calls)
