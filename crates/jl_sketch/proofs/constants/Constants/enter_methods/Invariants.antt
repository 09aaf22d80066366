use Rattle.std.proofs.Common.{◌≡◌, take}
use Rattle.std.specs.Prelude.{fold}
use Rattle.jl_sketch.specs.Constants.{with_declared}
use Rattle.jl_sketch.proofs.constants.Constants.enter_methods.Given as goal

abbrev pub invariant-loop-method : goal.invariant-loop-method
invariant-loop-method l = l.self ≡ fold with_declared l.initial.self (take l.method-index l.methods)
