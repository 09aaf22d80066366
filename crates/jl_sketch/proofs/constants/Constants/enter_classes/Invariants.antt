use Rattle.std.proofs.Common.{◌≡◌, take}
use Rattle.std.specs.Prelude.{fold}
use Rattle.jl_sketch.specs.Constants.{with_class}
use Rattle.jl_sketch.proofs.constants.Constants.enter_classes.Given as goal

abbrev pub invariant-loop-name : goal.invariant-loop-name
invariant-loop-name l = l.self ≡ fold with_class l.initial.self (take l.name-index l.names)
