use Rattle.jl_names.specs.ForProofs.Repeats.{Numbers}
use Rattle.jl_names.proofs.RepeatLaws.{found_of}
use Rattle.jl_names.proofs.repeat.first_repeat.Goals as goal

pub returns : goal.returns
returns c =
    let numbers : Numbers c.args.texts.now c.deref.result.now = rw c.deref.ensures.value c.in_ok-numbers.ensures in
    found_of c.args.texts.now c.deref.result.now c.args.pairs.now numbers c.first_again.result c.first_again.ensures
