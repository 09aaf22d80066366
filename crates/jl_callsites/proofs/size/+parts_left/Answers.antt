use Rattle.std.proofs.Common.{arith}
use Rattle.jl_callsites.proofs.Sizes.{depth_some, parts_some}
use Rattle.jl_callsites.proofs.size.+parts_left.Goals as goal

pub returns-in_err-levels-clause-larger : goal.returns-in_err-levels-clause-larger
returns-in_err-levels-clause-larger t c = λ none fits. let some = depth_some c.args.target.now in let few = c.in_err-levels.ensures in omega arith

pub returns-in_err-parts-clause-larger : goal.returns-in_err-parts-clause-larger
returns-in_err-parts-clause-larger t c = λ none fits. let some = parts_some c.args.target.now in let few = c.in_err-parts.ensures in omega arith
