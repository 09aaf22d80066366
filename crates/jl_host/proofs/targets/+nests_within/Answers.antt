use Rattle.std.proofs.Common.{arith}
use Rattle.std.proofs.lemmas.Bool.Decides.{nat_tests}
use Rattle.jl_host.proofs.TargetLaws.{nesting_some}
use Rattle.jl_host.proofs.targets.+nests_within.Goals as goal

pub returns-in_default : goal.returns-in_default
returns-in_default t c = let some = nesting_some c.args.target.now in let few = c.in_default.ensures in grind (arith, nat_tests, some, few)
