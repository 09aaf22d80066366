use Rattle.std.proofs.Common.{sym, arith}
use Rattle.std.proofs.lemmas.Bool.Decides.{nat_tests}
use Rattle.jl_json.proofs.TargetLaws.{too_few, too_many}
use Rattle.jl_json.proofs.target.method_pair.Goals.{in_default-via-then-items-lt2, in_default-via-else-items-lt2+else-items-lt3}
use Rattle.jl_json.proofs.target.method_pair.Goals as goal

pub returns-in_default : goal.returns-in_default
returns-in_default c = elim c.in_default.branch [
  | in_default-via-then-items-lt2 w ↦ sym (too_few c.args.items.now (grind (arith, nat_tests)))
  | in_default-via-else-items-lt2+else-items-lt3 w ↦ sym (too_many c.args.items.now (grind (arith, nat_tests)))
]
