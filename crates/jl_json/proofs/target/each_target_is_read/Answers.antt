use Rattle.jl_json.proofs.FormLaws.{target_again}
use Rattle.jl_json.proofs.target.each_target_is_read.Goals as goal

pub returns : goal.returns
returns c = target_again
