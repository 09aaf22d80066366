use Rattle.jl_json.proofs.TargetLaws.{target_keys}
use Rattle.jl_json.proofs.target.no_other_target_keys.Goals as goal

pub returns : goal.returns
returns c = target_keys
