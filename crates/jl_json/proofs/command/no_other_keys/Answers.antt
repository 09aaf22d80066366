use Rattle.jl_json.proofs.KeyLaws.{form_keys}
use Rattle.jl_json.proofs.command.no_other_keys.Goals as goal

pub returns : goal.returns
returns c = form_keys
