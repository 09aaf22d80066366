use Rattle.std.proofs.lemmas.Result.{IfOk-weaker}
use Rattle.jl_json.specs.ForProofs.NameReading.{name_text}
use Rattle.jl_json.proofs.NameLaws.{spells}
use Rattle.jl_json.proofs.event_refusal.event_refusal_value.Goals as goal

pub returns : goal.returns
returns c = IfOk-weaker c.refusal_value.result _ _ (λ v said. (name_text, spells, said)) c.refusal_value.ensures
