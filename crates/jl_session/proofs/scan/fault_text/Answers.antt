use Rattle.std.proofs.Common.{◌∙◌, ap}
use Rattle.serde_json.specs.Written.{has_float}
use Rattle.jl_json.proofs.FloatLaws.{refusal_floats}
use Rattle.jl_session.proofs.scan.fault_text.Goals as goal

pub text_of-requires : goal.text_of-requires
text_of-requires c = ap has_float c.in_ok-answer.ensures ∙ refusal_floats _
