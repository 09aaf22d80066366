use Rattle.std.proofs.Common.{◌∙◌, ap}
use Rattle.serde_json.specs.Written.{has_float}
use Rattle.jl_session.proofs.FloatLaws.{sketch_floats}
use Rattle.jl_session.proofs.sketch.sketch_fault_text.Goals as goal

pub text_of-requires : goal.text_of-requires
text_of-requires c = ap has_float c.in_ok-answer.ensures ∙ sketch_floats c.args.fault
