use Rattle.serde_json.specs.View.{view}
use Rattle.jl_session.proofs.FloatLaws.{event_floats}
use Rattle.bench.proofs.drawn.submit.Goals as goal

pub text_of-requires : goal.text_of-requires
text_of-requires c = event_floats _ (view c.in_ok-answer.answer) c.in_ok-answer.ensures
