use Rattle.serde_json.specs.View.{view}
use Rattle.jl_session.proofs.ScanLaws.{for_ok}
use Rattle.jl_cli.proofs.FloatLaws.{line_floats}
use Rattle.jl_cli.proofs.served.ServerCommands.answer_text.Goals as goal

pub text_of-requires : goal.text_of-requires
text_of-requires g c = line_floats _ _ c.args.line.now (view c.in_ok-answer.answer) _ c.in_ok-answer.ensures.ok

pub returns-clause-ok : goal.returns-clause-ok
returns-clause-ok g c =
    for_ok (λ text said. (view c.in_ok-answer.answer, c.in_ok-answer.ensures.ok, said)) c.text_of.result c.text_of.ensures
