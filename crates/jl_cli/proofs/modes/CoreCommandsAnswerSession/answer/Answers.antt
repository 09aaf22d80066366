use Rattle.jl_session.proofs.LackLaws.{if_err}
use Rattle.jl_cli.proofs.LackLaws.{run_lacks}
use Rattle.jl_cli.proofs.modes.CoreCommandsAnswerSession.answer.Goals as goal

pub returns-in_err-text-clause-lacks : goal.returns-in_err-text-clause-lacks
returns-in_err-text-clause-lacks c =
    if_err (run_lacks c.args.session.now c.answer_text.new.self c.args.line.now c.in_err-text.ensures.lacks) c.from_residual.result
