use Rattle.jl_session.proofs.LackLaws.{if_err}
use Rattle.jl_cli.proofs.LackLaws.{farm_lacks}
use Rattle.jl_cli.proofs.served.ServerCommandsAnswerCaller.answer.Goals as goal

pub returns-in_err-text-clause-lacks : goal.returns-in_err-text-clause-lacks
returns-in_err-text-clause-lacks g c =
    if_err (farm_lacks g.K.Name.limits c.args.caller.now c.answer_text.new.caller c.args.line.now c.in_err-text.ensures.lacks) c.from_residual.result
