use Rattle.std.proofs.Common.{Ok, Err}
use Rattle.jl_session.proofs.LackLaws.{if_err}
use Rattle.jl_session.proofs.ScanLaws.{for_ok}
use Rattle.jl_cli.proofs.LackLaws.{served_lacks}
use Rattle.jl_cli.proofs.served.ServerCommandsObeyCaller.apply.Goals as goal

pub returns-in-Ok-clause-ok : goal.returns-in-Ok-clause-ok
returns-in-Ok-clause-ok g c = for_ok (λ v is. record {
  outcome = Ok c.in-Ok.receipt.reply;
  grown = c.apply.ensures.own;
  legal = c.apply.ensures.legal;
  applied = (c.in-Ok.ensures.entry, c.in-Ok.ensures.longer);
  said = is;
}) c.reply_value.result c.reply_value.ensures

pub returns-in-Err-clause-ok : goal.returns-in-Err-clause-ok
returns-in-Err-clause-ok g c = for_ok (λ v is. record {
  outcome = Err c.in-Err.denied.refusal;
  grown = c.apply.ensures.own;
  legal = c.apply.ensures.legal;
  applied = c.in-Err.ensures.refused;
  said = is;
}) c.event_refusal_value.result c.event_refusal_value.ensures

pub returns-in-Ok-clause-lacks : goal.returns-in-Ok-clause-lacks
returns-in-Ok-clause-lacks g c =
    if_err (served_lacks _ _ _ c.args.event (Ok c.in-Ok.receipt.reply) c.apply.ensures.own c.apply.ensures.legal
    (c.in-Ok.ensures.entry, c.in-Ok.ensures.longer)) c.reply_value.result

pub returns-in-Err-clause-lacks : goal.returns-in-Err-clause-lacks
returns-in-Err-clause-lacks g c =
    if_err (served_lacks _ _ _ c.args.event (Err c.in-Err.denied.refusal) c.apply.ensures.own c.apply.ensures.legal c.in-Err.ensures.refused)
    c.event_refusal_value.result
