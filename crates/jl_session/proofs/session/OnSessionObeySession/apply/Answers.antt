use Rattle.jl_session.proofs.LackLaws.{if_err, event_lacks}
use Rattle.jl_session.proofs.session.OnSessionObeySession.apply.Goals as goal

pub returns-clause-lacks : goal.returns-clause-lacks
returns-clause-lacks c =
    if_err (event_lacks c.args.on.now c.submit-outcome.new.self c.args.event c.submit-outcome.result c.submit-outcome.ensures.applied
    c.submit-outcome.ensures.batches) c.event_value.result
