use Rattle.jl_renewal.proofs.RenewalLaws.{past_of}
use Rattle.rows_core.proofs.renewals.fills.Goals as goal

pub refill-requires-clause-past : goal.refill-requires-clause-past
refill-requires-clause-past c =
    past_of c.args.old.now c.world.result.now c.log.result.now c.world.ensures.world c.log.ensures.events c.log.ensures.answered
