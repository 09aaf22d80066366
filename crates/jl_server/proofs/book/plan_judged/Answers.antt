use Rattle.jl_types.specs.Events.Entries.{events_of}
use Rattle.jl_types.specs.Events.History.{world_after}
use Rattle.jl_server.proofs.Logs.{accepted_logged}
use Rattle.jl_server.proofs.book.plan_judged.Goals as goal

pub plan_judged-requires : goal.plan_judged-requires
plan_judged-requires g c =
    accepted_logged g.K.Name.limits c.args.list.now c.args.core.now c.args.event (world_after (events_of c.args.earlier.now)) c.requires.core
    (c.is_as_after.ensures c.if-not-is_as_after.false) c.requires.judged
