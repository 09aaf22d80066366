use Rattle.std.proofs.Common.{subst}
use Rattle.jl_types.specs.Events.History.{world_after}
use Rattle.jl_types.specs.Events.Entries.{events_of}
use Rattle.jl_memo.specs.Answers.{AreRight}
use Rattle.jl_server.specs.Remembering.{Remembering}
use Rattle.jl_server.proofs.memo.Memo.rows.Goals as goal

pub returns-clause-right : goal.returns-clause-right
returns-clause-right g c = subst (λ (r : Remembering). AreRight (world_after (events_of r.seen)) r.sets) c.self.view_is c.self.invariant
