use mir.Syntax.{named}
use denote.Param.{param}
use Rattle.rows_server.proofs.workers.Crossing.{shared_sync}
use Rattle.rows_server.proofs.servers.run.Goals as goal

pub at_once-requires-sync-T : goal.at_once-requires-sync-T
at_once-requires-sync-T g c κs = λ _. record {
  shared = (shared_sync (record { mir = named 0; lft = _ }) (param 0 g.row.K) (param 1 g.row.R)
      (param 2 g.row.S) g.K.Name c.type_bounds.sync-R c.type_bounds.send-S).shared;
}
