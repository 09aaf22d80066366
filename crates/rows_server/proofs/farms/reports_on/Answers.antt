use mir.Syntax.{named}
use denote.Param.{param}
use Rattle.rows_server.proofs.farms.Crossing.{turner_sync}
use Rattle.rows_server.proofs.farms.reports_on.Goals as goal

pub run-requires-sync-G : goal.run-requires-sync-G
run-requires-sync-G g c κs = λ _. record {
  shared = (turner_sync (record { mir = named 0; lft = _ }) (param 0 g.row.K) (param 1 g.row.R)
      (param 2 g.row.S) g.K.Name c.type_bounds.sync-R c.type_bounds.send-S).shared;
}
