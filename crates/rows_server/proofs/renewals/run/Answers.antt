use mir.Syntax.{named}
use denote.Param.{param}
use denote.Param.Send.{param_send}
use Rattle.rows_server.proofs.renewals.Crossing.{mover_send, renewal_sync}
use Rattle.rows_server.proofs.renewals.run.Goals as goal

pub at_once-requires-sync-T : goal.at_once-requires-sync-T
at_once-requires-sync-T g c κs = λ _. record {
  shared = (renewal_sync (record { mir = named 0; lft = _ }) (param 0 g.row.K) (param 1 g.row.L) (param 2 g.row.R)
      (param 3 g.row.S) g.K.Name g.L.Name c.type_bounds.sync-R c.type_bounds.send-S).shared;
}

pub at_once-requires-send-W : goal.at_once-requires-send-W
at_once-requires-send-W g c κs =
    let sent = mover_send (param 0 g.row.K) (param 1 g.row.L) (param 3 g.row.S) g.K.Name g.L.Name c.type_bounds.send-S in
    λ _. record { owned = sent.owned; leaving = (param_send 1 _ sent).leaving }
