use Rattle.jl_server.proofs.Rules.{one_change}
use Rattle.jl_server.proofs.book.commit_shown.Goals as goal

pub show_in-requires-clause-pending : goal.show_in-requires-clause-pending
show_in-requires-clause-pending g c = one_change _ _ _ _ c.requires.settled c.in-Ok.ensures.pending c.of-known.ensures
