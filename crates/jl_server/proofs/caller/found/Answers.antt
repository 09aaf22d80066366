use Rattle.std.proofs.Common.{sym, subst}
use Rattle.jl_types.specs.Events.Entries.{IsLegal}
use Rattle.jl_server.specs.declared.table.Table.{Table}
use Rattle.jl_server.proofs.caller.found.Goals as goal

pub of-list-requires-clause-legal : goal.of-list-requires-clause-legal
of-list-requires-clause-legal g c =
    subst (λ (y : Table). IsLegal g.K.Name.limits y.list.reached.log) (sym c.get-table.ensures) c.requires.legal
