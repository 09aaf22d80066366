use Rattle.std.proofs.Common.{List, subst, sym}
use Rattle.jl_types.specs.Events.Entries.{Entry, IsEntry, events_of}
use Rattle.jl_server.specs.History.{planned_entry}
use Rattle.jl_server.proofs.Logs.{entry_next}
use Rattle.jl_server.proofs.book.next_list.Goals as goal

pub add-requires : goal.add-requires
add-requires g c =
    let n = g.K.Name.limits in
    let plan = c.args.planned.now in
    subst (λ (es : List Entry). IsEntry n (events_of es) (planned_entry plan)) (sym c.again-next.ensures)
    (entry_next n c.args.list.now c.requires.0 plan c.requires.1)
