use Rattle.std.proofs.Common.{take}
use Rattle.jl_renewal.specs.Told.{told_events}
use Rattle.jl_renewal.specs.Adds.{Adds}
use Rattle.jl_renewal.proofs.classes.add_told.Given as goal

abbrev pub invariant-loop-entry : goal.invariant-loop-entry
invariant-loop-entry g l =
    Adds (told_events l.old l.numbers (take l.entry-index l.entries)) (g.M.EventMachine.state l.fn.fresh) (g.M.EventMachine.state l.fresh)
