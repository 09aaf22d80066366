use Rattle.std.proofs.Common.{take}
use Rattle.jl_renewal.specs.Renewal.{new_switches}
use Rattle.jl_renewal.specs.Adds.{Adds}
use Rattle.jl_renewal.proofs.call_sites.add_switches.Given as goal

abbrev pub invariant-loop-number : goal.invariant-loop-number
invariant-loop-number g l = Adds (new_switches (take l.number-index l.numbers)) (g.M.EventMachine.state l.fn.fresh) (g.M.EventMachine.state l.fresh)
