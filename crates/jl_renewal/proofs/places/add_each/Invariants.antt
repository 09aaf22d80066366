use Rattle.std.specs.Prelude.{filter_map}
use Rattle.std.proofs.Common.{take}
use Rattle.jl_renewal.specs.Renewal.{binding}
use Rattle.jl_renewal.specs.Adds.{Adds}
use Rattle.jl_renewal.proofs.places.add_each.Given as goal

abbrev pub invariant-loop-one : goal.invariant-loop-one
invariant-loop-one g l = Adds (filter_map (binding l.numbers) (take l.one-index l.bound)) (g.M.EventMachine.state l.fn.fresh) (g.M.EventMachine.state l.fresh)
