use Rattle.std.specs.Prelude.{filter_map}
use Rattle.std.specs.List.{range_with_len}
use Rattle.jl_renewal.specs.Renewal.{new_call_site}
use Rattle.jl_renewal.specs.Adds.{Adds}
use Rattle.jl_renewal.proofs.call_sites.add_call_sites.Given as goal

abbrev pub invariant-loop-number : goal.invariant-loop-number
invariant-loop-number g l =
    Adds (filter_map (new_call_site l.old l.numbers) (range_with_len 0 l.number))
    (g.M.EventMachine.state l.fn.fresh) (g.M.EventMachine.state l.fresh)
