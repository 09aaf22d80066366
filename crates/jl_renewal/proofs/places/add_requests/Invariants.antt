use Rattle.std.specs.Prelude.{filter_map}
use Rattle.std.proofs.Common.{◌≤◌, ◌-◌, length, take}
use Rattle.jl_renewal.specs.Renewal.{request}
use Rattle.jl_renewal.specs.Adds.{Adds}
use Rattle.jl_renewal.proofs.places.add_requests.Given as goal

abbrev pub invariant-loop-place : goal.invariant-loop-place
invariant-loop-place g l = record {
  within : l.number ≤ length l.places;
  adds :
      Adds (filter_map (request l.numbers) (take l.number l.places)) (g.M.EventMachine.state l.fn.fresh) (g.M.EventMachine.state l.fresh);
}

abbrev pub decreases-loop-place : goal.decreases-loop-place
decreases-loop-place g l = length l.places - l.number
