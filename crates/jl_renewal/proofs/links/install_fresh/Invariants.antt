use Rattle.std.proofs.Common.{length}
use Rattle.jl_core.specs.State.{world_of}
use Rattle.jl_renewal.specs.Adds.{AreFresh, InstallsFront}
use Rattle.jl_renewal.proofs.links.install_fresh.Given as goal

abbrev pub invariant-loop-rest : goal.invariant-loop-rest
invariant-loop-rest g l = record {
  front : InstallsFront l.rows l.rest (g.M.EventMachine.state l.fn.fresh) (g.M.EventMachine.state l.fresh);
  fresh : AreFresh (world_of (g.M.EventMachine.state l.fresh)) l.rest;
}

abbrev pub decreases-loop-rest : goal.decreases-loop-rest
decreases-loop-rest g l = length l.rest
