use Rattle.std.proofs.Common.{length}
use Rattle.jl_core.specs.State.{world_of}
use Rattle.jl_renewal.specs.Adds.{AreFresh, InstallsFront}
use Rattle.jl_renewal.proofs.links.install_all.Given as goal

abbrev pub invariant-loop-left : goal.invariant-loop-left
invariant-loop-left g l = record {
  front : InstallsFront l.rows l.left (g.M.EventMachine.state l.fn.fresh) (g.M.EventMachine.state l.fresh);
  fresh : AreFresh (world_of (g.M.EventMachine.state l.fn.fresh)) l.rows → AreFresh (world_of (g.M.EventMachine.state l.fresh)) l.left;
}

abbrev pub decreases-loop-left : goal.decreases-loop-left
decreases-loop-left g l = length l.left
