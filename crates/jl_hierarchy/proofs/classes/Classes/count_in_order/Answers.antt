use Rattle.std.specs.Prelude.{◌≤◌, ◌^◌, length}
use Rattle.std.proofs.Common.{subst}
use Rattle.jl_types.specs.Values.World.{Classes}
use Rattle.jl_hierarchy.proofs.KeptLaws.{in_order}
use Rattle.jl_hierarchy.proofs.classes.Classes.count_in_order.Goals as goal

pub returns-clause-order : goal.returns-clause-order
returns-clause-order c = in_order _ _ _ c.self.invariant.0 c.args.self.now c.self.view_is

pub returns-clause-few : goal.returns-clause-few
returns-clause-few c = subst (λ (k : Classes). length k.rows ≤ 2 ^ 20) c.self.view_is c.self.invariant.0.few
