use Rattle.std.proofs.Common.{subst}
use Rattle.jl_types.specs.Values.World.{Classes}
use Rattle.jl_hierarchy.specs.Redeclared.{AreLines}
use Rattle.jl_hierarchy.proofs.classes.Classes.are_superclass_chains.Goals as goal

pub returns : goal.returns
returns c known = subst (λ (k : Classes). AreLines k.rows) c.self.view_is (c.self.invariant.1.lines known)
