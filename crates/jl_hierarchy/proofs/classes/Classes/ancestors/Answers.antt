use Rattle.std.proofs.Common.{refl, ◌∙◌}
use Rattle.jl_hierarchy.proofs.KeptLaws.{ancestors_here, above_here, good}
use Rattle.jl_hierarchy.proofs.classes.Classes.ancestors.Goals as goal

pub at-requires : goal.at-requires
at-requires c =
    above_here _ _ _ c.self.invariant.0 c.args.self.now c.self.view_is c.self.inside.above.items refl c.number.result c.args.class c.number.ensures c.requires

pub returns-clause-listed : goal.returns-clause-listed
returns-clause-listed c =
    c.as_slice.ensures ∙ c.at.ensures
    ∙ ancestors_here _ _ _ c.self.invariant.0 c.args.self.now c.self.view_is c.self.inside.above.items refl c.number.result
    c.args.class c.number.ensures c.requires c.at.result.now

pub returns-clause-ordered : goal.returns-clause-ordered
returns-clause-ordered c = (good _ _ _ c.self.invariant.0 c.args.self.now c.self.view_is).ordered
