use Rattle.std.proofs.Common.{sym, ◌∙◌}
use Rattle.jl_hierarchy.proofs.Chains.{next_below, found_above}
use Rattle.jl_hierarchy.proofs.classes.Classes.declared_upward_by.Goals as goal

pub loop-method-smaller : goal.loop-method-smaller
loop-method-smaller c =
    next_below c.args.self.now c.superclass.ensures.ordered c.loop-method.at c.in-Some-superclass.superclass (sym c.in-Some-superclass.ensures.same)

pub loop-method-preserved : goal.loop-method-preserved
loop-method-preserved c =
    sym
    (found_above c.args.self.now c.superclass.ensures.ordered c.loop-method.at c.args.sought.now.name c.args.sought.now.ty c.in-Some-superclass.superclass
    (sym c.in_default.ensures) (sym c.in-Some-superclass.ensures.same))
    ∙ c.loop-method.invariant
