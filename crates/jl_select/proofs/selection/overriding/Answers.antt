use Rattle.std.proofs.Common.{sym, ◌∙◌}
use Rattle.jl_types.specs.Linkage.Overriding.{can_override}
use Rattle.jl_hierarchy.proofs.Chains.{next_below}
use Rattle.jl_select.proofs.Upward.{upward}
use Rattle.jl_select.proofs.selection.overriding.Goals as goal

pub loop-found-smaller : goal.loop-found-smaller
loop-found-smaller c = next_below c.args.classes.now c.superclass.ensures.ordered c.loop-found.at c.in-Some-superclass.superclass
    (sym c.in-Some-superclass.ensures.same)

pub loop-found-preserved : goal.loop-found-preserved
loop-found-preserved c =
    sym
    (upward (λ m. can_override c.args.classes.now m c.args.resolved.now) c.args.classes.now c.args.sought.now.name c.args.sought.now.ty c.loop-found.at
    c.superclass.ensures.ordered c.in-Some-superclass.superclass (sym c.in_default.ensures) (sym c.in-Some-superclass.ensures.same))
    ∙ c.loop-found.invariant
