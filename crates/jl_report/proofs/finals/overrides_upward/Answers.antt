use Rattle.std.proofs.Common.{sym, ◌∙◌}
use Rattle.jl_hierarchy.proofs.Chains.{next_below}
use Rattle.jl_report.specs.Finals.{overrides_in}
use Rattle.jl_report.proofs.OverrideWalks.{passes_next, goes_on}
use Rattle.jl_report.proofs.finals.overrides_upward.Goals as goal

pub returns-then-overrides_in : goal.returns-then-overrides_in
returns-then-overrides_in c =
    passes_next c.args.classes.now c.in-Some.ensures.ordered (overrides_in c.args.classes.now c.args.lower.now c.args.sought.now.name c.args.sought.now.ty)
    c.loop-superclass.at c.in-Some.superclass (sym c.in-Some.ensures.same) (sym c.overrides_in.ensures ∙ c.if-overrides_in.true)
    ∙ c.loop-superclass.invariant

pub loop-superclass-smaller : goal.loop-superclass-smaller
loop-superclass-smaller c =
    next_below c.args.classes.now c.in-Some.ensures.ordered c.loop-superclass.at c.in-Some.superclass (sym c.in-Some.ensures.same)

pub loop-superclass-preserved : goal.loop-superclass-preserved
loop-superclass-preserved c =
    goes_on c.args.classes.now c.in-Some.ensures.ordered (overrides_in c.args.classes.now c.args.lower.now c.args.sought.now.name c.args.sought.now.ty)
    c.loop-superclass.at c.in-Some.superclass (sym c.in-Some.ensures.same) (sym c.overrides_in.ensures ∙ c.if-overrides_in.false)
    ∙ c.loop-superclass.invariant
