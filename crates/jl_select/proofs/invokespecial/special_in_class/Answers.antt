use Rattle.std.specs.Prelude.{not}
use Rattle.std.proofs.Common.{sym, ◌∙◌}
use Rattle.jl_types.specs.Values.Members.{is_static}
use Rattle.jl_hierarchy.proofs.Chains.{next_below}
use Rattle.jl_select.proofs.Upward.{upward}
use Rattle.jl_select.proofs.invokespecial.special_in_class.Goals as goal

pub loop-method-smaller : goal.loop-method-smaller
loop-method-smaller c = next_below c.args.classes.now c.superclass.ensures.ordered c.loop-method.at c.in-Some-superclass.superclass
    (sym c.in-Some-superclass.ensures.same)

pub loop-method-preserved : goal.loop-method-preserved
loop-method-preserved c =
    sym
    (upward (λ m. not (is_static c.args.classes.now m)) c.args.classes.now c.args.sought.now.name c.args.sought.now.ty c.loop-method.at
    c.superclass.ensures.ordered c.in-Some-superclass.superclass (sym c.in_default.ensures) (sym c.in-Some-superclass.ensures.same))
    ∙ c.loop-method.invariant
