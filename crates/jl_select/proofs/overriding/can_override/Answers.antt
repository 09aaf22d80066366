use Rattle.std.specs.Prelude.{Bool, Decides}
use Rattle.std.proofs.Common.{sym, subst}
use Rattle.jl_types.specs.Linkage.Overriding.{CanOverride}
use Rattle.jl_types.proofs.Overrides.{can_override_decides}
use Rattle.jl_select.proofs.overriding.can_override.Goals as goal

pub returns-in-Some-Some-clause-relation : goal.returns-in-Some-Some-clause-relation
returns-in-Some-Some-clause-relation c =
    subst (λ (b : Bool). Decides b (CanOverride c.args.classes.now c.args.lower.now c.args.upper.now)) (sym c.overrides.ensures)
    (can_override_decides c.args.classes.now c.class_at.ensures.ordered c.args.lower.now c.args.upper.now)
