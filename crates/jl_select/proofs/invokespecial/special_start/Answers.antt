use Rattle.std.specs.Prelude.{ℕ, ◌<◌, length, IfSome, Option}
use Rattle.std.proofs.Common.{sym, subst}
use Rattle.jl_select.proofs.Bridges.{superclass_there}
use Rattle.jl_select.proofs.invokespecial.special_start.Goals as goal

pub returns-then-is_proper_subclass-clause-there : goal.returns-then-is_proper_subclass-clause-there
returns-then-is_proper_subclass-clause-there c =
    subst (λ (o : Option ℕ). IfSome o (λ class. class < length c.args.classes.now.rows)) (sym c.superclass.ensures.same)
    (superclass_there c.args.classes.now c.superclass.ensures.ordered c.args.caller)
