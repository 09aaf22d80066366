use Rattle.std.specs.Prelude.{length}
use Rattle.std.proofs.Common.{sym, ◌∙◌, arith}
use Rattle.jl_types.specs.Events.Retirement.{is_of_any}
use Rattle.jl_types.specs.ForProofs.Leaving.{inherits_any}
use Rattle.jl_hierarchy.proofs.Heirs.{none_later, found_later, heirs_of_any_are_later}
use Rattle.jl_hierarchy.proofs.classes.Classes.first_heir_of_any.Goals as goal

pub returns : goal.returns
returns c =
    let n = length c.args.self.now.rows in
    c.first_heir_of_any_from.ensures
    ∙ sym (found_later (is_of_any c.args.self.now c.args.leaving.now) (inherits_any c.args.self.now c.args.leaving.now)
    (heirs_of_any_are_later c.args.self.now c.args.leaving.now) 0 n n c.in_ok-first.first (omega arith) (λ k lt. absurd (omega arith))
    (sym c.first_of_any.ensures ∙ c.in_ok-first.was))

pub returns-in_err-first : goal.returns-in_err-first
returns-in_err-first c =
    c.from_residual.ensures
    ∙ sym (none_later (is_of_any c.args.self.now c.args.leaving.now) (inherits_any c.args.self.now c.args.leaving.now)
    (heirs_of_any_are_later c.args.self.now c.args.leaving.now) 0 (length c.args.self.now.rows) (λ k lt. absurd (omega arith))
    (sym c.first_of_any.ensures ∙ c.in_err-first.was))
