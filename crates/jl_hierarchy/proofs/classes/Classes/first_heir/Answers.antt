use Rattle.std.specs.Prelude.{length}
use Rattle.std.proofs.Common.{sym, ◌∙◌, arith}
use Rattle.jl_types.specs.Events.Retirement.{is_of, inherits_from}
use Rattle.jl_hierarchy.proofs.Heirs.{none_later, found_later, heirs_are_later}
use Rattle.jl_hierarchy.proofs.classes.Classes.first_heir.Goals as goal

pub returns : goal.returns
returns c =
    let n = length c.args.self.now.rows in
    c.first_heir_from.ensures
    ∙ sym (found_later (is_of c.args.self.now c.args.loader) (inherits_from c.args.self.now c.args.loaders.now c.args.loader)
    (heirs_are_later c.args.self.now c.args.loaders.now c.args.loader) 0 n n c.in_ok-first.first (omega arith) (λ k lt. absurd (omega arith))
    (sym c.first_of.ensures ∙ c.in_ok-first.was))

pub returns-in_err-first : goal.returns-in_err-first
returns-in_err-first c =
    c.from_residual.ensures
    ∙ sym (none_later (is_of c.args.self.now c.args.loader) (inherits_from c.args.self.now c.args.loaders.now c.args.loader)
    (heirs_are_later c.args.self.now c.args.loaders.now c.args.loader) 0 (length c.args.self.now.rows) (λ k lt. absurd (omega arith))
    (sym c.first_of.ensures ∙ c.in_err-first.was))
