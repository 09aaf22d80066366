use Rattle.std.proofs.Common.{◌==◌, ◌∙◌, ap, subst, sym}
use Rattle.std.specs.Prelude.{option_to_list}
use Rattle.jl_report.specs.Made.{is_above}
use Rattle.jl_report.specs.ForProofs.Marking.{AreMarked}
use Rattle.jl_report.proofs.MadeLaws.{marked_above}
use Rattle.jl_report.proofs.made.mark_site.Goals as goal

pub returns : goal.returns
returns c =
    let cs = c.args.classes.now in
    let old = c.args.marks.now in
    let new = c.mark_all.new.marks in
    subst (λ ds. AreMarked (is_above cs) ds old new) (ap option_to_list (sym c.in-Some.is ∙ c.made_by.ensures.class))
    (marked_above cs c.ancestors.ensures.ordered c.in-Some.class old new (sym c.is_interface.ensures ∙ c.if-not-is_interface.false)
    (subst (λ ks. AreMarked (λ c d. d == c) ks old new) c.ancestors.ensures.listed c.mark_all.ensures))
