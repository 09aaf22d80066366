use Rattle.std.proofs.Common.{◌≡◌, ◌∙◌, ◌||◌, eqb, length, false, subst, sym}
use Rattle.jl_pool.specs.declared.form.Marks.{Marks}
use Rattle.jl_pool.proofs.FormLaws.{parsed}
use Rattle.jl_pool.proofs.MarkLaws.{field_unmarked}
use Rattle.jl_pool.proofs.form.is_field_by.Goals as goal

pub returns-then-marks-text : goal.returns-then-marks-text
returns-then-marks-text c = c.is_ok.ensures.value ∙ parsed c.args.text.now c.parse.result c.parse.ensures.ok c.parse.ensures.fault

pub returns : goal.returns
returns c = sym (field_unmarked c.args.text.now (subst (λ (m : Marks). (m.barred || eqb (length c.args.text.now) 1) ≡ false) c.requires c.if-marks-text.false))
