use Rattle.std.proofs.Common.{◌∙◌, ap, sym}
use Rattle.jl_pool.specs.declared.form.Marks.{Marks}
use Rattle.jl_pool.proofs.MarkLaws.{qualified_barred, qualified_tested, qualified_one}
use Rattle.jl_pool.proofs.form.is_qualified_by.Goals as goal

pub returns-then-marks : goal.returns-then-marks
returns-then-marks c = qualified_barred c.args.text.now (sym (ap (λ (m : Marks). m.barred) c.requires) ∙ c.if-marks.true)

pub returns-then-marks-2 : goal.returns-then-marks-2
returns-then-marks-2 c = rw c.is_class_name.ensures (qualified_tested c.args.text.now)

pub returns : goal.returns
returns c = qualified_one c.args.text.now (sym (ap (λ (m : Marks). m.slash) c.requires) ∙ c.if-marks-2.false)
