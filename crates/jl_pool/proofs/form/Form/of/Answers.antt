use Rattle.jl_pool.proofs.FormLaws.{counted}
use Rattle.jl_pool.proofs.MarkLaws.{form_by_marks}
use Rattle.jl_pool.proofs.form.Form.of.Goals as goal

pub returns : goal.returns
returns c =
    form_by_marks c.args.text.now _ _ _ _ _ c.requires c.is_unqualified_by-unqualified.ensures c.is_qualified_by.ensures c.is_field_by.ensures
    (counted c.args.text.now c.method_slots.result c.method_slots.ensures)
