use Rattle.std.proofs.Common.{sym, ◌∙◌}
use Rattle.jl_names.proofs.DescriptorLaws.{field_fault, field_trailing, field_whole, field_shorter, field_left}
use Rattle.jl_names.proofs.descriptor.FieldType.parse.Goals as goal

pub overflow_sub-result : goal.overflow_sub-result
overflow_sub-result c = field_shorter c.args.text.now c.in-Ok.rest.now c.in-Ok.ty c.in-Ok.ensures

pub overflow_sub-result-in-Err : goal.overflow_sub-result-in-Err
overflow_sub-result-in-Err c = field_left c.args.text.now c.in-Err.rest.now c.in-Err.ensures

pub returns-then-is_empty-clause-ok : goal.returns-then-is_empty-clause-ok
returns-then-is_empty-clause-ok c =
    field_whole c.args.text.now c.in-Ok.rest.now c.in-Ok.ty c.in-Ok.ensures
    (sym c.is_empty.ensures ∙ c.if-is_empty.true)

pub returns-else-is_empty-clause-fault : goal.returns-else-is_empty-clause-fault
returns-else-is_empty-clause-fault c =
    field_trailing c.args.text.now c.in-Ok.rest.now c.in-Ok.ty c.in-Ok.ensures
    (sym c.is_empty.ensures ∙ c.if-is_empty.false)

pub returns-in-Err-clause-fault : goal.returns-in-Err-clause-fault
returns-in-Err-clause-fault c = field_fault c.args.text.now c.in-Err.rest.now c.in-Err.ensures
