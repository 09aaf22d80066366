use Rattle.std.proofs.Common.{sym, ◌∙◌}
use Rattle.jl_names.proofs.SlotLaws.{unopened_none, many_none, result_none, trailing_none, whole_slots}
use Rattle.jl_names.proofs.method_type.method_slots.Goals as goal

pub returns-in_err-inner : goal.returns-in_err-inner
returns-in_err-inner c = rw c.from_residual.ensures (unopened_none c.args.text.now (sym c.in_err-inner.ensures))

pub returns-in_err-slots : goal.returns-in_err-slots
returns-in_err-slots c = rw c.from_residual-in_err-slots.ensures
    (many_none c.args.text.now c.in_ok-inner.inner.now (sym c.in_ok-inner.ensures) c.in_err-slots.ensures)

pub returns-in_default : goal.returns-in_default
returns-in_default c = result_none c.args.text.now c.in_ok-inner.inner.now c.in_ok-slots.rest.now
    c.in_default.field-0.now c.in_ok-slots.slots (sym c.in_ok-inner.ensures) c.in_ok-slots.ensures c.in_default.ensures

pub returns-then-is_empty : goal.returns-then-is_empty
returns-then-is_empty c = whole_slots c.args.text.now c.in_ok-inner.inner.now c.in_ok-slots.rest.now
    c.in-Ok.rest.now c.in_ok-slots.slots c.in-Ok.field-0-0
    (sym c.in_ok-inner.ensures) c.in_ok-slots.ensures c.in-Ok.ensures (sym c.is_empty.ensures ∙ c.if-is_empty.true)

pub returns-else-is_empty : goal.returns-else-is_empty
returns-else-is_empty c = trailing_none c.args.text.now c.in_ok-inner.inner.now c.in_ok-slots.rest.now
    c.in-Ok.rest.now c.in_ok-slots.slots c.in-Ok.field-0-0
    (sym c.in_ok-inner.ensures) c.in_ok-slots.ensures c.in-Ok.ensures (sym c.is_empty.ensures ∙ c.if-is_empty.false)
