use Rattle.std.proofs.Common.{sym, arith}
use Rattle.jl_names.proofs.DescriptorLaws.{field_less}
use Rattle.jl_names.proofs.SlotLaws.{SlotsStand-more, SlotsStand-closed, stopped_none, over_none}
use Rattle.jl_names.proofs.method_type.slots_at.Goals as goal

pub loop-after-smaller : goal.loop-after-smaller
loop-after-smaller c = field_less c.loop-after.rest.now c.in-Ok.after.now c.in-Ok.ty c.in-Ok.ensures

pub loop-after-preserved : goal.loop-after-preserved
loop-after-preserved c =
    rw (c.in_ok-slots.ensures.1, c.slots_of.ensures)
    (SlotsStand-more c.args.text.now c.loop-after.slots c.loop-after.rest.now c.in-Ok.ty c.in-Ok.after.now
    c.loop-after.invariant c.in-Ok.ensures (rw (← c.slots_of.ensures) c.in_ok-slots.ensures.0))

pub returns-in-Some : goal.returns-in-Some
returns-in-Some c = SlotsStand-closed c.args.text.now c.loop-after.slots c.loop-after.rest.now c.in-Some.after.now
    c.loop-after.invariant (sym c.in-Some.ensures)

pub returns-in_default-field_at : goal.returns-in_default-field_at
returns-in_default-field_at c =
    stopped_none c.args.text.now c.loop-after.slots c.loop-after.rest.now c.in_default-field_at.field-0.now
    c.loop-after.invariant (sym c.in_default.ensures) c.in_default-field_at.ensures

pub returns-in_err-slots : goal.returns-in_err-slots
returns-in_err-slots c =
    rw c.from_residual.ensures (over_none c.args.text.now c.loop-after.slots c.loop-after.rest.now c.in-Ok.ty
    c.in-Ok.after.now c.loop-after.invariant c.in-Ok.ensures
    (omega (arith, c.in_err-slots.ensures, c.slots_of.ensures)))
