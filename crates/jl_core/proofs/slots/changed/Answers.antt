use Rattle.std.specs.Prelude.{filter_map, slice_get, Result, Ok, Err, IfOk}
use Rattle.std.proofs.Common.{sym, ap, ◌∙◌}
use Rattle.jl_core.specs.State.{world_of}
use Rattle.jl_core.specs.ForProofs.Touched.{slot_at}
use Rattle.jl_core.proofs.PlanLaws.{at_most_one, has_last, slots_led}
use Rattle.jl_core.proofs.slots.changed.Goals as goal

for_ok : {X E : Type 0} {P Q : X → Type 0} → ((x : X) → P x → Q x) → (r : Result X E) → IfOk r P → IfOk r Q
for_ok f (Ok x) h = f x h
for_ok f (Err e) h = tt

pub returns : goal.returns
returns c =
    let before = c.log-2.result.now in
    let after = c.log.result.now in
    for_ok
    (λ slots items e reply led.
    items
    ∙ ap (filter_map (slot_at c.links.result.now c.links-2.result.now)) c.deref.ensures.value
    ∙ slots_led c.args.before.now c.args.after.now (world_of c.args.before.now).classes.rows (world_of c.args.after.now).classes.rows
    c.log-2.result.now c.log.result.now c.log-2.ensures.told c.log.ensures.told c.log-2.ensures.events c.log.ensures.events e reply led
    c.in-Some.last.now
    ((λ i. slice_get after (sym c.len.ensures i))
    ∙ sym (c.in-Some.ensures (at_most_one c.args.before.now c.args.after.now (world_of c.args.before.now).classes.rows
    (world_of c.args.after.now).classes.rows before after c.log-2.ensures.told c.log.ensures.told c.log-2.ensures.events c.log.ensures.events e reply led
    c.len.result c.len.ensures)))
    c.in_ok-sites.sites.items c.in_ok-sites.ensures
    c.links.result.now c.links-2.result.now c.links.ensures c.links-2.ensures)
    c.slots_among.result c.slots_among.ensures

pub returns-in_default : goal.returns-in_default
returns-in_default c = λ e reply led.
    has_last c.args.before.now c.args.after.now (world_of c.args.before.now).classes.rows (world_of c.args.after.now).classes.rows
    c.log-2.result.now c.log.result.now c.log-2.ensures.told c.log.ensures.told c.log-2.ensures.events c.log.ensures.events
    e reply led
    ((λ i. slice_get c.log.result.now (sym c.len.ensures i))
    ∙ sym (c.in_default.ensures (at_most_one c.args.before.now c.args.after.now (world_of c.args.before.now).classes.rows
    (world_of c.args.after.now).classes.rows c.log-2.result.now c.log.result.now c.log-2.ensures.told c.log.ensures.told c.log-2.ensures.events
    c.log.ensures.events e reply led c.len.result c.len.ensures)))
