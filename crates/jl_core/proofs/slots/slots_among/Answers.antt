use Rattle.std.specs.Prelude.{◌++◌, [], option_map}
use Rattle.std.specs.List.{cons_option}
use Rattle.std.proofs.Common.{sym, ◌∙◌}
use Rattle.jl_types.specs.Events.Entries.{change}
use Rattle.jl_core.specs.ForProofs.Touched.{slot_at}
use Rattle.jl_core.proofs.SlotLaws.{one_more}
use Rattle.jl_core.proofs.slots.slots_among.Goals as goal

pub loop-site-preserved : goal.loop-site-preserved
loop-site-preserved c =
    c.in_ok-add_slot.ensures
    ∙ (λ i.
    c.loop-site.invariant i
    ++ cons_option (option_map (λ slot. (c.site-item.result, slot)) (change (c.get.ensures.link i) (c.get-in-loop-site.ensures.link i))) [])
    ∙ sym (one_more (slot_at c.args.before.now c.args.after.now) c.args.sites.now c.loop-site.site-index c.site-item.result
    c.loop-site-test.true c.site-item.is)
