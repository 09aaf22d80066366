use Rattle.std.specs.Prelude.{◌+◌, get_or, slice_set, take}
use Rattle.std.proofs.Common.{ap, sym, subst, ◌∙◌, arith}
use Rattle.jl_hierarchy.specs.ForProofs.Kept.{AreChanged, lists}
use Rattle.jl_hierarchy.specs.Retiring.{without}
use Rattle.jl_hierarchy.proofs.Appending.{changed_more}
use Rattle.jl_hierarchy.proofs.retire.drop_receivers.Goals as goal

pub loop-class-preserved : goal.loop-class-preserved
loop-class-preserved c =
    let list = c.index-below-number.result in
    let new = c.drop_from.new.receivers in
    let is = c.number.ensures ∙ c.class-item.is in
    let low = c.requires.there c.loop-class.class-index c.class-item.result c.loop-class-test.true in
    let many = c.loop-class.auto.below in
    subst (λ m. AreChanged (take (c.loop-class.class-index + 1) c.args.losing.now) (without c.args.rows.now.items c.args.retired.now.keys)
    (lists c.args.below.now) (lists (slice_set c.loop-class.below m new)))
    (sym is)
    (changed_more c.args.losing.now (without c.args.rows.now.items c.args.retired.now.keys) (lists c.args.below.now) c.loop-class.below
    c.loop-class.class-index c.class-item.result
    c.requires.rising c.loop-class-test.true c.loop-class.invariant new list (omega (arith, low, many))
    (c.drop_from.ensures ∙ ap (λ m. without c.args.rows.now.items c.args.retired.now.keys (get_or c.loop-class.below m list).items) is))
