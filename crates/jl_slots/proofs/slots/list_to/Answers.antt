use Rattle.std.proofs.Common.{◌<◌, length, sym, subst, ◌∙◌, arith}
use Rattle.jl_slots.proofs.SlotLaws.{one_listed}
use Rattle.jl_slots.proofs.slots.list_to.Goals as goal

pub loop-pages-preserved : goal.loop-pages-preserved
loop-pages-preserved g c =
    let count = c.len.ensures in
    let test = c.loop-pages-test.true in
    one_listed c.loop-pages.pages.items c.push.new.self.items c.args.blank.now c.in_ok-copy.field-0 c.args.count c.args.page
    (subst (λ pages. c.args.page < length pages) (sym c.loop-pages.invariant) c.requires) (omega (arith, count, test))
    c.in_ok-push.ensures.items c.in_ok-copy.ensures
    ∙ c.loop-pages.invariant
