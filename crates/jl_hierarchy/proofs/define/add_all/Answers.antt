use Rattle.std.specs.Prelude.{length}
use Rattle.std.proofs.Common.{ap, ◌∙◌, arith}
use Rattle.jl_hierarchy.proofs.Growing.{there_below}
use Rattle.jl_hierarchy.proofs.define.add_all.Goals as goal

pub make_ready-requires-clause-there : goal.make_ready-requires-clause-there
make_ready-requires-clause-there c = there_below _ _ c.args.below.now.items c.requires.even.many_below c.requires.there

pub push_all-requires-clause-there : goal.push_all-requires-clause-there
push_all-requires-clause-there c =
    there_below _ _ c.make_ready.new.below.items (ap length c.in_ok-make_ready.ensures.below ∙ c.requires.even.many_below) c.requires.there

pub push_all-requires-clause-few : goal.push_all-requires-clause-few
push_all-requires-clause-few c =
    let rows = ap length c.in_ok-make_ready.ensures.rows in
    let above = ap length c.in_ok-make_ready.ensures.above in
    let even = c.requires.even in (omega (arith, rows, even.few), omega (arith, above, even.few, even.many_above))
