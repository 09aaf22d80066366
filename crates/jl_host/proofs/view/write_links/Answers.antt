use Rattle.jl_host.specs.Showing.{shown}
use Rattle.jl_host.proofs.ReadingLaws.{one_at_front}
use Rattle.jl_host.proofs.view.write_links.Goals as goal

pub loop-place-preserved : goal.loop-place-preserved
loop-place-preserved c =
    one_at_front (λ row. shown row.1) c.args.rows.now c.args.links.now c.loop-place.links c.loop-place.place c.index-rows-place.result c.link_shown.result
    c.loop-place-test.true c.requires c.index-rows-place.is c.link_shown.ensures c.loop-place.invariant
