use Rattle.std.proofs.Common.{◌==◌}
use Rattle.jl_host.specs.ForProofs.Behind.{IsNow}
use Rattle.jl_host.specs.Seats.{room_for}
use Rattle.jl_host.proofs.BehindLaws.{one_written, at_site}
use Rattle.jl_host.proofs.behind.write_rows.Goals as goal

pub loop-row-preserved : goal.loop-row-preserved
loop-row-preserved g c =
    let new = c.in_ok-write_site.ensures in
    one_written c.args.core.now (λ s row. row.0 == s) c.args.rows.now c.loop-row.row-index c.row-item.result c.args.links.now.value c.loop-row.links.value
    c.write_site.new.links.value c.loop-row-test.true c.row-item.is c.loop-row.invariant new.all new.kept
    (λ s low e. at_site (room_for c.args.core.now.limits.sites) (IsNow c.args.core.now c.write_site.new.links.value) c.row-item.result.0 s e new.written low)
