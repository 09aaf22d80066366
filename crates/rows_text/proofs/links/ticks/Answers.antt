use Rattle.std.specs.Prelude.{◌^◌, ◌<◌, length}
use Rattle.std.proofs.Common.{rules, arith}
use Rattle.jl_relink.proofs.CountLaws.{few_ticks}
use Rattle.rows_text.proofs.links.ticks.Goals as goal

pub link_counted-link-requires : goal.link_counted-link-requires
link_counted-link-requires c =
    let rows : length c.args.world.now.classes.rows < 2 ^ 64 = search rules in
    let few = few_ticks c.args.world.now c.args.site (2 ^ 64) rows (omega arith) in
    let none = c.new-work.ensures in
    record { fits = omega arith }
