use Rattle.std.specs.Prelude.{length}
use Rattle.std.proofs.Common.{ap, arith}
use Rattle.jl_types.specs.Values.World.{World}
use Rattle.jl_cli.proofs.served.ServerCommands.jobs.Goals as goal

pub each_site-requires : goal.each_site-requires
each_site-requires g c =
    let few = c.in_ok-snapshot.ensures.within.sites in
    omega (arith, few, c.requires, c.site_count.ensures, ap (λ (w : World). length w.places) c.world.ensures)
