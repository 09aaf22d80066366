use Rattle.std.specs.Prelude.{◌+◌, ◌^◌, ◌<◌, ◌≤◌, List}
use Rattle.std.proofs.Common.{sym, subst}
use Rattle.jl_types.specs.declared.key.Key.{Key}
use Rattle.jl_types.specs.Events.Footprints.{most_by}
use Rattle.jl_relink.proofs.scratch.link_counted.Goals as goal

pub invocation_link-requires : goal.invocation_link-requires
invocation_link-requires c = record {
  fits = subst (λ (ks : List Key). c.args.work.now + most_by c.args.world.now.classes ks < 2 ^ 64) c.in-Ok.ensures.rests_on c.requires.fits;
}

pub returns-in-Ok-clause-ticks : goal.returns-in-Ok-clause-ticks
returns-in-Ok-clause-ticks c =
    subst (λ (ks : List Key). c.invocation_link.new.work ≤ c.args.work.now + most_by c.args.world.now.classes ks) (sym c.in-Ok.ensures.rests_on)
    c.invocation_link.ensures.ticks
