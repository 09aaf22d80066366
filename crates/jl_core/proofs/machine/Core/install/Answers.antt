use Rattle.std.specs.Prelude.{IsOk}
use Rattle.std.proofs.Common.{subst}
use Rattle.jl_types.specs.declared.event.EventOf.TheVariants as event
use Rattle.jl_types.specs.Events.Verdict.{verdict}
use Rattle.jl_types.specs.Values.World.{World}
use Rattle.jl_core.proofs.GivenLaws.{accepted_prepared}
use Rattle.jl_core.proofs.machine.Core.install.Goals as goal

pub perform_next-requires-clause-accepted : goal.perform_next-requires-clause-accepted
perform_next-requires-clause-accepted c =
    subst (λ (w : World). IsOk (verdict c.args.self.now.limits w (event.Install c.in_ok-prepared.prepared.rows))) c.world.ensures.world
    (accepted_prepared c.world.result.now c.args.sites.now c.in_ok-prepared.prepared.rows c.in_ok-prepared.ensures.prepared.accepted
    c.in_ok-prepared.ensures.prepared.rows c.args.self.now.limits)
