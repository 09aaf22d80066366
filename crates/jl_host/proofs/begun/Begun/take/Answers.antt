use Rattle.std.specs.Prelude.{take, drop, length}
use Rattle.std.proofs.Common.{◌∙◌, refl, ap, subst, arith, inr}
use Rattle.jl_core.specs.State.{world_of}
use Rattle.jl_host.specs.Renewing.{Renewing, AreTaken}
use Rattle.jl_host.proofs.CaughtUp.{same_length}
use Rattle.jl_host.proofs.RenewingLaws.{is_other}
use Rattle.jl_host.proofs.begun.Begun.take.Goals as goal

pub returns-in_default-clause-untaken : goal.returns-in_default-clause-untaken
returns-in_default-clause-untaken c =
    inr (
      refl,
      is_other c.args.core.now c.args.self.now (length c.log.result.now) c.self.inside.taken
          (same_length c.args.core.now (world_of c.args.core.now).classes.rows c.log.result.now c.log.ensures.told c.log.ensures.events)
          (ap (λ (r : Renewing). r.taken) c.self.view_is) c.in_default.ensures.none,
    )

pub returns-in-Ok-clause-taken : goal.returns-in-Ok-clause-taken
returns-in-Ok-clause-taken c =
    let entries = c.log.result.now in
    let all = same_length c.args.core.now (world_of c.args.core.now).classes.rows entries c.log.ensures.told c.log.ensures.events in
    let le = c.in-Some.ensures.rest.1 in
    let same = ap (λ (r : Renewing). r.taken) c.self.view_is in (
      entries,
      record { told = c.log.ensures.told; events = c.log.ensures.events; told_then = c.log.ensures.told_then },
      subst (λ portion. AreTaken c.args.core.now portion c.args.self.now c.take_these.new.self)
          (c.portion.ensures ∙ ap (take c.args.most) (c.in-Some.ensures.rest.0 ∙ ap (λ n. drop n entries) same)) c.in-Ok.ensures.taken,
      omega (arith, le, all, same),
    )
