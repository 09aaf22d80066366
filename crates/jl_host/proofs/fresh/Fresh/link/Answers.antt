use Rattle.std.proofs.Common.{◌∙◌, subst, inr}
use Rattle.std.proofs.lemmas.Result.{err_from_is_err_and}
use Rattle.jl_types.specs.declared.event.EventOf.TheVariants as event
use Rattle.jl_types.specs.Events.Verdict.{verdict}
use Rattle.jl_core.specs.State.{world_of, IsRefused}
use Rattle.jl_renewal.specs.Renewal.{fresh_rows}
use Rattle.jl_host.specs.Renewing.{Fresh, AreUnlinked}
use Rattle.jl_host.proofs.CaughtUp.{accepted_behind}
use Rattle.jl_host.proofs.fresh.Fresh.link.Goals as goal

pub returns-in_err-apply-clause-refused : goal.returns-in_err-apply-clause-refused
returns-in_err-apply-clause-refused c =
    let core = c.self.inside.core in
    let p = err_from_is_err_and c.from_residual-in_err-apply.result c.from_residual-in_err-apply.ensures.1 in
    rw (p.1, p.2)
    (subst (λ (m : Fresh). AreUnlinked (fresh_rows (world_of m.core) m.numbers c.args.rows.now) m.core c.in_err-apply.field-0.0) c.self.view_is
    (inr (subst (λ rows. IsRefused (verdict core.limits (world_of core) (event.Install rows)) c.in_err-apply.field-0.0)
    (c.of.ensures ∙ c.in_ok-rows.ensures
    ∙ (λ i. fresh_rows (c.world.ensures.world i) c.self.inside.numbers ((c.as_slice.ensures.value ∙ c.in_ok-linked.ensures) i)))
    c.in_err-apply.ensures.refused)))

pub invariant_of-self-2 : goal.invariant_of-self-2
invariant_of-self-2 c =
    accepted_behind c.self.inside.links.value c.self.inside.reached c.self.inside.core c.apply.new.self (event.Install c.of.result) c.in_ok-apply.field-0
    c.self.invariant c.in_ok-apply.ensures.accepted
