use Rattle.std.specs.Prelude.{◌≡◌, length}
use Rattle.std.proofs.Common.{◌∙◌, sym, ap, subst}
use Rattle.std.proofs.lemmas.Result.{IfOk-weaker}
use Rattle.jl_types.specs.Events.Limits.{AreAllowed}
use Rattle.jl_core.specs.State.{State, world_of}
use Rattle.jl_host.specs.Linkers.{Opened}
use Rattle.jl_host.specs.Seats.{seen_of}
use Rattle.jl_host.specs.Renewals.{limits_for, released_of, counts_of}
use Rattle.jl_host.specs.Renewing.{Renewing, AreEntries, HasBegun, begun_from}
use Rattle.jl_host.proofs.ComingOver.{comes_over}
use Rattle.jl_host.proofs.opened.Opened.begun.Goals as goal

pub new-start-requires : goal.new-start-requires
new-start-requires c =
    let here = ap (λ (o : Opened). o.session.core) (c.links_now.ensures.same ∙ c.self.view_is) in
    let core : ◌≡◌ {A = State} c.args.self.now.session.core c.core-2.result.now = sym (c.core-2.ensures ∙ here) in
    comes_over c.core-2.result.now c.in_ok-released.released _ c.in_ok-past.past c.log.result.now _ _ c.log.ensures.answered c.log.ensures.files
    c.log.ensures.events
    (ap (λ snapshot. snapshot.world) c.in_ok-seen.ensures.snapshot ∙ (ap world_of (c.core.ensures ∙ here) ∙ ap world_of core))
    c.in_ok-past.ensures
    (c.in_ok-links.ensures.links ∙ (ap (λ (o : Opened). (seen_of o.session.core).links) c.self.view_is ∙ ap (λ (s : State). (seen_of s).links) core))
    (ap (λ counts. counts.sites) (c.counts.ensures ∙ ap (λ (s : State). counts_of (world_of s)) (here ∙ core)))

pub returns-clause-begun : goal.returns-clause-begun
returns-clause-begun c =
    let limits = limits_for c.args.self.now.session.core c.args.max_sites in
    let released = released_of c.args.call_sites.now c.args.switches.now in
    let core : State = c.args.self.now.session.core in
    let past = c.in_ok-past.past in
    let here = ap (λ (o : Opened). o.session.core) (c.links_now.ensures.same ∙ c.self.view_is) in
    let entries =
    subst (λ (s : State). AreEntries s past) (c.core-2.ensures ∙ here)
    (subst (AreEntries c.core-2.result.now) (sym c.in_ok-past.ensures)
    (record { told = c.log.ensures.told; events = c.log.ensures.events; told_then = c.log.ensures.told_then }))
    in
    let seen = c.in_ok-seen.ensures.snapshot ∙ ap (λ (s : State). record { world = world_of s; serial = length s.log }) (c.core.ensures ∙ here) in
    let sites = ap (λ counts. counts.sites) (c.counts.ensures ∙ ap (λ (s : State). counts_of (world_of s)) here) in
    let links = c.in_ok-links.ensures.links ∙ ap (λ (o : Opened). (seen_of o.session.core).links) c.self.view_is in
    let started : c.new-start.result ≡ record { seen = _; past = past; sites = _; links = _; released = released } =
    c.new-start.ensures
    ∙ (λ i. record { seen = seen i; past = past; sites = sites i; links = links i; released = c.in_ok-released.ensures i }) in
    let at : ◌≡◌ {A = State} c.core-3.result.now core = c.core-3.ensures ∙ here in
    let allowed = subst (λ (s : State). AreAllowed s.limits) at c.limits_for-limits.ensures.before in
    let same : c.limits_for-limits.result ≡ limits = c.limits_for-limits.ensures.limits ∙ ap (λ (s : State). limits_for s c.args.max_sites) at in
    IfOk-weaker c.new.result (λ begun. begun ≡ begun_from c.new-start.result c.limits_for-limits.result) (HasBegun c.args.self.now released c.args.max_sites)
    (λ (begun : Renewing) is. (past, entries, allowed, is ∙ (λ i. begun_from (started i) (same i)))) c.new.ensures
