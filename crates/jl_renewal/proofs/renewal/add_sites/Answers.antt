use Rattle.std.proofs.Common.{ap, ◌∙◌}
use Rattle.std.proofs.lemmas.Result.{err_from_is_err_and}
use Rattle.jl_types.specs.Values.World.{World}
use Rattle.jl_relink.specs.contracts.world.World as world
use Rattle.jl_renewal.specs.Numbers.{Numbers}
use Rattle.jl_renewal.specs.Renewal.{new_switches, site_events}
use Rattle.jl_renewal.proofs.AddLaws.{adds_as}
use Rattle.jl_renewal.proofs.StopLaws.{stopped_as, at_switches, at_points, at_call_sites, at_requests, at_bindings}
use Rattle.jl_renewal.proofs.renewal.add_sites.Goals as goal

pub returns-in_err-add_switches-clause-stops : goal.returns-in_err-add_switches-clause-stops
returns-in_err-add_switches-clause-stops g c =
    let p = err_from_is_err_and c.from_residual.result c.from_residual.ensures.1 in
    rw (p.1, p.2)
    (at_switches c.args.old.now c.args.numbers.now (g.M.EventMachine.state c.args.fresh.now) _ _
    (stopped_as new_switches (c.as_slice.ensures.value ∙ ap (λ (n : Numbers). n.switches) c.numbers.view_is) c.in_err-add_switches.ensures.stops))

pub returns-in_err-add_invalidation-clause-stops : goal.returns-in_err-add_invalidation-clause-stops
returns-in_err-add_invalidation-clause-stops g c =
    let p = err_from_is_err_and c.from_residual-in_err-add_invalidation.result c.from_residual-in_err-add_invalidation.ensures.1 in
    rw (p.1, p.2)
    (stopped_as (λ (w : World). site_events w c.args.numbers.now) c.old.view_is
    (at_points (world.the_view c.old.inside) c.args.numbers.now (g.M.EventMachine.state c.args.fresh.now) _
    (g.M.EventMachine.state c.add_switches.new.fresh)
    (adds_as new_switches (c.as_slice.ensures.value ∙ ap (λ (n : Numbers). n.switches) c.numbers.view_is) c.in_ok-add_switches.ensures.adds)
    _ c.in_err-add_invalidation.ensures.stops))

pub returns-in_err-add_call_sites-clause-stops : goal.returns-in_err-add_call_sites-clause-stops
returns-in_err-add_call_sites-clause-stops g c =
    let p = err_from_is_err_and c.from_residual-in_err-add_call_sites.result c.from_residual-in_err-add_call_sites.ensures.1 in
    rw (p.1, p.2)
    (stopped_as (λ (w : World). site_events w c.args.numbers.now) c.old.view_is
    (at_call_sites (world.the_view c.old.inside) c.args.numbers.now (g.M.EventMachine.state c.args.fresh.now) _
    (g.M.EventMachine.state c.add_switches.new.fresh)
    (adds_as new_switches (c.as_slice.ensures.value ∙ ap (λ (n : Numbers). n.switches) c.numbers.view_is) c.in_ok-add_switches.ensures.adds)
    (g.M.EventMachine.state c.add_invalidation.new.fresh) c.in_ok-add_invalidation.ensures.adds _ c.in_err-add_call_sites.ensures.stops))

pub returns-in_err-add_requests-clause-stops : goal.returns-in_err-add_requests-clause-stops
returns-in_err-add_requests-clause-stops g c =
    let p = err_from_is_err_and c.from_residual-in_err-add_requests.result c.from_residual-in_err-add_requests.ensures.1 in
    rw (p.1, p.2)
    (stopped_as (λ (w : World). site_events w c.args.numbers.now) c.old.view_is
    (at_requests (world.the_view c.old.inside) c.args.numbers.now (g.M.EventMachine.state c.args.fresh.now) _
    (g.M.EventMachine.state c.add_switches.new.fresh)
    (adds_as new_switches (c.as_slice.ensures.value ∙ ap (λ (n : Numbers). n.switches) c.numbers.view_is) c.in_ok-add_switches.ensures.adds)
    (g.M.EventMachine.state c.add_invalidation.new.fresh) c.in_ok-add_invalidation.ensures.adds
    (g.M.EventMachine.state c.add_call_sites.new.fresh) c.in_ok-add_call_sites.ensures.adds _ c.in_err-add_requests.ensures.stops))

pub returns-in_err-add_bindings-clause-stops : goal.returns-in_err-add_bindings-clause-stops
returns-in_err-add_bindings-clause-stops g c =
    let p = err_from_is_err_and c.from_residual-in_err-add_bindings.result c.from_residual-in_err-add_bindings.ensures.1 in
    rw (p.1, p.2)
    (stopped_as (λ (w : World). site_events w c.args.numbers.now) c.old.view_is
    (at_bindings (world.the_view c.old.inside) c.args.numbers.now (g.M.EventMachine.state c.args.fresh.now) _
    (g.M.EventMachine.state c.add_switches.new.fresh)
    (adds_as new_switches (c.as_slice.ensures.value ∙ ap (λ (n : Numbers). n.switches) c.numbers.view_is) c.in_ok-add_switches.ensures.adds)
    (g.M.EventMachine.state c.add_invalidation.new.fresh) c.in_ok-add_invalidation.ensures.adds
    (g.M.EventMachine.state c.add_call_sites.new.fresh) c.in_ok-add_call_sites.ensures.adds
    (g.M.EventMachine.state c.add_requests.new.fresh) _ c.in_ok-add_requests.ensures.adds c.in_err-add_bindings.ensures.stops))
