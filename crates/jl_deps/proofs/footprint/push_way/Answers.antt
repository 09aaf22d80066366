use Rattle.std.proofs.Common.{rules, ◌≡◌, ◌≤◌, ◌<◌, ◌∙◌, ap, sym, Some, None}
use Rattle.jl_types.specs.Values.World.{unreleased}
use Rattle.jl_types.specs.ForProofs.Whole.{whole}
use Rattle.jl_types.specs.Events.Footprints.{call_site_in, point_in}
use Rattle.jl_callsites.proofs.Turns.{fewer_turns}
use Rattle.jl_deps.proofs.WayLaws.{none_later, absent_call_site, absent_point, goes_by, goes_on, passes}
use Rattle.jl_deps.proofs.footprint.push_way.Goals as goal

pub returns-then-number-clause-call_sites : goal.returns-then-number-clause-call_sites
returns-then-number-clause-call_sites c =
    let le : c.loop-target.call_site ≤ c.in-Invoker.invoked = search rules in
    none_later c.args.sites.now c.loop-target.call_site c.in-Invoker.invoked c.loop-target.target.now (sym c.target.view_is ∙ ap whole c.in-Invoker.is)
    call_site_in c.loop-target.call_sites.items _ le c.loop-target.invariant.call_sites

pub returns-then-number-clause-points : goal.returns-then-number-clause-points
returns-then-number-clause-points c =
    let le : c.loop-target.call_site ≤ c.in-Invoker.invoked = search rules in
    none_later c.args.sites.now c.loop-target.call_site c.in-Invoker.invoked c.loop-target.target.now (sym c.target.view_is ∙ ap whole c.in-Invoker.is)
    point_in c.loop-target.points.items _ le c.loop-target.invariant.points

pub returns-in_default-clause-call_sites : goal.returns-in_default-clause-call_sites
returns-in_default-clause-call_sites c =
    let lt : c.in-Invoker.invoked < c.loop-target.call_site = search rules in
    let at : unreleased c.args.sites.now.call_sites c.in-Invoker.invoked ≡ None = search rules in
    absent_call_site c.args.sites.now c.loop-target.call_site c.in-Invoker.invoked c.loop-target.target.now (sym c.target.view_is ∙ ap whole c.in-Invoker.is)
    lt at c.loop-target.call_sites.items c.push-in-Invoker.new.self.items _ c.in_ok-push-in-Invoker.ensures.items c.loop-target.invariant.call_sites

pub returns-in_default-clause-points : goal.returns-in_default-clause-points
returns-in_default-clause-points c =
    let lt : c.in-Invoker.invoked < c.loop-target.call_site = search rules in
    let at : unreleased c.args.sites.now.call_sites c.in-Invoker.invoked ≡ None = search rules in
    absent_point c.args.sites.now c.loop-target.call_site c.in-Invoker.invoked c.loop-target.target.now (sym c.target.view_is ∙ ap whole c.in-Invoker.is)
    lt at c.loop-target.points.items _ c.loop-target.invariant.points

pub loop-target-smaller : goal.loop-target-smaller
loop-target-smaller c =
    let lt : c.in-Invoker.invoked < c.loop-target.call_site = search rules in
    let at : unreleased c.args.sites.now.call_sites c.in-Invoker.invoked ≡ Some c.in-Some.found.now = search rules in
    fewer_turns c.args.sites.now c.in-Invoker.invoked c.loop-target.call_site c.loop-target.target.now c.target-target.result.now c.in-Some.found.now at
    (sym c.target-target.ensures) lt

pub loop-target-preserved : goal.loop-target-preserved
loop-target-preserved c =
    let lt : c.in-Invoker.invoked < c.loop-target.call_site = search rules in
    let at : unreleased c.args.sites.now.call_sites c.in-Invoker.invoked ≡ Some c.in-Some.found.now = search rules in
    let rest =
    goes_by c.args.sites.now c.loop-target.call_site c.in-Invoker.invoked c.loop-target.target.now (sym c.target.view_is ∙ ap whole c.in-Invoker.is)
    lt c.in-Some.found.now c.target-target.result.now at c.target-target.ensures
    in
    record {
      call_sites =
          goes_on c.loop-target.call_sites.items c.push-in-Invoker.new.self.items _ _ _ _ rest c.in_ok-push-in-Invoker.ensures.items
          c.loop-target.invariant.call_sites;
      points = passes c.loop-target.points.items _ _ _ _ rest c.loop-target.invariant.points;
    }
