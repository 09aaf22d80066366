use Rattle.std.specs.Prelude.{◌≡◌, ◌<◌, ◌^◌, true, length, option_map}
use Rattle.std.proofs.Common.{rules, sym, ap, subst}
use Rattle.jl_types.specs.Values.Target.{Target}
use Rattle.jl_types.specs.Values.World.{World}
use Rattle.jl_types.specs.Events.Verdict.{new_call_site_fault}
use Rattle.jl_types.specs.declared.event.Made.TheVariants as made
use Rattle.jl_types.specs.declared.refusal.Refusal.TheVariants.{CallSite}
use Rattle.jl_callsites.specs.Known.{is_known}
use Rattle.jl_select.specs.Constancy.{IsConstant}
use Rattle.jl_select.proofs.Constancy.{constant_itself}
use Rattle.jl_events.proofs.ChangeLaws.{site_room, site_points, made_so}
use Rattle.jl_events.proofs.changes.add_call_site.Goals as goal

pub add_site-requires-clause-room : goal.add_site-requires-clause-room
add_site-requires-clause-room c =
    subst (λ (w : World). length w.sites.call_sites < 2 ^ 20) (sym c.world.view_is)
    (site_room c.args.world.now c.args.kind c.args.ty.now c.args.target.now c.requires)

pub add_site-requires-clause-known : goal.add_site-requires-clause-known
add_site-requires-clause-known c =
    subst (λ (w : World). is_known (length w.sites.switches) (length w.sites.call_sites) c.in_ok-target.target ≡ true) (sym c.world.view_is)
    (subst (λ (t : Target). is_known (length c.args.world.now.sites.switches) (length c.args.world.now.sites.call_sites) t ≡ true) (sym c.in_ok-target.ensures)
    (site_points c.args.world.now c.args.kind c.args.ty.now c.args.target.now c.requires))

pub returns : goal.returns
returns c =
    let count : c.in_ok-site.site ≡ length c.args.world.now.sites.call_sites = search rules in
    record {
      made_is = λ m.
          made_so (option_map CallSite (new_call_site_fault m.call_sites c.args.world.now c.args.ty.now c.args.target.now))
          (made.CallSite (length c.args.world.now.sites.call_sites)) (made.CallSite c.in_ok-site.site) (ap (λ n. made.CallSite n) count);
      step = search rules;
      constant = subst (λ (w : World). IsConstant w.classes c.world.inside.classes) c.world.view_is (constant_itself c.world.inside.classes);
    }
