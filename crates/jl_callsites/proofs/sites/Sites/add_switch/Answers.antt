use Rattle.std.specs.Prelude.{◌≡◌, ◌<◌, ◌^◌, true, Bool, List, [], ◌∷◌, length, Option, Some}
use Rattle.std.proofs.Common.{ap, sym, subst, ◌∙◌, arith, length-append}
use Rattle.jl_types.specs.Values.World.{Sites}
use Rattle.jl_callsites.specs.Known.{are_known, RunAsBefore}
use Rattle.jl_callsites.proofs.Known.{one_switch_more, switch_runs}
use Rattle.jl_callsites.proofs.sites.Sites.add_switch.Goals as goal

pub invariant_of-self-2 : goal.invariant_of-self-2
invariant_of-self-2 c =
    let inside : Sites = record { call_sites = c.self.inside.call_sites.items; switches = c.self.inside.switches.items } in (
      subst (λ (switches : List (Option Bool)). are_known (record { call_sites = c.self.inside.call_sites.items; switches = switches }) ≡ true)
          (sym c.in_ok-push.ensures.items) (one_switch_more inside c.self.invariant.0),
      c.self.invariant.1,
      (let room = subst (λ (old : Sites). length old.switches < 2 ^ 20) (sym c.self.view_is) c.requires in
          let longer = ap length c.in_ok-push.ensures.items ∙ length-append c.self.inside.switches.items (Some true ∷ []) in
          omega (arith, room, longer)),
    )

pub returns-clause-runs : goal.returns-clause-runs
returns-clause-runs c =
    let inside : Sites = record { call_sites = c.self.inside.call_sites.items; switches = c.self.inside.switches.items } in
    subst (λ (old : Sites). RunAsBefore old (record { call_sites = c.self.inside.call_sites.items; switches = c.push.new.self.items })) c.self.view_is
    (subst (λ (switches : List (Option Bool)). RunAsBefore inside (record { call_sites = c.self.inside.call_sites.items; switches = switches }))
    (sym c.in_ok-push.ensures.items) (switch_runs inside c.self.invariant.0))
