use Rattle.std.specs.Prelude.{◌≡◌, ◌<◌, ◌^◌, true, List, [], ◌∷◌, ◌++◌, length, Option, Some}
use Rattle.std.proofs.Common.{ap, sym, subst, ◌∙◌, arith, length-append}
use Rattle.jl_types.specs.Values.World.{Sites, CallSite}
use Rattle.jl_callsites.specs.Known.{is_known, all_known, RunAsBefore}
use Rattle.jl_callsites.proofs.Known.{one_more_known, site_runs}
use Rattle.jl_callsites.proofs.sites.Sites.add_site.Goals as goal

pub invariant_of-self-2 : goal.invariant_of-self-2
invariant_of-self-2 c =
    let n = length c.self.inside.switches.items in
    let site : CallSite = record { kind = c.args.kind; ty = c.args.ty; target = c.args.target } in
    let pushed = c.in_ok-push.ensures.items ∙ ap (λ (site : CallSite). c.self.inside.call_sites.items ++ Some site ∷ []) c.new.ensures in (
      subst (λ (sites : List (Option CallSite)). all_known n 0 sites ≡ true) (sym pushed)
          (one_more_known n c.self.inside.call_sites.items site c.self.invariant.0
          (subst (λ (old : Sites). is_known (length old.switches) (length old.call_sites) c.args.target ≡ true) (sym c.self.view_is) c.requires.known)),
      (let room = subst (λ (old : Sites). length old.call_sites < 2 ^ 20) (sym c.self.view_is) c.requires.room in
          let longer = ap length pushed ∙ length-append c.self.inside.call_sites.items (Some site ∷ []) in
          omega (arith, room, longer)),
      c.self.invariant.2,
    )

pub returns-clause-runs : goal.returns-clause-runs
returns-clause-runs c =
    let inside : Sites = record { call_sites = c.self.inside.call_sites.items; switches = c.self.inside.switches.items } in
    subst (λ (old : Sites). RunAsBefore old (record { call_sites = c.push.new.self.items; switches = c.self.inside.switches.items })) c.self.view_is
    (subst (λ (sites : List (Option CallSite)). RunAsBefore inside (record { call_sites = sites; switches = c.self.inside.switches.items }))
    (sym (c.in_ok-push.ensures.items ∙ ap (λ (site : CallSite). c.self.inside.call_sites.items ++ Some site ∷ []) c.new.ensures))
    (site_runs inside c.args.kind c.args.ty c.args.target))
