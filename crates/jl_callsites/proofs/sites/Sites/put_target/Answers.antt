use Rattle.std.specs.Prelude.{◌≡◌, true, false, length, List, Option}
use Rattle.std.proofs.Common.{sym, subst, ap, ◌∙◌, arith}
use Rattle.jl_types.specs.Values.World.{Sites, CallSite, is_missing}
use Rattle.jl_types.specs.Linkage.Targets as targets
use Rattle.jl_types.specs.Linkage.Targets.{method_of}
use Rattle.jl_callsites.specs.Known.{all_known, is_known, OthersRunAsBefore}
use Rattle.jl_callsites.proofs.Known.{retargeted_known, as_many_retargeted, target_runs, others_run}
use Rattle.jl_callsites.proofs.sites.Sites.put_target.Goals as goal

pub invariant_of-self : goal.invariant_of-self
invariant_of-self c =
    let n = length c.self.inside.switches.items in (
      subst (λ (sites : List (Option CallSite)). all_known n 0 sites ≡ true) (sym c.retarget_in.ensures)
          (retargeted_known n c.self.inside.call_sites.items c.args.site c.args.target c.self.invariant.0
          (subst (λ (old : Sites). is_known (length old.switches) c.args.site c.args.target ≡ true) (sym c.self.view_is) c.requires.known)),
      (let few = c.self.invariant.1 in
          let same = ap length c.retarget_in.ensures ∙ as_many_retargeted c.self.inside.call_sites.items c.args.site c.args.target in
          omega (arith, few, same)),
      c.self.invariant.2,
    )

pub returns-clause-runs : goal.returns-clause-runs
returns-clause-runs c =
    let inside : Sites = record { call_sites = c.self.inside.call_sites.items; switches = c.self.inside.switches.items } in
    subst (λ (old : Sites). method_of (record { call_sites = c.retarget_in.new.call_sites.items; switches = c.self.inside.switches.items }) c.args.site
    ≡ targets.evaluated old c.args.site c.args.target) c.self.view_is
    (subst (λ (sites : List (Option CallSite)). method_of (record { call_sites = sites; switches = c.self.inside.switches.items }) c.args.site
    ≡ targets.evaluated inside c.args.site c.args.target)
    (sym c.retarget_in.ensures)
    (target_runs inside c.args.site c.args.target
    (subst (λ (old : Sites). is_missing old.call_sites c.args.site ≡ false) (sym c.self.view_is) c.requires.there)))

pub returns-clause-others : goal.returns-clause-others
returns-clause-others c =
    let inside : Sites = record { call_sites = c.self.inside.call_sites.items; switches = c.self.inside.switches.items } in
    subst (λ (old : Sites). OthersRunAsBefore old (record { call_sites = c.retarget_in.new.call_sites.items; switches = c.self.inside.switches.items })
    c.args.site) c.self.view_is
    (subst (λ (sites : List (Option CallSite)). OthersRunAsBefore inside (record { call_sites = sites; switches = c.self.inside.switches.items }) c.args.site)
    (sym c.retarget_in.ensures) (others_run inside c.args.site c.args.target))
