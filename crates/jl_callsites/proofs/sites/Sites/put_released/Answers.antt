use Rattle.std.specs.Prelude.{◌≡◌, ℕ, true, false, length, List, Option}
use Rattle.std.specs.List.{list_any}
use Rattle.std.proofs.Common.{sym, subst, ap, ◌∙◌, arith}
use Rattle.jl_types.specs.Values.World.{Sites, CallSite, is_missing}
use Rattle.jl_types.proofs.Releasing.{length_without}
use Rattle.jl_callsites.specs.Known.{all_known}
use Rattle.jl_callsites.proofs.Known.{released_known}
use Rattle.jl_callsites.proofs.Rows.{all_made}
use Rattle.jl_callsites.proofs.sites.Sites.put_released.Goals as goal

pub release_sites_in-requires : goal.release_sites_in-requires
release_sites_in-requires c =
    all_made c.self.inside.call_sites.items c.args.call_sites.now
    (subst (λ (old : Sites). list_any (is_missing old.call_sites) c.args.call_sites.now ≡ false) (sym c.self.view_is) c.requires.call_sites)

pub release_switches_in-requires : goal.release_switches_in-requires
release_switches_in-requires c =
    all_made c.self.inside.switches.items c.args.points.now
    (subst (λ (old : Sites). list_any (is_missing old.switches) c.args.points.now ≡ false) (sym c.self.view_is) c.requires.points)

pub invariant_of-self : goal.invariant_of-self
invariant_of-self c =
    let sites = c.self.inside.call_sites.items in
    let switches = c.self.inside.switches.items in
    let sites_left = ap length c.release_sites_in.ensures ∙ length_without c.args.call_sites.now sites in
    let switches_left = ap length c.release_switches_in.ensures ∙ length_without c.args.points.now switches in
    let few_sites = c.self.invariant.1 in
    let few_switches = c.self.invariant.2 in (
      subst (λ (n : ℕ). all_known n 0 c.release_sites_in.new.rows.items ≡ true) (sym switches_left)
          (subst (λ (rows : List (Option CallSite)). all_known (length switches) 0 rows ≡ true) (sym c.release_sites_in.ensures)
          (released_known (length switches) sites c.args.call_sites.now c.self.invariant.0)),
      omega (arith, few_sites, sites_left),
      omega (arith, few_switches, switches_left),
    )
