-- What an invoker stands for, by the target of its call site.
use Rattle.std.specs.Prelude.{◌≡◌, ℕ, ◌<◌, nat_lt, Bool, true, false, Option, Some, None, option_map, option_and_then, if◌then◌else◌}
use Rattle.std.proofs.Common.{refl, ap, sym, ◌∙◌}
use Rattle.std.proofs.lemmas.Bool.{ltb-true, ltb-false}
use Rattle.std.proofs.lemmas.Option.{same_Some}
use Rattle.jl_types.specs.Values.Target.{Target}
use Rattle.jl_types.specs.Values.World.{Sites, CallSite, unreleased}
use Rattle.jl_types.specs.Linkage.Targets.{run_below, evaluated}
use Rattle.jl_callsites.specs.Earlier.{earlier_target}
use Rattle.jl_callsites.proofs.Walks.{invoked_runs, later_runs}
use Rattle.jl_callsites.proofs.Turns.{turns_at, fewer_turns}

-- call site d comes before c and has this target
record IsEarlier (sites : Sites) (d c : ℕ) (u : Target) : Type 0 where
  row : CallSite
  at : unreleased sites.call_sites d ≡ Some row
  target : row.target ≡ u
  before : d < c

module _ (sites : Sites) (d c : ℕ) where
  is_earlier : (u : Target) → earlier_target sites d c ≡ Some u → IsEarlier sites d c u
  is_earlier u = by_order (nat_lt d c) refl
    where
      by_row : d < c → (o : Option CallSite) → unreleased sites.call_sites d ≡ o → option_map (λ site. site.target) o ≡ Some u → IsEarlier sites d c u
      by_row lt None at e = cc
      by_row lt (Some row) at e = record { row = row; at = at; target = same_Some row.target u e; before = lt }

      by_order : (b : Bool) → nat_lt d c ≡ b → (if b then option_map (λ site. site.target) (unreleased sites.call_sites d) else None) ≡ Some u
          → IsEarlier sites d c u
      by_order true is e = by_row (ltb-true d c is) (unreleased sites.call_sites d) refl e
      by_order false is e = cc

  pub earlier_runs : (u : Target) → earlier_target sites d c ≡ Some u → evaluated sites d u ≡ run_below sites c d
  earlier_runs u e =
      let one = is_earlier u e in
      ap (evaluated sites d) (sym one.target)
      ∙ sym (ap (option_and_then (λ site. evaluated sites d site.target)) one.at)
      ∙ sym (invoked_runs sites c d one.before)

  pub earlier_turns : (t u : Target) → earlier_target sites d c ≡ Some u → turns_at sites d u < turns_at sites c t
  earlier_turns t u e = let one = is_earlier u e in fewer_turns sites d c t u one.row one.at one.target one.before

  pub none_earlier : earlier_target sites d c ≡ None → run_below sites c d ≡ None
  none_earlier = by_order (nat_lt d c) refl
    where
      by_row : d < c → (o : Option CallSite) → unreleased sites.call_sites d ≡ o → option_map (λ site. site.target) o ≡ None → run_below sites c d ≡ None
      by_row lt None at e = invoked_runs sites c d lt ∙ ap (option_and_then (λ site. evaluated sites d site.target)) at
      by_row lt (Some row) at e = cc

      by_order : (b : Bool) → nat_lt d c ≡ b → (if b then option_map (λ site. site.target) (unreleased sites.call_sites d) else None) ≡ None
          → run_below sites c d ≡ None
      by_order true is e = by_row (ltb-true d c is) (unreleased sites.call_sites d) refl e
      by_order false is e = later_runs sites c d (ltb-false d c is)
