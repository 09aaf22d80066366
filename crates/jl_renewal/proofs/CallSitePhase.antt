-- The fresh core's call sites: those that stay, with their targets.
use Rattle.std.specs.Prelude.{◌≡◌, ◌<◌, ◌≤◌, ◌+◌, ℕ, zero, suc, Bool, true, false, nat_le, List, [], ◌∷◌, ◌++◌, map, take, length, slice_get}
use Rattle.std.specs.Prelude.{Option, Some, None, option_map, option_and_then, is_none, is_ok}
use Rattle.std.specs.Bool.{then_some}
use Rattle.std.proofs.Common.{refl, sym, ap, subst, subst₂, ◌∙◌, arith, length-take-le, take_all}
use Rattle.std.proofs.lemmas.Bool.{lt-leb, both_ways}
use Rattle.std.proofs.lemmas.List.{take_more, nil_from_length, map_push, length-map}
use Rattle.std.proofs.lemmas.Option.{get_or_from_slice_get}
use Rattle.jl_types.specs.declared.limits.Limits.{Limits}
use Rattle.jl_types.specs.declared.event.EventOf.TheVariants as event
use Rattle.jl_types.specs.declared.event.Made.TheVariants as made
use Rattle.jl_types.specs.declared.refusal.CallSiteFault.{CallSiteFault}
use Rattle.jl_types.specs.declared.refusal.CallSiteFault.TheVariants as fault
use Rattle.jl_types.specs.declared.refusal.Refusal.TheVariants.{CallSite}
use Rattle.jl_types.specs.Values.World.{World, CallSite as CallSiteRow, unreleased, is_missing}
use Rattle.jl_types.specs.Linkage.Resolution.{first_of}
use Rattle.jl_types.specs.Events.Event.{Event}
use Rattle.jl_types.specs.Events.Verdict.{unless, new_call_site_fault}
use Rattle.jl_types.proofs.Lists.{element_at}
use Rattle.jl_renewal.specs.declared.released.Released.{Released}
use Rattle.jl_renewal.specs.Numbers.{Numbers, renumbered_target, staying, how_many}
use Rattle.jl_renewal.specs.Staying.{numbers_of, staying_call_sites}
use Rattle.jl_renewal.specs.Renewal.{new_call_site, new_call_sites}
use Rattle.jl_renewal.specs.Renewed.{renewed, renumbered_call_site}
use Rattle.jl_renewal.proofs.Fit.{IsFit}
use Rattle.jl_renewal.proofs.NumberLaws.{before, number_gone, renumbered_is, before_rises, staying_more, staying_less, staying_length, staying_fewer}
use Rattle.jl_renewal.proofs.NumberLaws.{before_many}
use Rattle.jl_renewal.proofs.Phases.{Leads, OneStep, leads_over}
use Rattle.jl_renewal.proofs.StayLaws.{number_of, row_renumbered, call_sites_length, call_site_there, invoked_stays, guard_stays}
use Rattle.jl_renewal.proofs.TargetLaws.{with_call_sites, target_kept}

module _ {A : Type 0} where
  -- one more of a list
  take_next : (xs : List A) (k : ℕ) (x : A) → k < length xs → slice_get xs k ≡ Some x → take (k + 1) xs ≡ take k xs ++ x ∷ []
  take_next xs k x lt e = take_more xs k x lt ∙ ap (λ (y : A). take k xs ++ y ∷ []) (get_or_from_slice_get xs k x x e)

  -- those that are taken keep their places
  among_taken : (rows : List (Option A)) (k d : ℕ) (x : A) → d < k → unreleased rows d ≡ Some x → unreleased (take k rows) d ≡ Some x
  among_taken [] k d x lt e = cc
  among_taken (row ∷ rows) zero d x lt e = absurd (omega (arith, lt))
  among_taken (row ∷ rows) (suc k) zero x lt e = e
  among_taken (row ∷ rows) (suc k) (suc d) x lt e = among_taken rows k d x (omega (arith, lt)) e

module _ (limits : Limits) (w : World) (released : Released) (fit : IsFit w)
    (few_stay : how_many (staying_call_sites w released) ≤ limits.call_sites) where
  abbrev n : Numbers
  n = numbers_of w released

  abbrev stays : List Bool
  stays = staying_call_sites w released

  abbrev all : List (Option CallSiteRow)
  all = w.sites.call_sites

  -- those that stay of the first k
  abbrev kept : ℕ → List (Option CallSiteRow)
  kept k = map (option_map (renumbered_call_site n)) (staying stays (take k all))

  taken : (k : ℕ) → k < length all → length (take k all) ≡ k
  taken k lt = length-take-le k all (omega (arith, lt))

  -- ---- one that stays

  module _ (k : ℕ) (lt : k < length all) (site : CallSiteRow) (there : unreleased all k ≡ Some site) (site_stays : slice_get stays k ≡ Some true) where
    kept_before : length (kept k) ≡ before stays k
    kept_before =
        let total = call_sites_length w released in
        let long = taken k lt in
        length-map (staying stays (take k all)) (option_map (renumbered_call_site n))
        ∙ staying_length stays (take k all) (omega (arith, long, lt, total))
        ∙ ap (before stays) long

    few : nat_le limits.call_sites (length (kept k)) ≡ false
    few =
        let same = kept_before in
        let one_more = before_many stays k site_stays in
        lt-leb limits.call_sites (length (kept k)) (omega (arith, same, one_more, few_stay))

    no_fault : new_call_site_fault limits.call_sites (with_call_sites w released (kept k)) site.ty (renumbered_target n site.target) ≡ None
    no_fault =
        let taken_target = target_kept w released (kept k) k (length (kept k))
        (λ d other below d_stays d_there.
        row_renumbered (renumbered_call_site n) stays (take k all) d other d_stays (among_taken all k d other below d_there))
        (λ d below d_stays.
        let rises = before_rises stays d k d_stays below in
        let number = renumbered_is stays d d_stays in
        let here = kept_before in
        omega (arith, rises, number, here))
        site.ty site.target
        (record {
          guards = λ p below h. guard_stays w released k p site there site_stays below h;
          invoked = λ d below present h. invoked_stays w released k d site there site_stays below present h;
        })
        (fit.targets k site there) in
        λ i. first_of (then_some (few i) fault.Full ∷ taken_target i ∷ [])

    one_call_site : OneStep limits (with_call_sites w released (kept k)) (Some (event.NewCallSite site.kind site.ty (renumbered_target n site.target)))
        (with_call_sites w released (kept k ++ Some (renumbered_call_site n site) ∷ []))
    one_call_site = (
      ap (λ (o : Option CallSiteFault). is_ok (unless (option_map CallSite o) (made.CallSite (length (kept k))))) no_fault,
      refl,
    )

  -- ---- all of them

  each_call_site : (k : ℕ) → k < length all
      → OneStep limits (with_call_sites w released (kept k)) (new_call_site w.sites n k) (with_call_sites w released (kept (k + 1)))
  each_call_site k lt =
      let here = element_at all k lt in
      let total = call_sites_length w released in
      let stay = element_at stays k (omega (arith, lt, total)) in
      by_test here.0 here.1 stay.0 stay.1
    where
      made_of : Option CallSiteRow → ℕ → Option Event
      made_of row j = option_map (λ site. event.NewCallSite site.kind site.ty (renumbered_target n site.target)) row

      goes : (row : Option CallSiteRow) → slice_get all k ≡ Some row → slice_get stays k ≡ Some false
          → OneStep limits (with_call_sites w released (kept k)) (new_call_site w.sites n k) (with_call_sites w released (kept (k + 1)))
      goes row there gone =
          subst (λ o. OneStep limits (with_call_sites w released (kept k)) o (with_call_sites w released (kept (k + 1))))
          (sym (ap (option_and_then (made_of (unreleased all k))) (number_gone stays k gone)))
          (ap (λ (sites : List (Option CallSiteRow)). with_call_sites w released (map (option_map (renumbered_call_site n)) sites))
          (ap (staying stays) (take_next all k row lt there) ∙ staying_less stays (take k all) row (ap (slice_get stays) (taken k lt) ∙ gone)))

      comes : (site : CallSiteRow) → slice_get all k ≡ Some (Some site) → slice_get stays k ≡ Some true
          → OneStep limits (with_call_sites w released (kept k)) (new_call_site w.sites n k) (with_call_sites w released (kept (k + 1)))
      comes site there site_stays =
          let number = number_of stays k site_stays in
          let at : unreleased all k ≡ Some site = ap (option_and_then (λ row. row)) there in
          subst₂ (λ (o : Option Event) (sites : List (Option CallSiteRow)).
          OneStep limits (with_call_sites w released (kept k)) o (with_call_sites w released sites))
          (λ i. option_and_then (made_of (sym at i)) (sym number i))
          (sym (ap (map (option_map (renumbered_call_site n)))
          (ap (staying stays) (take_next all k (Some site) lt there)
          ∙ staying_more stays (take k all) (Some site) (ap (slice_get stays) (taken k lt) ∙ site_stays))
          ∙ map_push (option_map (renumbered_call_site n)) (staying stays (take k all)) (Some site)))
          (one_call_site k lt site at site_stays)

      by_test : (row : Option CallSiteRow) → slice_get all k ≡ Some row → (b : Bool) → slice_get stays k ≡ Some b
          → OneStep limits (with_call_sites w released (kept k)) (new_call_site w.sites n k) (with_call_sites w released (kept (k + 1)))
      by_test row there false gone = goes row there gone
      by_test None there true site_stays =
          absurd (both_ways (is_missing all k) (call_site_there w released k site_stays) (ap (λ o. is_none (option_and_then (λ row. row) o)) there))
      by_test (Some site) there true site_stays = comes site there site_stays

  -- the call sites that stay, with their targets under new numbers
  pub call_sites_lead : Leads limits (with_call_sites w released []) (new_call_sites w.sites n)
      (with_call_sites w released (renewed w released).sites.call_sites)
  call_sites_lead = subst₂ (λ (first last : List (Option CallSiteRow)).
      Leads limits (with_call_sites w released first) (new_call_sites w.sites n) (with_call_sites w released last))
      (ap (map (option_map (renumbered_call_site n))) (nil_from_length (staying stays []) (let none = staying_fewer stays (take 0 all) in omega (arith, none))))
      (ap (λ (sites : List (Option CallSiteRow)). map (option_map (renumbered_call_site n)) (staying stays sites))
      (take_all (length all) all (omega arith)))
      (leads_over limits (new_call_site w.sites n) (λ k. with_call_sites w released (kept k)) (length all) each_call_site)
