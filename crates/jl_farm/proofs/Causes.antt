-- Why a preparation or an install is refused, in terms of its sites.
use Rattle.std.proofs.Common.{◌≡◌, ◌≢◌, ◌⊎◌, ◌<◌, ◌≤◌, ◌==◌, ◌||◌, ℕ, zero, suc, Bool, true, false, nat_lt, nat_le, if◌then◌else◌, List, [], ◌∷◌, map}
use Rattle.std.proofs.Common.{length, Option, Some, None, option_map, Result, Ok, Err, Any, get_or, refl, ap, sym, ◌∙◌, subst, inl, inr, arith}
use Rattle.std.specs.Prelude.{IsErr}
use Rattle.std.specs.Bool.{then_some}
use Rattle.std.specs.List.{AllByRecursion, list_any}
use Rattle.std.proofs.lemmas.Bool.Decides.{Decides-eqb, Decides-ltb, Decides-or}
use Rattle.std.proofs.lemmas.Bool.{leb-true, leb-false, eqb-true, eq-eqb}
use Rattle.jl_types.specs.declared.link.Link.{Link}
use Rattle.jl_types.specs.declared.answer.Unlinked.{Unlinked}
use Rattle.jl_types.specs.declared.refusal.Refusal.{Refusal}
use Rattle.jl_types.specs.declared.refusal.Refusal.TheVariants as refusal
use Rattle.jl_types.specs.declared.refusal.PrepareFault.{PrepareFault}
use Rattle.jl_types.specs.declared.refusal.SitesFault.{SitesFault}
use Rattle.jl_types.specs.declared.refusal.SitesFault.TheVariants.{Unknown, Repeated}
use Rattle.jl_types.specs.ForProofs.SameLink.{link_decides}
use Rattle.jl_types.specs.Values.World.{World}
use Rattle.jl_types.specs.Linkage.Resolution.{first_of}
use Rattle.jl_types.specs.Linkage.Links.{scratch}
use Rattle.jl_types.specs.Events.Batches.{is_bad_size, sites_fault}
use Rattle.jl_types.specs.Events.Preparation.{link_fault, ArePrepared}
use Rattle.jl_types.specs.Events.Verdict.{row_fault}
use Rattle.jl_farm.specs.Reports.{has_twice, IsNoBatch}

any_here : {X : Type 0} (P : X → Type 0) (x : X) (xs : List X) → P x → Any P (x ∷ xs)
any_here P x xs h = (0, x, omega arith, refl, h)

any_there : {X : Type 0} (P : X → Type 0) (x : X) (xs : List X) → Any P xs → Any P (x ∷ xs)
any_there P x xs h = (suc h.0, h.1, omega arith, h.3, h.4)

-- ---- the first of the three tests of a batch

module _ {A : Type 0} (size : A) (of : SitesFault → A) where
  pub batch_cause : (b : Bool) (sites : Option SitesFault) (last : Option A) (f : A) → first_of (then_some b size ∷ option_map of sites ∷ last ∷ []) ≡ Some f
      → ((b ≡ true) × (f ≡ size)) ⊎ (((x : SitesFault) × (sites ≡ Some x) × (f ≡ of x)) ⊎ ((sites ≡ None) × (last ≡ Some f)))
  batch_cause true sites last f e = inl (refl, cc)
  batch_cause false (Some x) last f e = inr (inl (x, refl, cc))
  batch_cause false None (Some y) f e = inr (inr (refl, e))
  batch_cause false None None f e = cc

-- ---- the sites

site_cause : (b c : Bool) (u r : SitesFault) (rest : Option SitesFault) (f : SitesFault) → first_of (then_some b u ∷ then_some c r ∷ rest ∷ []) ≡ Some f
    → ((b ≡ true) × (f ≡ u)) ⊎ (((c ≡ true) × (f ≡ r)) ⊎ (rest ≡ Some f))
site_cause true c u r rest f e = inl (refl, cc)
site_cause false true u r rest f e = inr (inl (refl, cc))
site_cause false false u r (Some g) f e = inr (inr e)
site_cause false false u r None f e = cc

no_site_cause : (b c : Bool) (u r : SitesFault) (rest : Option SitesFault) → first_of (then_some b u ∷ then_some c r ∷ rest ∷ []) ≡ None → (b ≡ false)
    × (rest ≡ None)
no_site_cause true c u r rest e = cc
no_site_cause false true u r rest e = cc
no_site_cause false false u r (Some g) e = cc
no_site_cause false false u r None e = (refl, refl)

any_cases : {X : Type 0} (P : X → Type 0) (x : X) (xs : List X) → Any P (x ∷ xs) → P x ⊎ Any P xs
any_cases {X = X} P x xs h = by_place h.0 h.1 h.2 h.3 h.4
  where
    by_place : (k : ℕ) (y : X) → k < length (x ∷ xs) → get_or (x ∷ xs) k y ≡ y → P y → P x ⊎ Any P xs
    by_place zero y lt is p = inl (subst P (sym is) p)
    by_place (suc k) y lt is p = inr (k, y, omega arith, is, p)

or_true : (b c : Bool) → c ≡ true → (b || c) ≡ true
or_true true c e = refl
or_true false c e = e

-- the site is among the earlier ones
abbrev Meets : List ℕ → ℕ → Type 0
Meets earlier s = list_any (λ t. t == s) earlier ≡ true

-- what meets one site more meets that one, or an earlier one
meets_more : (s : ℕ) (earlier all : List ℕ) → Any (Meets (s ∷ earlier)) all → (list_any (λ t. t == s) all ≡ true) ⊎ Any (Meets earlier) all
meets_more s earlier [] h = absurd (omega (arith, h.2))
meets_more s earlier (u ∷ all) h = by_place (any_cases (Meets (s ∷ earlier)) u all h) (meets_more s earlier all)
  where
    Found : Type 0
    Found = (list_any (λ t. t == s) (u ∷ all) ≡ true) ⊎ Any (Meets earlier) (u ∷ all)

    by_test : (b : Bool) → (s == u) ≡ b → (b || list_any (λ t. t == u) earlier) ≡ true → Found
    by_test true is h = inl (ap (λ (b : Bool). b || list_any (λ t. t == s) all) (eq-eqb u s (sym (eqb-true s u is))))
    by_test false is h = inr (any_here (Meets earlier) u all h)

    by_place : Meets (s ∷ earlier) u ⊎ Any (Meets (s ∷ earlier)) all → (Any (Meets (s ∷ earlier)) all → (list_any (λ t. t == s) all ≡ true)
        ⊎ Any (Meets earlier) all) → Found
    by_place (inl h) more = by_test (s == u) refl h
    by_place (inr h) more = elim (more h) [ inl e ↦ inl (or_true (u == s) (list_any (λ t. t == s) all) e) | inr t ↦ inr (any_there (Meets earlier) u all t) ]

module _ (w : World) where
  abbrev Unrequested : ℕ → Type 0
  Unrequested s = length w.places ≤ s

  abbrev IsFound : List ℕ → List ℕ → Type 0
  IsFound earlier all = Any Unrequested all ⊎ (Any (Meets earlier) all ⊎ (has_twice all ≡ true))

  -- a site isn't requested, is among the earlier ones, or stands twice
  sites_cause : (earlier all : List ℕ) (f : SitesFault) → sites_fault w earlier all ≡ Some f → IsFound earlier all
  sites_cause earlier [] f e = cc
  sites_cause earlier (s ∷ all) f e =
      by_cause (site_cause (nat_le (length w.places) s) (list_any (λ t. t == s) earlier) (Unknown s) (Repeated s) (sites_fault w (s ∷ earlier) all) f e)
      (sites_cause (s ∷ earlier) all f)
    where
      by_rest : IsFound (s ∷ earlier) all → IsFound earlier (s ∷ all)
      by_rest (inl h) = inl (any_there Unrequested s all h)
      by_rest (inr (inl h)) = elim (meets_more s earlier all h) [
        | inl e ↦ inr (inr (ap (λ (b : Bool). b || has_twice all) e))
        | inr t ↦ inr (inl (any_there (Meets earlier) s all t))
      ]
      by_rest (inr (inr h)) = inr (inr (or_true (list_any (λ t. t == s) all) (has_twice all) h))

      by_cause : ((nat_le (length w.places) s ≡ true) × (f ≡ Unknown s))
          ⊎ (((list_any (λ t. t == s) earlier ≡ true) × (f ≡ Repeated s)) ⊎ (sites_fault w (s ∷ earlier) all ≡ Some f))
          → (sites_fault w (s ∷ earlier) all ≡ Some f → IsFound (s ∷ earlier) all) → IsFound earlier (s ∷ all)
      by_cause (inl h) more = inl (any_here Unrequested s all (leb-true (length w.places) s h.0))
      by_cause (inr (inl h)) more = inr (inl (any_here (Meets earlier) s all h.0))
      by_cause (inr (inr h)) more = by_rest (more h)

  -- nothing is among no sites
  none_meet : (all : List ℕ) → Any (Meets []) all → ⊥
  none_meet all h = let e : false ≡ true = h.4 in cc

  pub no_batch_by_sites : (sites : List ℕ) (f : SitesFault) → sites_fault w [] sites ≡ Some f → IsNoBatch w sites
  no_batch_by_sites sites f e = by_found (sites_cause [] sites f e)
    where
      by_found : IsFound [] sites → IsNoBatch w sites
      by_found (inl h) = inr (inl h)
      by_found (inr (inl h)) = absurd (none_meet sites h)
      by_found (inr (inr h)) = inr (inr h)

  pub no_batch_by_size : (sites : List ℕ) → is_bad_size (length sites) ≡ true → IsNoBatch w sites
  no_batch_by_size sites e = inl ((Decides-or (length sites == 0) (nat_lt 256 (length sites)) (Decides-eqb (length sites) 0) (Decides-ltb 256 (length sites))).0
      e)

  -- without a fault all sites are requested
  all_requested : (earlier all : List ℕ) → sites_fault w earlier all ≡ None → AllByRecursion (λ s. s < length w.places) all
  all_requested earlier [] e = tt
  all_requested earlier (s ∷ all) e =
      let none = no_site_cause (nat_le (length w.places) s) (list_any (λ t. t == s) earlier) (Unknown s) (Repeated s) (sites_fault w (s ∷ earlier) all) e in
      (leb-false (length w.places) s none.0, all_requested (s ∷ earlier) all none.1)

  abbrev Unready : ℕ → Type 0
  Unready s = (s < length w.places) × IsErr (scratch w s)

  -- the first site without a link
  first_unready : (all : List ℕ) (f : PrepareFault) → AllByRecursion (λ s. s < length w.places) all
      → first_of (map (λ s. link_fault s (scratch w s)) all) ≡ Some f → Any Unready all
  first_unready [] f requested e = cc
  first_unready (s ∷ all) f requested e = by_link (scratch w s) refl e (first_unready all f requested.1)
    where
      by_link : (r : Result Link Unlinked) → scratch w s ≡ r → first_of (link_fault s r ∷ map (λ t. link_fault t (scratch w t)) all) ≡ Some f
          → (first_of (map (λ t. link_fault t (scratch w t)) all) ≡ Some f → Any Unready all) → Any Unready (s ∷ all)
      by_link (Ok l) is e more = any_there Unready s all (more e)
      by_link (Err reason) is e more = any_here Unready s all (requested.0, subst IsErr (sym is) refl)

  pub unready_by_fault : (sites : List ℕ) (f : PrepareFault) → sites_fault w [] sites ≡ None → first_of (map (λ s. link_fault s (scratch w s)) sites) ≡ Some f
      → Any Unready sites
  unready_by_fault sites f none e = first_unready sites f (all_requested [] sites none) e

  -- the first row with another link than now, of rows that were prepared in the world v
  pub stale_by_fault : (v : World) (sites : List ℕ) (rows : List (ℕ × Link)) (f : Refusal) → ArePrepared v sites rows
      → first_of (map (λ row. row_fault row.0 row.1 (scratch w row.0)) rows) ≡ Some f
      → Any (λ s. scratch v s ≢ scratch w s) sites
  stale_by_fault v [] [] f prepared e = cc
  stale_by_fault v [] (row ∷ rows) f prepared e = absurd prepared
  stale_by_fault v (s ∷ sites) [] f prepared e = absurd prepared
  stale_by_fault v (s ∷ sites) (row ∷ rows) f prepared e =
      by_fault (row_fault row.0 row.1 (scratch w row.0)) refl e (stale_by_fault v sites rows f prepared.1)
    where
      Differs : ℕ → Type 0
      Differs t = scratch v t ≢ scratch w t

      by_fault : (o : Option Refusal) → row_fault row.0 row.1 (scratch w row.0) ≡ o → first_of (o ∷ map (λ r. row_fault r.0 r.1 (scratch w r.0)) rows) ≡ Some f
          → (first_of (map (λ r. row_fault r.0 r.1 (scratch w r.0)) rows) ≡ Some f → Any Differs sites) → Any Differs (s ∷ sites)
      by_fault None is e more = any_there Differs s sites (more e)
      by_fault (Some g) is e more = any_here Differs s sites (λ same.
          let now : scratch w row.0 ≡ Ok row.1 = ap (scratch w) prepared.0.0 ∙ sym same ∙ prepared.0.1 in
          let fine = ap (row_fault row.0 row.1) now ∙ ap (λ (b : Bool). if b then None else Some (refusal.Stale row.0 row.1))
          ((link_decides row.1 row.1).1 refl) in cc (fine, is))
