-- Where no call site stays that needs a marked one, nothing speaks against a release.
use Rattle.std.specs.Prelude.{◌≡◌, ℕ, zero, suc, Bool, true, false, not, ◌||◌, ◌==◌, nat_le, List, [], ◌∷◌, length, find, replicate, slice_set}
use Rattle.std.specs.Prelude.{Option, Some, None, option_map}
use Rattle.std.specs.List.{list_any, range_with_len}
use Rattle.std.specs.Option.{option_map_or}
use Rattle.std.proofs.Common.{refl, ap, sym, subst, ◌∙◌, inl, inr}
use Rattle.std.proofs.lemmas.Bool.{and_from, both_ways, or_cases, or_left, or_right, leb-false}
use Rattle.std.proofs.lemmas.Bool.Decides.{Decides-eqb}
use Rattle.std.proofs.lemmas.List.{length-set, length-replicate}
use Rattle.jl_types.specs.declared.refusal.ReleaseFault.TheVariants.{UnknownCallSite, UnknownSwitch, Invoked, Guarded}
use Rattle.jl_types.specs.Values.Target.{Target, Method, Guard, Invoker}
use Rattle.jl_types.specs.Values.World.{Sites, CallSite, unreleased, is_missing}
use Rattle.jl_types.specs.Linkage.Resolution.{first_of}
use Rattle.jl_types.specs.Events.Retirement.{is_listed, has_target}
use Rattle.jl_types.specs.Events.Release.{invokes_one, guards_by_one, stays_with, first_with, release_fault}
use Rattle.jl_types.proofs.Retiring.{none_found}
use Rattle.jl_types.proofs.Bools.{first_test, second_test, or_none}
use Rattle.jl_callsites.specs.Marks.{with_marks, marked, is_marked, needs_marked, stays_needing, first_marked}
use Rattle.jl_callsites.proofs.Rows.{set_same, set_other, all_made, none_else}

-- ---- what is marked is what is listed

or_all : (b : Bool) → (b || true) ≡ true
or_all true = refl
or_all false = refl

or_again : (a b c : Bool) → ((a || b) || c) ≡ (a || (b || c))
or_again true b c = refl
or_again false b c = refl

neither : (a b : Bool) → (a || b) ≡ false → (a ≡ false) × (b ≡ false)
neither true b e = cc
neither false b e = (refl, e)

mark_set : (marks : List Bool) (l k : ℕ) → nat_le (length marks) l ≡ false → is_marked (slice_set marks l true) k ≡ (is_marked marks k || (l == k))
mark_set marks l k within = by_number (l == k) refl
  where
    by_number : (b : Bool) → (l == k) ≡ b → is_marked (slice_set marks l true) k ≡ (is_marked marks k || b)
    by_number true is =
        subst (λ n. is_marked (slice_set marks l true) n ≡ true) ((Decides-eqb l k).0 is)
        (ap (λ (o : Option Bool). option_map_or (λ mark. mark) o false) (set_same marks l true (leb-false (length marks) l within)))
        ∙ sym (or_all (is_marked marks k))
    by_number false is =
        ap (λ (o : Option Bool). option_map_or (λ mark. mark) o false)
        (set_other marks l true k (λ same. both_ways (l == k) is ((Decides-eqb l k).1 (sym same))))
        ∙ sym (or_none (is_marked marks k))

marked_more : (marks : List Bool) (listed : List ℕ) (k : ℕ) → list_any (nat_le (length marks)) listed ≡ false
    → is_marked (with_marks marks listed) k ≡ (is_marked marks k || is_listed listed k)
marked_more marks [] k within = sym (or_none (is_marked marks k))
marked_more marks (l ∷ listed) k within =
    let both = neither (nat_le (length marks) l) (list_any (nat_le (length marks)) listed) within in
    marked_more (slice_set marks l true) listed k
    (subst (λ n. list_any (nat_le n) listed ≡ false) (sym (length-set marks l true)) both.1)
    ∙ ap (λ (b : Bool). b || is_listed listed k) (mark_set marks l k both.0)
    ∙ or_again (is_marked marks k) (l == k) (is_listed listed k)

none_marked : (n k : ℕ) → is_marked (replicate n false) k ≡ false
none_marked zero k = refl
none_marked (suc n) zero = refl
none_marked (suc n) (suc k) = none_marked n k

marked_as_listed : (count : ℕ) (listed : List ℕ) → list_any (nat_le count) listed ≡ false → (k : ℕ) → is_marked (marked count listed) k ≡ is_listed listed k
marked_as_listed count listed within k =
    marked_more (replicate count false) listed k
    (subst (λ n. list_any (nat_le n) listed ≡ false) (sym (length-replicate count false)) within)
    ∙ ap (λ (b : Bool). b || is_listed listed k) (none_marked count k)

-- ---- who needs one of the list needs a marked one

module _ (sites : Sites) (going points : List ℕ) (marks switches : List Bool) (same : (k : ℕ) → is_marked marks k ≡ is_listed going k)
    (same_points : (k : ℕ) → is_marked switches k ≡ is_listed points k) where
  invoking : (t : Target) → invokes_one going t ≡ true → needs_marked marks switches t ≡ true
  invoking (Method m) e = cc
  invoking (Guard p first fallback) e =
      or_right (is_marked switches p) (needs_marked marks switches first || needs_marked marks switches fallback)
      (elim (or_cases (invokes_one going first) (invokes_one going fallback) e) [
        | inl one ↦ or_left (needs_marked marks switches first) (needs_marked marks switches fallback) (invoking first one)
        | inr other ↦ or_right (needs_marked marks switches first) (needs_marked marks switches fallback) (invoking fallback other)
      ])
  invoking (Invoker c) e = same c ∙ e

  guarding : (t : Target) → guards_by_one points t ≡ true → needs_marked marks switches t ≡ true
  guarding (Method m) e = cc
  guarding (Guard p first fallback) e =
      elim (or_cases (is_listed points p) (guards_by_one points first || guards_by_one points fallback) e) [
        | inl here ↦
            or_left (is_marked switches p) (needs_marked marks switches first || needs_marked marks switches fallback) (same_points p ∙ here)
        | inr below ↦
            or_right (is_marked switches p) (needs_marked marks switches first || needs_marked marks switches fallback)
            (elim (or_cases (guards_by_one points first) (guards_by_one points fallback) below) [
              | inl one ↦ or_left (needs_marked marks switches first) (needs_marked marks switches fallback) (guarding first one)
              | inr other ↦ or_right (needs_marked marks switches first) (needs_marked marks switches fallback) (guarding fallback other)
            ])
      ]
  guarding (Invoker c) e = cc

  staying : (test : Target → Bool) → ((t : Target) → test t ≡ true → needs_marked marks switches t ≡ true) → (c : ℕ)
      → stays_with sites going test c ≡ true → stays_needing sites marks switches c ≡ true
  staying test leads c e =
      and_from (not (is_marked marks c)) (has_target (needs_marked marks switches) (unreleased sites.call_sites c))
      (ap not (same c) ∙ first_test (not (is_listed going c)) (has_target test (unreleased sites.call_sites c)) e)
      (by_row (unreleased sites.call_sites c) (second_test (not (is_listed going c)) (has_target test (unreleased sites.call_sites c)) e))
    where
      by_row : (o : Option CallSite) → has_target test o ≡ true → has_target (needs_marked marks switches) o ≡ true
      by_row None h = cc
      by_row (Some site) h = leads site.target h

  none_with : (test : Target → Bool) → ((t : Target) → test t ≡ true → needs_marked marks switches t ≡ true)
      → first_marked sites marks switches ≡ None → first_with sites going test ≡ None
  none_with test leads none =
      none_else (stays_needing sites marks switches) (stays_with sites going test) (range_with_len 0 (length sites.call_sites)) (staying test leads) none

-- ---- no fault

module _ (sites : Sites) (going points : List ℕ) (there : find (is_missing sites.call_sites) going ≡ None)
    (there_points : find (is_missing sites.switches) points ≡ None) where
  pub made : list_any (nat_le (length sites.call_sites)) going ≡ false
  made = all_made sites.call_sites going (none_found (is_missing sites.call_sites) going there)

  pub points_made : list_any (nat_le (length sites.switches)) points ≡ false
  points_made = all_made sites.switches points (none_found (is_missing sites.switches) points there_points)

  abbrev pub marks : List Bool
  marks = marked (length sites.call_sites) going

  abbrev pub switches : List Bool
  switches = marked (length sites.switches) points

  pub none_needs : first_marked sites marks switches ≡ None
      → (first_with sites going (invokes_one going) ≡ None) × (first_with sites going (guards_by_one points) ≡ None)
  none_needs none =
      let same = marked_as_listed (length sites.call_sites) going made in
      let same_points = marked_as_listed (length sites.switches) points points_made in (
        none_with sites going points marks switches same same_points (invokes_one going) (invoking sites going points marks switches same same_points) none,
        none_with sites going points marks switches same same_points (guards_by_one points) (guarding sites going points marks switches same same_points) none,
      )

  pub nothing_against : first_marked sites marks switches ≡ None → release_fault sites going points ≡ None
  nothing_against none =
      let staying = none_needs none in
      (λ i. first_of (option_map UnknownCallSite (there i) ∷ option_map UnknownSwitch (there_points i) ∷ option_map Invoked (staying.0 i)
      ∷ option_map Guarded (staying.1 i) ∷ []))
