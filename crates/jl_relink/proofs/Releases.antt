-- A release leaves what runs, and what it rests on, of each call site whose path goes by none of those that go.
use Rattle.std.specs.Prelude.{◌≡◌, ℕ, zero, suc, ◌+◌, ◌==◌, ◌||◌, Bool, true, false, List, [], ◌∷◌, ◌++◌, length, map, filter_map, Option, Some, None}
use Rattle.std.specs.Prelude.{if◌then◌else◌}
use Rattle.std.specs.List.{AllByRecursion}
use Rattle.std.specs.Option.{option_map_or}
use Rattle.std.proofs.Common.{refl, ap, sym, ◌∙◌, inl, inr}
use Rattle.std.proofs.lemmas.Bool.{or_cases}
use Rattle.std.proofs.lemmas.Bool.Decides.{Decides-eqb}
use Rattle.std.proofs.lemmas.Cmp.{nat_eq_equiv}
use Rattle.jl_types.specs.declared.key.Key.{Key}
use Rattle.jl_types.specs.declared.key.Key.TheVariants as key
use Rattle.jl_types.specs.Values.Target.{Target, Method, Guard, Invoker}
use Rattle.jl_types.specs.Values.World.{CallSite, Sites, unreleased}
use Rattle.jl_types.specs.Linkage.Targets.{is_valid}
use Rattle.jl_types.specs.Events.Footprints.{has_key, way_by, way_below, path, of_call_site, call_site_in, point_in, among}
use Rattle.jl_types.specs.Events.Retirement.{is_listed}
use Rattle.jl_types.specs.Events.Release.{guards_by_one, released_from}
use Rattle.jl_types.proofs.Releasing.{MayRelease, length_without, unreleased_without}
use Rattle.jl_callsites.specs.Known.{are_known}
use Rattle.jl_callsites.proofs.Walks.{on_path, all_invalid, site_walks, kept_on}
use Rattle.jl_relink.proofs.WayKeys.{rests_on_target}
use Rattle.jl_relink.proofs.Paths.{RunsOn}

or_both : (a b : Bool) → (a || b) ≡ false → (a ≡ false) × (b ≡ false)
or_both true b h = cc
or_both false b h = (refl, h)

module _ (sites : Sites) (going points : List ℕ) (may : MayRelease sites going points) where
  -- a key of a way by none that goes
  abbrev Stays : Key → Type 0
  Stays (key.Receivers c) = Unit {0}
  Stays (key.Target c) = is_listed going c ≡ false
  Stays (key.Valid p) = Unit {0}

  -- the point stays
  abbrev IsFree : Key → Type 0
  IsFree (key.Receivers c) = Unit {0}
  IsFree (key.Target c) = Unit {0}
  IsFree (key.Valid p) = is_listed points p ≡ false

  -- ---- no point goes that is on such a way

  free_part : (n : ℕ) → ((c : ℕ) → AllByRecursion Stays (way_below sites n c) → AllByRecursion IsFree (way_below sites n c)) → (t : Target)
      → guards_by_one points t ≡ false → AllByRecursion Stays (way_by sites (way_below sites n) t)
      → AllByRecursion IsFree (way_by sites (way_below sites n) t)
  free_part n earlier (Method m) unguarded stay = tt
  free_part n earlier (Guard p first fallback) unguarded stay =
      let parts = or_both (is_listed points p) (guards_by_one points first || guards_by_one points fallback) unguarded in
      let sides = or_both (guards_by_one points first) (guards_by_one points fallback) parts.1 in
      by_valid (is_valid sites p) parts.0 (free_part n earlier first sides.0) (free_part n earlier fallback sides.1) stay
    where
      by_valid : (b : Bool) → is_listed points p ≡ false
          → (AllByRecursion Stays (way_by sites (way_below sites n) first) → AllByRecursion IsFree (way_by sites (way_below sites n) first))
          → (AllByRecursion Stays (way_by sites (way_below sites n) fallback) → AllByRecursion IsFree (way_by sites (way_below sites n) fallback))
          → AllByRecursion Stays (if b then key.Valid p ∷ way_by sites (way_below sites n) first else way_by sites (way_below sites n) fallback)
          → AllByRecursion IsFree (if b then key.Valid p ∷ way_by sites (way_below sites n) first else way_by sites (way_below sites n) fallback)
      by_valid true free one two stay = (free, one stay.1)
      by_valid false free one two stay = two stay
  free_part n earlier (Invoker c) unguarded stay = earlier c stay

  free_row : (n c : ℕ) → ((d : ℕ) → AllByRecursion Stays (way_below sites n d) → AllByRecursion IsFree (way_below sites n d))
      → is_listed going c ≡ false
      → AllByRecursion Stays (option_map_or (λ site. way_by sites (way_below sites n) site.target) (unreleased sites.call_sites c) [])
      → AllByRecursion IsFree (option_map_or (λ site. way_by sites (way_below sites n) site.target) (unreleased sites.call_sites c) [])
  free_row n c earlier stays = by_row (unreleased sites.call_sites c) refl
    where
      by_row : (o : Option CallSite) → unreleased sites.call_sites c ≡ o
          → AllByRecursion Stays (option_map_or (λ site. way_by sites (way_below sites n) site.target) o [])
          → AllByRecursion IsFree (option_map_or (λ site. way_by sites (way_below sites n) site.target) o [])
      by_row None at stay = tt
      by_row (Some site) at stay = free_part n earlier site.target (may.unguarded c site at stays) stay

  free_way : (n c : ℕ) → AllByRecursion Stays (way_below sites n c) → AllByRecursion IsFree (way_below sites n c)
  free_way zero c = λ stay. tt
  free_way (suc n) c = by_number (n == c) (free_way n)
    where
      by_number : (b : Bool) → ((d : ℕ) → AllByRecursion Stays (way_below sites n d) → AllByRecursion IsFree (way_below sites n d))
          → AllByRecursion Stays
          (if b then key.Target c ∷ option_map_or (λ site. way_by sites (way_below sites n) site.target) (unreleased sites.call_sites c) [] else way_below
          sites n c)
          → AllByRecursion IsFree
          (if b then key.Target c ∷ option_map_or (λ site. way_by sites (way_below sites n) site.target) (unreleased sites.call_sites c) [] else way_below
          sites n c)
      by_number true earlier stay = (tt, free_row n c earlier stay.0 stay.1)
      by_number false earlier stay = earlier c stay

  free_path : (c : ℕ) → AllByRecursion Stays (path sites c) → AllByRecursion IsFree (path sites c)
  free_path c stay = (tt, free_row c c (free_way c) stay.0 stay.1)

  -- ---- keys

  targets_have : (cs : List ℕ) (c : ℕ) → has_key (map key.Target cs) (key.Target c) ≡ is_listed cs c
  targets_have [] c = refl
  targets_have (d ∷ cs) c = ap (λ (b : Bool). (d == c) || b) (targets_have cs c)

  all_stay : (ks : List Key) → ((c : ℕ) → has_key ks (key.Target c) ≡ true → is_listed going c ≡ false) → AllByRecursion Stays ks
  all_stay [] none = tt
  all_stay (key.Receivers c ∷ ks) none = (tt, all_stay ks none)
  all_stay (key.Target c ∷ ks) none = (
    none c (first_of_or (c == c) (has_key ks (key.Target c)) (nat_eq_equiv.refl c)),
    all_stay ks (λ d h. none d (last_of_or (c == d) (has_key ks (key.Target d)) h)),
  )
    where
      first_of_or : (a b : Bool) → a ≡ true → (a || b) ≡ true
      first_of_or true b h = refl
      first_of_or false b h = cc

      last_of_or : (a b : Bool) → b ≡ true → (a || b) ≡ true
      last_of_or true b h = refl
      last_of_or false b h = h
  all_stay (key.Valid p ∷ ks) none = (tt, all_stay ks none)

  free_point : (ks : List Key) → AllByRecursion IsFree ks → (p : ℕ) → has_key ks (key.Valid p) ≡ true → is_listed points p ≡ false
  free_point [] free p h = cc
  free_point (key.Receivers c ∷ ks) free p h = free_point ks free.1 p h
  free_point (key.Target c ∷ ks) free p h = free_point ks free.1 p h
  free_point (key.Valid q ∷ ks) free p h = elim (or_cases (q == p) (has_key ks (key.Valid p)) h) [
    | inl is ↦ ap (is_listed points) (sym ((Decides-eqb q p).0 is)) ∙ free.0
    | inr more ↦ free_point ks free.1 p more
  ]

  -- ---- what runs

  abbrev new : Sites
  new = released_from sites going points

  off : (p : ℕ) → is_valid sites p ≡ false → is_valid new p ≡ false
  off p h = ap (λ (o : Option Bool). option_map_or (λ valid. valid) o false) (unreleased_without points sites.switches p) ∙ by_list (is_listed points p)
    where
      by_list : (b : Bool) → option_map_or (λ (valid : Bool). valid) (if b then None else unreleased sites.switches p) false ≡ false
      by_list true = refl
      by_list false = h

  still : (p : ℕ) → is_listed points p ≡ false → is_valid sites p ≡ true → is_valid new p ≡ true
  still p free valid =
      ap (λ (o : Option Bool). option_map_or (λ valid. valid) o false)
      (unreleased_without points sites.switches p ∙ ap (λ (b : Bool). if b then None else unreleased sites.switches p) free)
      ∙ valid

  -- where the call site rests on the target of none that goes
  pub released_runs_on : are_known sites ≡ true → (c : ℕ)
      → ((k : Key) → has_key (of_call_site sites c) k ≡ true → has_key (map key.Target going) k ≡ false) → RunsOn sites new c
  released_runs_on known c apart =
      let w =
      site_walks sites new (λ d site at. all_invalid sites new off site.target) c
      (kept_on sites new (c + 1) (path sites c) (on_path sites c)
      (λ d lt h. unreleased_without going sites.call_sites d ∙ ap (λ (b : Bool). if b then None else unreleased sites.call_sites d) (stays d h))
      (λ p valid h. still p (free_point (path sites c) (free_path c (all_stay (path sites c) stays)) p h) valid)) in
      record {
        method = w.0;
        keys =
            ap (λ (ks : List Key). map key.Target (among (c + 1) (filter_map call_site_in ks)) ++ map key.Valid (among (length new.switches)
            (filter_map point_in ks))) w.1
            ∙ ap (λ n. map key.Target (among (c + 1) (filter_map call_site_in (path sites c))) ++ map key.Valid (among n
            (filter_map point_in (path sites c)))) (length_without points sites.switches);
      }
    where
      stays : (d : ℕ) → has_key (path sites c) (key.Target d) ≡ true → is_listed going d ≡ false
      stays d h = sym (targets_have going d) ∙ apart (key.Target d) (rests_on_target sites c d h)
