-- Which changes of call sites and switch points leave what a call site runs, and what it rests on.
use Rattle.std.specs.Prelude.{◌≡◌, ◌≢◌, ℕ, zero, suc, ◌+◌, ◌<◌, ◌≤◌, ◌==◌, ◌||◌, Bool, true, false, cond, List, [], ◌∷◌, ◌++◌, length, map, filter}
use Rattle.std.specs.Prelude.{filter_map, slice_set, Option, Some}
use Rattle.std.specs.List.{list_any, range_with_len}
use Rattle.std.specs.Option.{option_map_or}
use Rattle.std.proofs.Common.{refl, ap, sym, ◌∙◌, arith, length-append}
use Rattle.std.proofs.lemmas.Bool.{both_ways}
use Rattle.std.proofs.lemmas.Bool.Decides.{Decides-eqb}
use Rattle.std.proofs.lemmas.Cmp.{nat_eq_equiv}
use Rattle.std.proofs.lemmas.List.Elements.{filter-append}
use Rattle.jl_types.specs.declared.target.CallSiteKind.{CallSiteKind}
use Rattle.jl_types.specs.Values.Target.{Target}
use Rattle.jl_types.specs.Values.World.{Sites, unreleased}
use Rattle.jl_types.specs.Linkage.Targets.{is_valid, method_of}
use Rattle.jl_types.specs.Events.Verdict.{invalidated}
use Rattle.jl_types.proofs.Bools.{any-filter-at, any-range-from}
use Rattle.jl_types.proofs.Lists.{range_end}
use Rattle.jl_callsites.specs.Faults.{with_site, with_target, with_switch, with_invalid}
use Rattle.jl_callsites.specs.Known.{are_known}
use Rattle.jl_callsites.proofs.Known.{known_at, site_more_walks, other_walks, switch_walks}
use Rattle.jl_callsites.proofs.Walks.{on_path, known_invalid, site_walks, kept_on}
use Rattle.jl_types.specs.declared.key.Key.{Key}
use Rattle.jl_types.specs.declared.key.Key.TheVariants as key
use Rattle.jl_types.specs.Events.Footprints.{has_key, call_site_in, point_in, among, path, of_call_site, still_valid}
use Rattle.jl_relink.proofs.WayKeys.{has, points_valid, rests_on_point, valid_within}

-- the call site runs what it ran, and rests on what it rested on
pub record RunsOn (old new : Sites) (c : ℕ) : Type 0 where
  pub method : method_of new c ≡ method_of old c
  pub keys : of_call_site new c ≡ of_call_site old c

-- keys of the same path, where as many switch points count
abbrev keys_of : ℕ → ℕ → List Key → List Key
keys_of c n ks = map key.Target (among (c + 1) (filter_map call_site_in ks)) ++ map key.Valid (among n (filter_map point_in ks))

-- ---- the events

-- one call site more
pub site_runs_on : (sites : Sites) (kind : CallSiteKind) (ty : List ℕ) (t : Target) (c : ℕ) → c < length sites.call_sites
    → RunsOn sites (with_site sites kind ty t) c
site_runs_on sites kind ty t c lt =
    let w = site_more_walks sites kind ty t c lt in
    record { method = w.0; keys = ap (keys_of c (length sites.switches)) w.1 }

-- another target of a call site that isn't on the path
pub target_runs_on : (sites : Sites) (c : ℕ) (t : Target) (d : ℕ) → has_key (path sites d) (key.Target c) ≡ false → RunsOn sites (with_target sites c t) d
target_runs_on sites c t d none =
    let w = other_walks sites c t d none in
    record { method = w.0; keys = ap (keys_of d (length sites.switches)) w.1 }

-- one switch point more
past_end : (xs : List (Option Bool)) (p : ℕ) → length xs ≤ p → option_map_or (λ (valid : Bool). valid) (unreleased xs p) false ≡ false
past_end [] p le = refl
past_end (x ∷ xs) zero le = absurd (omega arith)
past_end (x ∷ xs) (suc p) le = past_end xs p (omega arith)

pub switch_runs_on : (sites : Sites) → are_known sites ≡ true → (c : ℕ) → RunsOn sites (with_switch sites) c
switch_runs_on sites known c =
    let w = switch_walks sites known c in
    record {
      method = w.0;
      keys =
          ap (keys_of c (length (with_switch sites).switches)) w.1
          ∙ ap (λ (ps : List ℕ). map key.Target (among (c + 1) (filter_map call_site_in (path sites c))) ++ map key.Valid ps) size;
    }
  where
    points : List ℕ
    points = filter_map point_in (path sites c)

    -- the new point is on no way
    absent : (b : Bool) → has (0 + length sites.switches) points ≡ b → b ≡ false
    absent false is = refl
    absent true is =
        absurd (both_ways (is_valid sites (0 + length sites.switches)) (past_end sites.switches (0 + length sites.switches) (omega arith))
        (points_valid sites c (0 + length sites.switches) is))

    append-nil : (xs : List ℕ) → xs ++ [] ≡ xs
    append-nil [] = refl
    append-nil (x ∷ xs) = ap (λ (ys : List ℕ). x ∷ ys) (append-nil xs)

    size : among (length (with_switch sites).switches) points ≡ among (length sites.switches) points
    size =
        let n = length sites.switches in
        let on = λ (p : ℕ). list_any (λ q. q == p) points in
        ap (λ k. filter on (range_with_len 0 k)) (length-append sites.switches (Some true ∷ []))
        ∙ ap (filter on) (range_end 0 n)
        ∙ filter-append on (range_with_len 0 n) ((0 + n) ∷ [])
        ∙ ap (λ (b : Bool). filter on (range_with_len 0 n) ++ cond b ((0 + n) ∷ []) []) (absent (on (0 + n)) refl)
        ∙ append-nil (filter on (range_with_len 0 n))

other_set : {A : Type 0} (xs : List (Option A)) (c : ℕ) (x : Option A) (d : ℕ) → d ≢ c → unreleased (slice_set xs c x) d ≡ unreleased xs d
other_set [] c x d ne = refl
other_set (y ∷ xs) zero x zero ne = absurd (ne refl)
other_set (y ∷ xs) zero x (suc d) ne = refl
other_set (y ∷ xs) (suc c) x zero ne = refl
other_set (y ∷ xs) (suc c) x (suc d) ne = other_set xs c x d (λ e. ne (ap suc e))

-- points that become invalid
set_length : {A : Type 0} (xs : List A) (c : ℕ) (x : A) → length (slice_set xs c x) ≡ length xs
set_length [] c x = refl
set_length (y ∷ xs) zero x = refl
set_length (y ∷ xs) (suc c) x = ap suc (set_length xs c x)

pub invalidated_length : (switches : List (Option Bool)) (points : List ℕ) → length (invalidated switches points) ≡ length switches
invalidated_length switches [] = refl
invalidated_length switches (p ∷ points) = invalidated_length (slice_set switches p (Some false)) points ∙ set_length switches p (Some false)

abbrev valid_in : List (Option Bool) → ℕ → Bool
valid_in switches p = option_map_or (λ valid. valid) (unreleased switches p) false

set_invalid : (switches : List (Option Bool)) (q p : ℕ) → valid_in switches p ≡ false → valid_in (slice_set switches q (Some false)) p ≡ false
set_invalid [] q p h = h
set_invalid (b ∷ switches) zero zero h = refl
set_invalid (b ∷ switches) zero (suc p) h = h
set_invalid (b ∷ switches) (suc q) zero h = h
set_invalid (b ∷ switches) (suc q) (suc p) h = set_invalid switches q p h

stays_invalid : (switches : List (Option Bool)) (points : List ℕ) (p : ℕ) → valid_in switches p ≡ false → valid_in (invalidated switches points) p ≡ false
stays_invalid switches [] p h = h
stays_invalid switches (q ∷ points) p h = stays_invalid (slice_set switches q (Some false)) points p (set_invalid switches q p h)

elsewhere : (switches : List (Option Bool)) (points : List ℕ) (p : ℕ) → list_any (λ q. q == p) points ≡ false
    → unreleased (invalidated switches points) p ≡ unreleased switches p
elsewhere switches [] p h = refl
elsewhere switches (q ∷ points) p h =
    by_tests (q == p) (list_any (λ q. q == p) points) refl refl h (elsewhere (slice_set switches q (Some false)) points p)
  where
    by_tests : (a b : Bool) → (q == p) ≡ a → list_any (λ q. q == p) points ≡ b → (a || b) ≡ false
        → (list_any (λ q. q == p) points ≡ false
        → unreleased (invalidated (slice_set switches q (Some false)) points) p ≡ unreleased (slice_set switches q (Some false)) p)
        → unreleased (invalidated (slice_set switches q (Some false)) points) p ≡ unreleased switches p
    by_tests true b same rest e onward = cc
    by_tests false true same rest e onward = cc
    by_tests false false same rest e onward =
        onward rest
        ∙ other_set switches q (Some false) p (λ is. both_ways (q == p) same ((Decides-eqb q p).1 (sym is)))

-- a point that was valid and isn't named stays valid
unnamed : (sites : Sites) (points : List ℕ) (p : ℕ) → is_valid sites p ≡ true → has_key (map key.Valid (still_valid sites points)) (key.Valid p) ≡ false
    → list_any (λ q. q == p) points ≡ false
unnamed sites points p valid h = by_named (list_any (λ q. q == p) points) refl
  where
    listed : (ps : List ℕ) → has_key (map key.Valid ps) (key.Valid p) ≡ list_any (λ k. k == p) ps
    listed [] = refl
    listed (q ∷ ps) = ap (λ (b : Bool). (q == p) || b) (listed ps)

    by_named : (b : Bool) → list_any (λ q. q == p) points ≡ b → b ≡ false
    by_named false is = refl
    by_named true is =
        let lt = valid_within sites p valid in
        let inside : list_any (λ k. k == p) (among (length sites.switches) points) ≡ true =
        any-filter-at (λ k. list_any (λ q. q == k) points) (λ k. k == p) p (range_with_len 0 (length sites.switches))
        (any-range-from (λ k. k == p) 0 (length sites.switches) p (omega arith) (omega arith) (nat_eq_equiv.refl p)) is (nat_eq_equiv.refl p) in
        let among_those : list_any (λ k. k == p) (still_valid sites points) ≡ true =
        any-filter-at (is_valid sites) (λ k. k == p) p (among (length sites.switches) points) inside valid (nat_eq_equiv.refl p) in
        absurd (both_ways (has_key (map key.Valid (still_valid sites points)) (key.Valid p)) h (listed (still_valid sites points) ∙ among_those))

-- where no point on the path of the call site becomes invalid
pub invalid_runs_on : (sites : Sites) (points : List ℕ) → are_known sites ≡ true → (c : ℕ)
    → ((k : Key) → has_key (of_call_site sites c) k ≡ true → has_key (map key.Valid (still_valid sites points)) k ≡ false)
    → RunsOn sites (with_invalid sites points) c
invalid_runs_on sites points known c apart =
    let w =
    site_walks sites (with_invalid sites points)
    (λ d site at. known_invalid sites (with_invalid sites points) (λ p lt e. stays_invalid sites.switches points p e) d site.target
    (known_at (length sites.switches) sites.call_sites d site at known))
    c (kept_on sites (with_invalid sites points) (c + 1) (path sites c) (on_path sites c) (λ d lt h. refl) still_on) in
    record {
      method = w.0;
      keys = ap (keys_of c (length (with_invalid sites points).switches)) w.1 ∙ ap (λ n. keys_of c n (path sites c)) (invalidated_length sites.switches points);
    }
  where
    still_on : (p : ℕ) → is_valid sites p ≡ true → has_key (path sites c) (key.Valid p) ≡ true → is_valid (with_invalid sites points) p ≡ true
    still_on p valid h =
        let none = unnamed sites points p valid (apart (key.Valid p) (rests_on_point sites c p h)) in
        ap (λ (o : Option Bool). option_map_or (λ valid. valid) o false) (elsewhere sites.switches points p none) ∙ valid
