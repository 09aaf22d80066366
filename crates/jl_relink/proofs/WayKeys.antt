-- What a call site rests on: the targets of the call sites on its path and the valid points on it.
use Rattle.std.specs.Prelude.{◌≡◌, ℕ, ◌+◌, ◌<◌, ◌==◌, ◌||◌, Bool, true, false, List, [], ◌∷◌, ◌++◌, length, map, filter_map, Option, Some, None}
use Rattle.std.specs.List.{AllByRecursion, list_any, range_with_len}
use Rattle.std.specs.Option.{option_map_or}
use Rattle.std.specs.Bool.{one_answer}
use Rattle.std.proofs.Common.{refl, ap, sym, ◌∙◌, arith, inl, inr}
use Rattle.std.proofs.lemmas.Bool.{or_cases, or_left, or_right}
use Rattle.std.proofs.lemmas.Bool.Decides.{Decides-eqb}
use Rattle.std.proofs.lemmas.Cmp.{nat_eq_equiv}
use Rattle.jl_pool.specs.declared.reference.CallSiteSpecifier.{CallSiteSpecifier}
use Rattle.jl_class.specs.declared.site.Kind.{Kind}
use Rattle.jl_class.specs.declared.site.Operand.{Operand}
use Rattle.jl_class.specs.declared.site.Operand.TheVariants as operand
use Rattle.jl_types.specs.Values.World.{World, Classes, Sites, unreleased}
use Rattle.jl_types.specs.Linkage.Stages.{bound_to}
use Rattle.jl_types.specs.Linkage.Targets.{is_valid}
use Rattle.jl_types.specs.declared.key.Key.{Key}
use Rattle.jl_types.specs.declared.key.Key.TheVariants as key
use Rattle.jl_types.specs.Events.Footprints.{has_key, call_site_in, point_in, among, path, of_call_site, of_binding, of_operand, most_by}
use Rattle.jl_types.proofs.Releasing.{unreleased_within}
use Rattle.jl_types.proofs.Bools.{any-filter, any-filter-at, any-range-from}
use Rattle.jl_callsites.proofs.Walks.{IsOn, on_path}

abbrev pub has : ℕ → List ℕ → Bool
has n xs = list_any (λ x. x == n) xs

-- ---- the call sites and the points among keys

pub call_sites_have : (ks : List Key) (c : ℕ) → has c (filter_map call_site_in ks) ≡ has_key ks (key.Target c)
call_sites_have [] c = refl
call_sites_have (key.Receivers d ∷ ks) c = call_sites_have ks c
call_sites_have (key.Target d ∷ ks) c = ap (λ (b : Bool). (d == c) || b) (call_sites_have ks c)
call_sites_have (key.Valid p ∷ ks) c = call_sites_have ks c

pub points_have : (ks : List Key) (p : ℕ) → has p (filter_map point_in ks) ≡ has_key ks (key.Valid p)
points_have [] p = refl
points_have (key.Receivers d ∷ ks) p = points_have ks p
points_have (key.Target d ∷ ks) p = points_have ks p
points_have (key.Valid q ∷ ks) p = ap (λ (b : Bool). (q == p) || b) (points_have ks p)

-- ---- keys of both

targets_and : (cs ps : List ℕ) (c : ℕ) → has c cs ≡ true → has_key (map key.Target cs ++ map key.Valid ps) (key.Target c) ≡ true
targets_and [] ps c h = cc
targets_and (d ∷ cs) ps c h = elim (or_cases (d == c) (has c cs) h) [
  | inl is ↦ or_left (d == c) (has_key (map key.Target cs ++ map key.Valid ps) (key.Target c)) is
  | inr more ↦ or_right (d == c) (has_key (map key.Target cs ++ map key.Valid ps) (key.Target c)) (targets_and cs ps c more)
]

valid_among : (ps : List ℕ) (p : ℕ) → has_key (map key.Valid ps) (key.Valid p) ≡ has p ps
valid_among [] p = refl
valid_among (q ∷ ps) p = ap (λ (b : Bool). (q == p) || b) (valid_among ps p)

and_points : (cs ps : List ℕ) (p : ℕ) → has p ps ≡ true → has_key (map key.Target cs ++ map key.Valid ps) (key.Valid p) ≡ true
and_points [] ps p h = valid_among ps p ∙ h
and_points (c ∷ cs) ps p h = and_points cs ps p h

no_receivers_among : (cs ps : List ℕ) (c : ℕ) → has_key (map key.Target cs ++ map key.Valid ps) (key.Receivers c) ≡ true → ⊥
no_receivers_among [] [] c h = cc
no_receivers_among [] (p ∷ ps) c h = no_receivers_among [] ps c h
no_receivers_among (d ∷ cs) ps c h = no_receivers_among cs ps c h

-- an invokedynamic looks at no receivers
pub no_receivers_of : (sites : Sites) (d c : ℕ) → has_key (of_call_site sites d) (key.Receivers c) ≡ true → ⊥
no_receivers_of sites d c h =
    no_receivers_among (among (d + 1) (filter_map call_site_in (path sites d))) (among (length sites.switches) (filter_map point_in (path sites d))) c h

most_among : (classes : Classes) (cs ps : List ℕ) → most_by classes (map key.Target cs ++ map key.Valid ps) ≡ 1
most_among classes [] [] = refl
most_among classes [] (p ∷ ps) = refl
most_among classes (c ∷ cs) ps = refl

-- and takes one evaluation
pub binding_takes_one : (classes : Classes) (sites : Sites) (o : Option ℕ) → most_by classes (of_binding sites o) ≡ 1
binding_takes_one classes sites None = refl
binding_takes_one classes sites (Some c) =
    most_among classes (among (c + 1) (filter_map call_site_in (path sites c))) (among (length sites.switches) (filter_map point_in (path sites c)))

pub call_site_takes_one : (w : World) (s d : ℕ) (kind : Kind) (o : Operand (List ℕ)) (specifier : CallSiteSpecifier (List ℕ)) → o ≡ operand.CallSite specifier
    → most_by w.classes (of_operand w s d kind o) ≡ 1
call_site_takes_one w s d kind o specifier e =
    ap (λ (o : Operand (List ℕ)). most_by w.classes (of_operand w s d kind o)) e ∙ binding_takes_one w.classes w.sites (bound_to w s)

-- ---- numbers that are there

among_from : (n : ℕ) (xs : List ℕ) (x : ℕ) → x < n → has x xs ≡ true → has x (among n xs) ≡ true
among_from n xs x lt h =
    any-filter-at (λ k. has k xs) (λ k. k == x) x (range_with_len 0 n)
    (any-range-from (λ k. k == x) 0 n x (omega arith) (omega arith) (nat_eq_equiv.refl x)) h (nat_eq_equiv.refl x)

-- where all of them are below n
among_all : (n : ℕ) (xs : List ℕ) → ((x : ℕ) → has x xs ≡ true → x < n) → (x : ℕ) → has x (among n xs) ≡ has x xs
among_all n xs below x = one_answer (has x (among n xs)) (has x xs) (λ e. e, λ e. e) (back, forth)
  where
    back : has x xs ≡ true → has x (among n xs) ≡ true
    back h = among_from n xs x (below x h) h

    forth : has x (among n xs) ≡ true → has x xs ≡ true
    forth h =
        let r = any-filter (λ k. has k xs) (λ k. k == x) (range_with_len 0 n) h in
        ap (λ k. has k xs) (sym ((Decides-eqb r.item x).0 r.passes)) ∙ r.meets

pub valid_within : (sites : Sites) (p : ℕ) → is_valid sites p ≡ true → p < length sites.switches
valid_within sites p = by_switch (unreleased sites.switches p) refl
  where
    by_switch : (o : Option Bool) → unreleased sites.switches p ≡ o → option_map_or (λ valid. valid) o false ≡ true → p < length sites.switches
    by_switch None is h = cc
    by_switch (Some b) is h = unreleased_within sites.switches p b is

call_site_below : (sites : Sites) (n : ℕ) (ks : List Key) → AllByRecursion (IsOn sites n) ks → (c : ℕ) → has_key ks (key.Target c) ≡ true → c < n
call_site_below sites n [] on c h = cc
call_site_below sites n (key.Receivers d ∷ ks) on c h = absurd on.0
call_site_below sites n (key.Target d ∷ ks) on c h = elim (or_cases (d == c) (has_key ks (key.Target c)) h) [
  | inl is ↦ (let same = (Decides-eqb d c).0 is in let lt = on.0 in omega arith)
  | inr more ↦ call_site_below sites n ks on.1 c more
]
call_site_below sites n (key.Valid p ∷ ks) on c h = call_site_below sites n ks on.1 c h

pub point_valid : (sites : Sites) (n : ℕ) (ks : List Key) → AllByRecursion (IsOn sites n) ks → (p : ℕ) → has_key ks (key.Valid p) ≡ true
    → is_valid sites p ≡ true
point_valid sites n [] on p h = cc
point_valid sites n (key.Receivers d ∷ ks) on p h = absurd on.0
point_valid sites n (key.Target d ∷ ks) on p h = point_valid sites n ks on.1 p h
point_valid sites n (key.Valid q ∷ ks) on p h = elim (or_cases (q == p) (has_key ks (key.Valid p)) h) [
  | inl is ↦ ap (is_valid sites) (sym ((Decides-eqb q p).0 is)) ∙ on.0
  | inr more ↦ point_valid sites n ks on.1 p more
]

module _ (sites : Sites) (c : ℕ) where
  call_sites_below : (d : ℕ) → has d (filter_map call_site_in (path sites c)) ≡ true → d < c + 1
  call_sites_below d h = call_site_below sites (c + 1) (path sites c) (on_path sites c) d (sym (call_sites_have (path sites c) d) ∙ h)

  pub points_valid : (p : ℕ) → has p (filter_map point_in (path sites c)) ≡ true → is_valid sites p ≡ true
  points_valid p h = point_valid sites (c + 1) (path sites c) (on_path sites c) p (sym (points_have (path sites c) p) ∙ h)

  -- each call site and each point on the path is among those that are there
  pub among_call_sites : (d : ℕ) → has d (among (c + 1) (filter_map call_site_in (path sites c))) ≡ has d (filter_map call_site_in (path sites c))
  among_call_sites d = among_all (c + 1) (filter_map call_site_in (path sites c)) call_sites_below d

  pub among_points : (p : ℕ) → has p (among (length sites.switches) (filter_map point_in (path sites c))) ≡ has p (filter_map point_in (path sites c))
  among_points p = among_all (length sites.switches) (filter_map point_in (path sites c)) (λ q h. valid_within sites q (points_valid q h)) p

  -- and among what the call site rests on
  pub rests_on_target : (d : ℕ) → has_key (path sites c) (key.Target d) ≡ true → has_key (of_call_site sites c) (key.Target d) ≡ true
  rests_on_target d h =
      targets_and (among (c + 1) (filter_map call_site_in (path sites c))) (among (length sites.switches) (filter_map point_in (path sites c))) d
      (among_call_sites d ∙ call_sites_have (path sites c) d ∙ h)

  pub rests_on_point : (p : ℕ) → has_key (path sites c) (key.Valid p) ≡ true → has_key (of_call_site sites c) (key.Valid p) ≡ true
  rests_on_point p h =
      and_points (among (c + 1) (filter_map call_site_in (path sites c))) (among (length sites.switches) (filter_map point_in (path sites c))) p
      (among_points p ∙ points_have (path sites c) p ∙ h)
