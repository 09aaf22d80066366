-- Superinterface methods are those of the ancestors, one after another.
use Rattle.std.specs.Prelude.{◌≡◌, ℕ, Bool, true, false, not, ◌&&◌, ◌||◌, List, [], ◌∷◌}
use Rattle.std.specs.Prelude.{filter, filter_map, cond, Option, Some, None, option_map, option_and_then, is_some, position, if◌then◌else◌}
use Rattle.std.specs.List.{list_any, cons_option}
use Rattle.std.proofs.Common.{refl, ap, sym, ◌∙◌}
use Rattle.jl_types.specs.declared.ids.MethodId.{MethodId}
use Rattle.jl_types.specs.Values.World.{Classes}
use Rattle.jl_types.specs.Values.Members.{declared, is_abstract, is_called, methods_of}
use Rattle.jl_types.specs.Values.Ancestry.{ancestors, is_proper_ancestor}
use Rattle.jl_types.specs.Linkage.Resolution.{candidates, defaults}
use Rattle.jl_hierarchy.specs.ForProofs.Defaults.{if_passes, is_inherited, is_other_interface, candidate_at, is_redeclared, redeclares, is_default, default_at}

-- ---- filters, joined

module _ {A B : Type 0} where
  -- what is found and passes
  found_passing : (p : B → Bool) (f : A → Option B) (xs : List A) → filter p (filter_map f xs) ≡ filter_map (λ x. option_and_then (if_passes p) (f x)) xs
  found_passing p f [] = refl
  found_passing p f (x ∷ xs) = by_found _ (f x) (found_passing p f xs)
    where
      by_test : (rest : List B) (y : B) (b : Bool) → filter p (filter_map f xs) ≡ rest
          → cond b (y ∷ filter p (filter_map f xs)) (filter p (filter_map f xs)) ≡ cons_option (if b then Some y else None) rest
      by_test rest y true e = ap (λ (ys : List B). y ∷ ys) e
      by_test rest y false e = e

      by_found : (rest : List B) (o : Option B) → filter p (filter_map f xs) ≡ rest
          → filter p (cons_option o (filter_map f xs)) ≡ cons_option (option_and_then (if_passes p) o) rest
      by_found rest None e = e
      by_found rest (Some y) e = by_test rest y (p y) e

  -- what is found of those that pass
  passing_found : (f : A → Option B) (q : A → Bool) (xs : List A) → filter_map f (filter q xs) ≡ filter_map (λ x. if q x then f x else None) xs
  passing_found f q [] = refl
  passing_found f q (x ∷ xs) = by_test _ (q x) (passing_found f q xs)
    where
      by_test : (rest : List B) (b : Bool) → filter_map f (filter q xs) ≡ rest
          → filter_map f (cond b (x ∷ filter q xs) (filter q xs)) ≡ cons_option (if b then f x else None) rest
      by_test rest true e = ap (λ (ys : List B). cons_option (f x) ys) e
      by_test rest false e = e

both_filters : {A : Type 0} (p q : A → Bool) (xs : List A) → filter p (filter q xs) ≡ filter (λ x. p x && q x) xs
both_filters {A = A} p q [] = refl
both_filters {A = A} p q (x ∷ xs) = by_tests _ (p x) (q x) refl (both_filters p q xs)
  where
    by_tests : (rest : List A) (a b : Bool) → p x ≡ a → filter p (filter q xs) ≡ rest
        → filter p (cond b (x ∷ filter q xs) (filter q xs)) ≡ cond (a && b) (x ∷ rest) rest
    by_tests rest true true e h = rw e (ap (λ (ys : List A). x ∷ ys) h)
    by_tests rest true false e h = h
    by_tests rest false true e h = rw e h
    by_tests rest false false e h = h

-- ---- superinterface methods

module _ (cs : Classes) (name ty : List ℕ) (c : ℕ) where
  pub candidates_are : candidates cs name ty c ≡ filter_map (candidate_at cs name ty c) (ancestors cs.rows c)
  candidates_are =
      found_passing (is_inherited cs) (declared cs name ty) (filter (is_other_interface cs c) (ancestors cs.rows c))
      ∙ passing_found (λ k. option_and_then (if_passes (is_inherited cs)) (declared cs name ty k)) (is_other_interface cs c) (ancestors cs.rows c)

  pub defaults_are : defaults cs name ty c ≡ filter_map (default_at cs name ty c) (ancestors cs.rows c)
  defaults_are =
      both_filters (λ m. not (is_abstract cs m)) (λ m. not (is_redeclared cs name ty c m.class)) (candidates cs name ty c)
      ∙ ap (filter (is_default cs name ty c)) candidates_are
      ∙ found_passing (is_default cs name ty c) (candidate_at cs name ty c) (ancestors cs.rows c)

  -- a candidate is of the ancestor that declares it
  pub class_of_candidate : (k : ℕ) (m : MethodId) → candidate_at cs name ty c k ≡ Some m → m.class ≡ k
  class_of_candidate k m e = by_kind (is_other_interface cs c k) e
    where
      by_inherited : (i : ℕ) (b : Bool) → (if b then Some (record { class = k; index = i }) else None) ≡ Some m → m.class ≡ k
      by_inherited i true e = cc
      by_inherited i false e = cc

      by_place : (o : Option ℕ) → option_and_then (if_passes (is_inherited cs)) (option_map (λ i. record { class = k; index = i }) o) ≡ Some m → m.class ≡ k
      by_place None e = cc
      by_place (Some i) e = by_inherited i (is_inherited cs (record { class = k; index = i })) e

      by_kind : (b : Bool) → (if b then option_and_then (if_passes (is_inherited cs)) (declared cs name ty k) else None) ≡ Some m → m.class ≡ k
      by_kind true e = by_place (position (is_called name ty) (methods_of cs k)) e
      by_kind false e = cc

  none_lower : (b : Bool) → (b && false) ≡ false
  none_lower true = refl
  none_lower false = refl

  one_lower : (b : Bool) → (b && true) ≡ b
  one_lower true = refl
  one_lower false = refl

  module _ (i : ℕ) where
    abbrev lower : MethodId → Bool
    lower other = is_proper_ancestor cs i other.class

    over_all : (ks : List ℕ) → list_any lower (filter_map (candidate_at cs name ty c) ks) ≡ list_any (redeclares cs name ty c i) ks
    over_all [] = refl
    over_all (k ∷ ks) = by_candidate _ (candidate_at cs name ty c k) refl (over_all ks)
      where
        by_candidate : (rest : Bool) (o : Option MethodId) → candidate_at cs name ty c k ≡ o → list_any lower (filter_map (candidate_at cs name ty c) ks) ≡ rest
            → list_any lower (cons_option o (filter_map (candidate_at cs name ty c) ks)) ≡ ((is_proper_ancestor cs i k && is_some o) || rest)
        by_candidate rest None e h = h ∙ sym (ap (λ (b : Bool). b || rest) (none_lower (is_proper_ancestor cs i k)))
        by_candidate rest (Some m) e h =
            ap (λ n. is_proper_ancestor cs i n || list_any lower (filter_map (candidate_at cs name ty c) ks)) (class_of_candidate k m e)
            ∙ ap (λ (b : Bool). is_proper_ancestor cs i k || b) h
            ∙ sym (ap (λ (b : Bool). b || rest) (one_lower (is_proper_ancestor cs i k)))

    pub redeclared_is : is_redeclared cs name ty c i ≡ list_any (redeclares cs name ty c i) (ancestors cs.rows c)
    redeclared_is = ap (list_any lower) candidates_are ∙ over_all (ancestors cs.rows c)
