-- What no mark tells.
use Rattle.std.specs.Prelude.{◌≡◌, ℕ, ◌==◌, ◌⊎◌, Bool, true, false, List, [], ◌∷◌, get_or, position, slice_get, is_some, Option, Some, None}
use Rattle.std.specs.Prelude.{option_map, filter_map}
use Rattle.std.specs.List.{list_any, cons_option}
use Rattle.std.specs.Option.{option_map_or}
use Rattle.std.proofs.Common.{refl, ap, sym, ◌∙◌, inl, inr, eq-eqb}
use Rattle.std.proofs.lemmas.Bool.{or_left, or_right, both_ways}
use Rattle.std.proofs.lemmas.List.Quantifiers.{position-Some}
use Rattle.std.proofs.lemmas.Option.{slice_get-get_or, slice_get_within, same_Some}
use Rattle.std.proofs.lemmas.List.Folds.{list_any_at}
use Rattle.jl_class.specs.Class.{Method}
use Rattle.jl_types.specs.Values.World.{Class, Classes}
use Rattle.jl_types.specs.Values.Members.{declared, is_called}
use Rattle.jl_types.specs.declared.ids.MethodId.{MethodId}
use Rattle.jl_types.specs.Values.Ancestry.{superclasses}
use Rattle.jl_types.specs.Linkage.Resolution.{first_element}
use Rattle.jl_hierarchy.specs.Prints.{print_of, print_of_method}
use Rattle.jl_hierarchy.specs.Redeclared.{Marked, is_marked, has_method, declares_print, sees, AreMarked, IsNotRedeclared}
use Rattle.jl_hierarchy.proofs.PrintLaws.{called_print}

place_at : (test : Method → Bool) (xs : List Method) (k : ℕ) → position test xs ≡ Some k → (m : Method) × (slice_get xs k ≡ Some m) × (test m ≡ true)
place_at test [] k e = cc
place_at test (y ∷ ys) k e = let is = position-Some test (y ∷ ys) k y e in (get_or (y ∷ ys) k y, slice_get-get_or (y ∷ ys) k y is.0, is.1)

-- a method of these texts has their print
called_has_print : (name ty : List ℕ) (ms : List Method) (k : ℕ) → position (is_called name ty) ms ≡ Some k → has_method (print_of name ty) ms ≡ true
called_has_print name ty ms k e =
    let at = place_at (is_called name ty) ms k e in
    let within = slice_get_within ms k at.0 at.1 in
    let here : get_or ms k at.0 ≡ at.0 = same_Some (get_or ms k at.0) at.0 (sym (slice_get-get_or ms k at.0 within) ∙ at.1) in
    list_any_at (λ m. print_of_method m == print_of name ty) ms k at.0 within
    (ap (λ (m : Method). print_of_method m == print_of name ty) here ∙ eq-eqb (print_of_method at.0) (print_of name ty) (called_print name ty at.0 at.2))

module _ (cs : Classes) (name ty : List ℕ) where
  -- a class that declares a method of these texts declares one of their print
  by_declared : (c : ℕ) → (declared cs name ty c ≡ None) ⊎ (declares_print cs (print_of name ty) c ≡ true)
  by_declared c = by_place (position (is_called name ty) methods) refl
    where
      methods : List Method
      methods = option_map_or (λ (r : Class). r.file.methods) (slice_get cs.rows c) []

      by_place : (p : Option ℕ) → position (is_called name ty) methods ≡ p → (declared cs name ty c ≡ None) ⊎ (declares_print cs (print_of name ty) c ≡ true)
      by_place None e = inl (ap (option_map (λ (i : ℕ). record { class = c; index = i })) e)
      by_place (Some k) e = inr (called_has_print name ty methods k e)

  -- what sees the texts sees their print
  any_declares : (xs : List ℕ) → is_some (first_element (filter_map (declared cs name ty) xs)) ≡ true
      → list_any (declares_print cs (print_of name ty)) xs ≡ true
  any_declares [] h = cc
  any_declares (x ∷ xs) h = elim (by_declared x) [
    | inl none ↦
        or_right (declares_print cs (print_of name ty) x) (list_any (declares_print cs (print_of name ty)) xs)
        (any_declares xs (ap (λ (d : Option MethodId). is_some (first_element (cons_option d (filter_map (declared cs name ty) xs)))) (sym none) ∙ h))
    | inr there ↦ or_left (declares_print cs (print_of name ty) x) (list_any (declares_print cs (print_of name ty)) xs) there
  ]

  -- if the print isn't marked, no proper subclass declares the method
  pub not_redeclared : (marks : Marked) → AreMarked cs.rows marks → (c : ℕ) → sees cs name ty c ≡ true
      → is_marked marks c (print_of name ty) ≡ false → IsNotRedeclared cs name ty c
  not_redeclared marks are c seen unmarked x apart below = elim (by_declared x) [
    | inl none ↦ none
    | inr there ↦
        absurd (both_ways (is_marked marks c (print_of name ty)) unmarked
        (are c (print_of name ty) (x, apart, below, there) (any_declares (superclasses cs c) seen)))
  ]
