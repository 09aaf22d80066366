-- What a class shows is the same under new numbers: tests, packages, methods.
use Rattle.std.specs.Prelude.{◌≡◌, ℕ, ◌<◌, ◌⊎◌, ◌==◌, ◌&&◌, Bool, true, false, not, List, [], slice_get, position, Option, Some, None, option_map}
use Rattle.std.specs.Option.{option_map_or}
use Rattle.std.specs.Str.{bytes_eq}
use Rattle.std.proofs.Common.{refl, sym, ap, ◌∙◌, inl, inr}
use Rattle.std.proofs.lemmas.Bool.{cases_order, not-true}
use Rattle.std.proofs.lemmas.Bool.Decides.{Decides-eqb}
use Rattle.std.proofs.lemmas.Cmp.{nat_eq_equiv}
use Rattle.std.proofs.lemmas.Option.{same_Some}
use Rattle.jl_class.specs.Class.{Method}
use Rattle.jl_class.specs.Flags.{has_flag, INTERFACE}
use Rattle.jl_names.specs.ClassNames.{package_of}
use Rattle.jl_types.specs.declared.ids.MethodId.{MethodId}
use Rattle.jl_types.specs.Values.World.{Class, Classes}
use Rattle.jl_types.specs.Values.Members.{lookup, class_test, is_present, is_retired, is_interface, is_concrete, is_concrete_row, share_package}
use Rattle.jl_types.specs.Values.Members.{same_package, methods_of, method_at, declared, is_called}
use Rattle.jl_hierarchy.proofs.Rising.{other_number}
use Rattle.jl_renewal.specs.Numbers.{Numbers, renumbered}
use Rattle.jl_renewal.specs.Renewed.{renumbered_class, renumbered_method}
use Rattle.jl_renewal.proofs.Alike.{Embeds}

-- a class that is present has its row, and its loader isn't retired
pub present_row : (cs : Classes) (c : ℕ) → is_present cs c ≡ true
    → (row : Class) × (slice_get cs.rows c ≡ Some row) × (is_retired cs row.loader ≡ false)
present_row cs c present = by_row (slice_get cs.rows c) refl present
  where
    by_row : (o : Option Class) → slice_get cs.rows c ≡ o → option_map_or (λ row. not (is_retired cs row.loader)) o false ≡ true
        → (row : Class) × (slice_get cs.rows c ≡ Some row) × (is_retired cs row.loader ≡ false)
    by_row None is h = cc
    by_row (Some row) is h = (row, is, not-true (is_retired cs row.loader) h)

module _ (n : Numbers) (cs ds : Classes) (e : Embeds n cs ds) where
  abbrev ren : ℕ → ℕ
  ren c = renumbered n.classes c

  -- what is present stays so
  pub present_alike : (c : ℕ) → is_present cs c ≡ true → is_present ds (ren c) ≡ true
  present_alike = e.still

  -- no two have one number
  pub number_alike : (c d : ℕ) → is_present cs c ≡ true → is_present cs d ≡ true → (ren c == ren d) ≡ (c == d)
  number_alike c d pc pd = by_order (cases_order c d)
    where
      by_order : (c ≡ d) ⊎ ((c < d) ⊎ (d < c)) → (ren c == ren d) ≡ (c == d)
      by_order (inl same) = (Decides-eqb (ren c) (ren d)).1 (ap ren same) ∙ sym ((Decides-eqb c d).1 same)
      by_order (inr (inl lt)) = other_number (ren c) (ren d) (e.rises c d pc pd lt) ∙ sym (other_number c d lt)
      by_order (inr (inr lt)) =
          nat_eq_equiv.symm (ren c) (ren d) ∙ other_number (ren d) (ren c) (e.rises d c pd pc lt) ∙ sym (other_number d c lt) ∙ nat_eq_equiv.symm d c

  -- a test that doesn't see numbers
  pub test_alike : (test' test : Class → Bool) → ((row : Class) → test' (renumbered_class n row) ≡ test row) → (c : ℕ) → is_present cs c ≡ true
      → class_test test' ds (ren c) ≡ class_test test cs c
  test_alike test' test same c present =
      let r = present_row cs c present in
      ap (λ (o : Option Class). option_map_or test' o false) (e.rows c r.0 present r.1)
      ∙ (same r.0 ∙ sym (ap (λ (o : Option Class). option_map_or test o false) r.1))

  -- classes of one package
  pub package_alike : (c d : ℕ) → is_present cs c ≡ true → is_present cs d ≡ true → same_package ds (ren c) (ren d) ≡ same_package cs c d
  package_alike c d pc pd =
      let r = present_row cs c pc in
      let s = present_row cs d pd in
      ap (λ (o : Option Class). option_map_or (λ a. class_test (share_package a) ds (ren d)) o false) (e.rows c r.0 pc r.1)
      ∙ (ap (λ (o : Option Class). option_map_or (share_package (renumbered_class n r.0)) o false) (e.rows d s.0 pd s.1)
      ∙ (ap (λ (b : Bool). b && bytes_eq (package_of r.0.file.name) (package_of s.0.file.name)) (e.loaders c d r.0 s.0 pc pd r.1 s.1)
      ∙ (sym (ap (λ (o : Option Class). option_map_or (share_package r.0) o false) s.1)
      ∙ sym (ap (λ (o : Option Class). option_map_or (λ a. class_test (share_package a) cs d) o false) r.1))))

  -- interfaces, and classes that objects may be of
  pub interface_alike : (c : ℕ) → is_present cs c ≡ true → is_interface ds (ren c) ≡ is_interface cs c
  interface_alike = test_alike (λ row. has_flag row.file.flags INTERFACE) (λ row. has_flag row.file.flags INTERFACE) (λ row. refl)

  pub concrete_alike : (c : ℕ) → is_present cs c ≡ true → is_concrete ds (ren c) ≡ is_concrete cs c
  concrete_alike c present =
      λ i. (present_alike c present ∙ sym present) i && test_alike is_concrete_row is_concrete_row (λ row. refl) c present i

  -- ---- methods

  -- those of a class
  pub methods_alike : (c : ℕ) → is_present cs c ≡ true → methods_of ds (ren c) ≡ methods_of cs c
  methods_alike c present =
      let r = present_row cs c present in
      ap (λ (o : Option Class). option_map_or (λ row. row.file.methods) o []) (e.rows c r.0 present r.1)
      ∙ sym (ap (λ (o : Option Class). option_map_or (λ row. row.file.methods) o []) r.1)

  -- one of them
  pub method_alike : (m : MethodId) → is_present cs m.class ≡ true → method_at ds (renumbered_method n m) ≡ method_at cs m
  method_alike m present = λ i. slice_get (methods_alike m.class present i) m.index

  abbrev made : ℕ → ℕ → MethodId
  made c i = record { class = c; index = i }

  -- the one of a name and a descriptor
  pub declared_alike : (name ty : List ℕ) (c : ℕ) → is_present cs c ≡ true
      → declared ds name ty (ren c) ≡ option_map (renumbered_method n) (declared cs name ty c)
  declared_alike name ty c present =
      ap (λ (methods : List Method). option_map (made (ren c)) (position (is_called name ty) methods)) (methods_alike c present)
      ∙ by_place (position (is_called name ty) (methods_of cs c))
    where
      by_place : (o : Option ℕ) → option_map (made (ren c)) o ≡ option_map (renumbered_method n) (option_map (made c) o)
      by_place None = refl
      by_place (Some i) = refl

  -- ---- what is found

  -- what the loader of a class that is present finds is present
  pub found_present : (c : ℕ) (row : Class) (name : List ℕ) (d : ℕ) → is_present cs c ≡ true → slice_get cs.rows c ≡ Some row
      → lookup cs row.loader name ≡ Some d → is_present cs d ≡ true
  found_present c row name d present is found =
      let r = present_row cs c present in
      e.closed.records row.loader name d (ap (λ (one : Class). is_retired cs one.loader) (same_Some row r.0 (sym is ∙ r.1)) ∙ r.2) found
