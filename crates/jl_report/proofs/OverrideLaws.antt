-- Among classes that override no FINAL method, each class below another one runs the FINAL method that this one first declares upward.
use Rattle.std.specs.Prelude.{◌≡◌, ℕ, ◌<◌, ◌==◌, Bool, true, false, cond, ◌&&◌, ◌||◌, List, [], ◌∷◌, filter, filter_map, length, slice_get}
use Rattle.std.specs.Prelude.{Option, Some, None, option_and_then, if◌then◌else◌}
use Rattle.std.specs.List.{list_any, cons_option, range_with_len}
use Rattle.std.specs.Option.{option_map_or}
use Rattle.std.specs.Str.{bytes_eq}
use Rattle.std.proofs.Common.{refl, ap, sym, ◌∙◌, arith}
use Rattle.std.proofs.lemmas.Bool.{or_left, or_right, and_from, both_ways}
use Rattle.std.proofs.lemmas.Bool.Decides.{Decides-eqb}
use Rattle.std.proofs.lemmas.Option.{slice_get_within}
use Rattle.std.proofs.lemmas.Slice.Eq.{bytes_eq-Decides}
use Rattle.jl_class.specs.Class.{Method}
use Rattle.jl_types.specs.declared.ids.MethodId.{MethodId}
use Rattle.jl_types.specs.declared.answer.Outcome.TheVariants.{Run, Throws}
use Rattle.jl_types.specs.declared.answer.Throwable.TheVariants.{AbstractMethodError}
use Rattle.jl_types.specs.Values.World.{Class, Classes}
use Rattle.jl_types.specs.Values.Members.{is_private, is_abstract, is_called, methods_of, method_at, declared}
use Rattle.jl_types.specs.Values.Ancestry.{superclass_of, superclasses, is_subclass, AreOrdered}
use Rattle.jl_types.specs.Linkage.Resolution.{first_element, declared_upward}
use Rattle.jl_types.specs.Linkage.Overriding.{can_override}
use Rattle.jl_types.specs.Linkage.Selection.{ending, virtual_outcome}
use Rattle.jl_types.proofs.Bools.{any-map, any-range-from, first_test, second_test}
use Rattle.jl_hierarchy.proofs.Chains.{chain_above}
use Rattle.jl_hierarchy.proofs.Closed.{any_at}
use Rattle.jl_hierarchy.proofs.Lines.{down_line}
use Rattle.jl_select.specs.ForProofs.Walks.{own_passing, first_passing}
use Rattle.jl_select.proofs.Choices.{chosen_found}
use Rattle.jl_select.proofs.Upward.{upward}
use Rattle.jl_report.specs.Finals.{is_final_method, superclasses_above, overrides_in, overrides_above, overrides_final, some_overrides_final}
use Rattle.jl_report.proofs.ResolvedLaws.{declared_called}

-- a test of all numbers that fails fails of each
none_at : (f : ℕ → Bool) (n i : ℕ) → list_any f (range_with_len 0 n) ≡ false → i < n → f i ≡ false
none_at f n i none lt = by_test (f i) refl
  where
    by_test : (b : Bool) → f i ≡ b → b ≡ false
    by_test false is = refl
    by_test true is = absurd (both_ways (list_any f (range_with_len 0 n)) none (any-range-from f 0 n i (omega arith) (omega arith) is))

-- ---- what is first declared upward

module _ (cs : Classes) (name ty : List ℕ) where
  -- it stands in a class of the line, as its method of that name and descriptor
  pub first_declared : (xs : List ℕ) (m : MethodId) → first_element (filter_map (declared cs name ty) xs) ≡ Some m
      → (list_any (λ k. k == m.class) xs ≡ true) × (declared cs name ty m.class ≡ Some m)
  first_declared [] m e = cc
  first_declared (x ∷ xs) m e = by_own (declared cs name ty x) refl e (first_declared xs m)
    where
      by_own : (o : Option MethodId) → declared cs name ty x ≡ o → first_element (cons_option o (filter_map (declared cs name ty) xs)) ≡ Some m
          → (first_element (filter_map (declared cs name ty) xs) ≡ Some m
          → (list_any (λ k. k == m.class) xs ≡ true) × (declared cs name ty m.class ≡ Some m))
          → (((x == m.class) || list_any (λ k. k == m.class) xs) ≡ true) × (declared cs name ty m.class ≡ Some m)
      by_own None is e rest =
          let more = rest e in (or_right (x == m.class) (list_any (λ k. k == m.class) xs) more.0, more.1)
      by_own (Some k) is e rest =
          let same : k ≡ m = cc in
          let own : declared cs name ty x ≡ Some m = is ∙ ap Some same in
          let here = (declared_called cs name ty x m own).0 in (
            or_left (x == m.class) (list_any (λ k. k == m.class) xs) ((Decides-eqb x m.class).1 (sym here)),
            ap (declared cs name ty) here ∙ own,
          )

stays_first : (test : MethodId → Bool) (ms : List MethodId) (m : MethodId) → first_element ms ≡ Some m → test m ≡ true
    → first_element (filter test ms) ≡ Some m
stays_first test [] m e h = cc
stays_first test (k ∷ ms) m e h =
    let same : k ≡ m = cc in ap (λ (b : Bool). first_element (cond b (k ∷ filter test ms) (filter test ms))) (ap test same ∙ h) ∙ e

-- ---- what the class c declares overrides no FINAL method above it

module _ (cs : Classes) (name ty : List ℕ) (c s : ℕ) (up : superclass_of cs c ≡ Some s) (m : MethodId) (final : is_final_method cs m ≡ true)
    (above : is_subclass cs s m.class ≡ true) (own : declared cs name ty m.class ≡ Some m) (none : overrides_final cs c ≡ false) where
  -- a method of that name and descriptor in c
  module _ (g : MethodId) (here : declared cs name ty c ≡ Some g) where
    breaks : (method : Method) → method_at cs g ≡ Some method → is_called name ty method ≡ true → can_override cs g m ≡ true → overrides_final cs c ≡ true
    breaks method at called can =
        let in_c = (declared_called cs name ty c g here).0 in
        let names = (bytes_eq-Decides method.name name).0 (first_test (bytes_eq method.name name) (bytes_eq method.ty ty) called) in
        let types = (bytes_eq-Decides method.ty ty).0 (second_test (bytes_eq method.name name) (bytes_eq method.ty ty) called) in
        let found : declared cs method.name method.ty m.class ≡ Some m = (λ i. declared cs (names i) (types i) m.class) ∙ own in
        let meets : overrides_in cs g method.name method.ty m.class ≡ true =
        ap (λ (o : Option MethodId). option_map_or (λ a. is_final_method cs a && can_override cs g a) o false) found
        ∙ and_from (is_final_method cs m) (can_override cs g m) final can
        in
        let line : list_any (overrides_in cs g method.name method.ty) (superclasses_above cs g.class) ≡ true =
        ap (λ (k : ℕ). list_any (overrides_in cs g method.name method.ty) (superclasses_above cs k)) in_c
        ∙ ap (λ (o : Option ℕ). list_any (overrides_in cs g method.name method.ty) (option_map_or (superclasses cs) o [])) up
        ∙ any_at (overrides_in cs g method.name method.ty) m.class (superclasses cs s) meets above
        in
        let is_g : ◌≡◌ {A = MethodId} (record { class = c; index = g.index }) g = λ i. record { class = sym in_c i; index = g.index } in
        let passes : overrides_above cs (record { class = c; index = g.index }) ≡ true =
        ap (overrides_above cs) is_g
        ∙ ap (λ (o : Option Method). option_map_or (λ n. list_any (overrides_in cs g n.name n.ty) (superclasses_above cs g.class)) o false) at
        ∙ line
        in
        let within : g.index < length (methods_of cs c) =
        slice_get_within (methods_of cs c) g.index method (ap (λ (k : ℕ). slice_get (methods_of cs k) g.index) (sym in_c) ∙ at) in
        any-map (overrides_above cs) (λ j. record { class = c; index = j }) (range_with_len 0 (length (methods_of cs c)))
        ∙ any-range-from (λ j. overrides_above cs (record { class = c; index = j })) 0 (length (methods_of cs c)) g.index (omega arith) (omega arith) passes

    cannot : can_override cs g m ≡ false
    cannot = by_test (can_override cs g m) refl
      where
        by_method : (o : Option Method) → method_at cs g ≡ o → option_map_or (is_called name ty) o false ≡ true → can_override cs g m ≡ true
            → overrides_final cs c ≡ true
        by_method None at called can = cc
        by_method (Some method) at called can = breaks method at called can

        by_test : (b : Bool) → can_override cs g m ≡ b → b ≡ false
        by_test false is = refl
        by_test true is =
            absurd (both_ways (overrides_final cs c) none (by_method (method_at cs g) refl (declared_called cs name ty c g here).1 is))

  none_passes : own_passing (λ k. can_override cs k m) cs name ty c ≡ None
  none_passes = by_own (declared cs name ty c) refl
    where
      by_own : (o : Option MethodId) → declared cs name ty c ≡ o → option_and_then (λ k. if can_override cs k m then Some k else None) o ≡ None
      by_own None is = refl
      by_own (Some g) is = ap (λ (b : Bool). if b then Some g else None) (cannot g is)

-- ---- below a class

module _ (cs : Classes) (o : AreOrdered cs.rows) (none : some_overrides_final cs ≡ false) (c : ℕ) (m : MethodId) (own : Method)
    (at : method_at cs m ≡ Some own) (first : declared_upward cs own.name own.ty c ≡ Some m) (final : is_final_method cs m ≡ true)
    (itself : can_override cs m m ≡ true) (shared : is_private cs m ≡ false) (whole : is_abstract cs m ≡ false) where
  abbrev Comes : ℕ → Type 0
  Comes x = (first_passing (λ k. can_override cs k m) cs own.name own.ty (superclasses cs x) ≡ Some m) × (is_subclass cs x m.class ≡ true)

  there : (x s : ℕ) → superclass_of cs x ≡ Some s → x < length cs.rows
  there x s = by_row (slice_get cs.rows x) refl
    where
      by_row : (r : Option Class) → slice_get cs.rows x ≡ r → option_and_then (λ row. row.superclass) r ≡ Some s → x < length cs.rows
      by_row None is e = cc
      by_row (Some row) is e = slice_get_within cs.rows x row is

  comes : (x : ℕ) → is_subclass cs x c ≡ true → Comes x
  comes =
      let here = first_declared cs own.name own.ty (superclasses cs c) m first in
      down_line cs o c Comes (
        stays_first (λ k. can_override cs k m) (filter_map (declared cs own.name own.ty) (superclasses cs c)) m first itself,
        here.0,
      )
      (λ x s up apart below next. (
        upward (λ k. can_override cs k m) cs own.name own.ty x o s
            (none_passes cs own.name own.ty x s up m final next.1 here.1 (none_at (overrides_final cs) (length cs.rows) x none (there x s up))) up
            ∙ next.0,
        ap (list_any (λ k. k == m.class)) (chain_above cs o x s up) ∙ or_right (x == m.class) (is_subclass cs s m.class) next.1,
      ))

  pub runs_final : (x : ℕ) → is_subclass cs x c ≡ true → virtual_outcome cs x m ≡ Run m
  runs_final x below =
      ap (ending cs) (sym (chosen_found cs x m own m shared at (sym (comes x below).0)))
      ∙ ap (λ (b : Bool). if b then Throws AbstractMethodError else Run m) whole
