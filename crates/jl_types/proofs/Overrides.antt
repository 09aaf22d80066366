-- The test of overriding says what the least relation says, if parents come first.
use Rattle.std.specs.Prelude.{◌≡◌, ℕ, zero, suc, ◌+◌, ◌<◌, ◌≤◌, Bool, true, false, ◌||◌, ◌&&◌, length, Option, Some, None, Decides}
use Rattle.std.specs.List.{list_any, range_with_len}
use Rattle.std.specs.Option.{option_map_or}
use Rattle.std.proofs.Common.{refl, sym, ◌∙◌, arith, inl, inr}
use Rattle.std.proofs.lemmas.Bool.{or_right, or_left, or_cases, and_parts, and_from}
use Rattle.jl_class.specs.Class.{Method}
use Rattle.jl_types.specs.declared.ids.MethodId.{MethodId}
use Rattle.jl_types.specs.Values.World.{Classes}
use Rattle.jl_types.specs.Values.Members.{methods_of, method_at, method_test, is_called, is_package_private}
use Rattle.jl_types.specs.Values.Ancestry.{superclasses, is_subclass, is_proper_subclass, AreOrdered}
use Rattle.jl_types.specs.Linkage.Overriding.{are_alike, is_visible, CanOverride, directly, through, classes_between, methods_in, can_override_within}
use Rattle.jl_types.specs.Linkage.Overriding.{can_override}
use Rattle.jl_types.proofs.Bools.{Passing, any-filter, any-filter-at, any-map, any-range-to, any-range-from}
use Rattle.jl_types.proofs.Ancestors.{subclass_above}
use Rattle.jl_types.proofs.Lists.{passes_within}

module _ (cs : Classes) where
  -- c can override a by a method of the class k, as the test has it
  abbrev by_class : ℕ → MethodId → MethodId → ℕ → Bool
  by_class n c a k = list_any (λ b. can_override_within n cs c b && can_override_within n cs b a) (methods_in cs k)

  abbrev between : MethodId → MethodId → ℕ → Bool
  between c a k = is_proper_subclass cs c.class k && is_proper_subclass cs k a.class

  -- ---- the test is sound

  by_method : (n : ℕ) (c a : MethodId) → ((c a : MethodId) → can_override_within n cs c a ≡ true → CanOverride cs c a) → are_alike cs c a ≡ true
      → is_package_private cs a ≡ true → (k i : ℕ) → between c a k ≡ true
      → (can_override_within n cs c (record { class = k; index = i }) && can_override_within n cs (record { class = k; index = i }) a) ≡ true
      → CanOverride cs c a
  by_method n c a ih alike flagless k i bt h =
      let b : MethodId = record { class = k; index = i } in
      let places = and_parts (is_proper_subclass cs c.class k) (is_proper_subclass cs k a.class) bt in
      let both = and_parts (can_override_within n cs c b) (can_override_within n cs b a) h in
      through alike flagless b places.0 places.1 (ih c b both.0) (ih b a both.1)

  by_between : (n : ℕ) (c a : MethodId) → ((c a : MethodId) → can_override_within n cs c a ≡ true → CanOverride cs c a) → are_alike cs c a ≡ true
      → is_package_private cs a ≡ true → Passing (between c a) (by_class n c a) → CanOverride cs c a
  by_between n c a ih alike flagless r =
      let passes = λ (i : ℕ). can_override_within n cs c (record { class = r.item; index = i })
      && can_override_within n cs (record { class = r.item; index = i }) a in
      let some =
      any-range-to passes 0 (length (methods_of cs r.item))
      (sym
      (any-map (λ b. can_override_within n cs c b && can_override_within n cs b a) (λ i. record { class = r.item; index = i })
      (range_with_len 0 (length (methods_of cs r.item))))
      ∙ r.passes)
      in
      by_method n c a ih alike flagless r.item some.0 r.meets some.1

  sound : (n : ℕ) (c a : MethodId) → can_override_within n cs c a ≡ true → CanOverride cs c a
  sound zero c a h = cc
  sound (suc n) c a h =
      let alike = and_parts (are_alike cs c a) (is_visible cs c a || (is_package_private cs a
      && list_any (by_class n c a) (classes_between cs c.class a.class))) h in
      elim (or_cases (is_visible cs c a) (is_package_private cs a && list_any (by_class n c a) (classes_between cs c.class a.class)) alike.1) [
        | inl visible ↦ directly alike.0 visible
        | inr more ↦ (
            let both = and_parts (is_package_private cs a) (list_any (by_class n c a) (classes_between cs c.class a.class)) more in
            by_between n c a (sound n) alike.0 both.0 (any-filter (between c a) (by_class n c a) (superclasses cs c.class) both.1))
      ]

  -- ---- the test is complete

  pub alike_of : {c a : MethodId} → CanOverride cs c a → are_alike cs c a ≡ true
  alike_of (directly alike visible) = alike
  alike_of (through alike flagless b below above r s) = alike

  -- an outer test that passes has passed the inner one
  inner : (o : Option Method) (test : Method → Method → Bool) (p : Option Method) → option_map_or (λ m. option_map_or (test m) p false) o false ≡ true
      → option_map_or (λ m. true) p false ≡ true
  inner None test p h = cc
  inner (Some m) test None h = cc
  inner (Some m) test (Some n) h = refl

  is_there : (c b : MethodId) → are_alike cs c b ≡ true → b.index < length (methods_of cs b.class)
  is_there c b h =
      let parts = and_parts _ (method_test (λ m. method_test (is_called m.name m.ty) cs b) cs c) h in
      passes_within (λ m. true) (methods_of cs b.class) b.index (inner (method_at cs c) (λ m. is_called m.name m.ty) (method_at cs b) parts.1)

  module _ (o : AreOrdered cs.rows) where
    by_way : (n : ℕ) (c a b : MethodId) → are_alike cs c b ≡ true → is_proper_subclass cs c.class b.class ≡ true
        → is_proper_subclass cs b.class a.class ≡ true → can_override_within n cs c b ≡ true → can_override_within n cs b a ≡ true
        → list_any (by_class n c a) (classes_between cs c.class a.class) ≡ true
    by_way n c a b alike below above r s =
        let passes = λ (i : ℕ). can_override_within n cs c (record { class = b.class; index = i })
        && can_override_within n cs (record { class = b.class; index = i }) a in
        let some =
        any-range-from passes 0 (length (methods_of cs b.class)) b.index (omega arith) (let lt = is_there c b alike in omega arith)
        (and_from (can_override_within n cs c b) (can_override_within n cs b a) r s)
        in
        any-filter-at (between c a) (by_class n c a) b.class (superclasses cs c.class)
        (and_parts _ (is_subclass cs c.class b.class) below).1
        (and_from (is_proper_subclass cs c.class b.class) (is_proper_subclass cs b.class a.class) below above)
        (any-map (λ b. can_override_within n cs c b && can_override_within n cs b a) (λ i. record { class = b.class; index = i })
        (range_with_len 0 (length (methods_of cs b.class))) ∙ some)

    complete : (n : ℕ) {c a : MethodId} → c.class < n + a.class → 1 ≤ n → CanOverride cs c a → can_override_within n cs c a ≡ true
    complete zero h k r = absurd (omega arith)
    complete (suc n) {c = c} {a = a} h k (directly alike visible) =
        and_from (are_alike cs c a) _ alike (or_left (is_visible cs c a) _ visible)
    complete (suc n) {c = c} {a = a} h k (through alike flagless b below above r s) =
        let lower = subclass_above cs o c.class b.class below in
        let upper = subclass_above cs o b.class a.class above in
        let first = complete n {c = c} {a = b} (omega arith) (omega arith) r in
        let second = complete n {c = b} {a = a} (omega arith) (omega arith) s in
        and_from (are_alike cs c a) _ alike (or_right (is_visible cs c a) _
        (and_from (is_package_private cs a) _ flagless (by_way n c a b (alike_of r) below above first second)))

pub can_override_decides : (cs : Classes) → AreOrdered cs.rows → (c a : MethodId) → Decides (can_override cs c a) (CanOverride cs c a)
can_override_decides cs o c a = (sound cs (c.class + 1) c a, λ r. complete cs o (c.class + 1) {c = c} {a = a} (omega arith) (omega arith) r)
