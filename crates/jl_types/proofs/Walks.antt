-- Overriding is decided in one walk upward: methods without access flag between the two add nothing.
use Rattle.std.specs.Prelude.{◌≡◌, ◌↔◌, ℕ, zero, suc, ◌+◌, ◌<◌, ◌==◌, Bool, true, false, not, ◌&&◌, ◌||◌, ◌⊎◌, [], slice_get, Option, Some, None}
use Rattle.std.specs.List.{list_any}
use Rattle.std.specs.Option.{option_map_or}
use Rattle.std.specs.Str.{bytes_eq}
use Rattle.std.proofs.Common.{refl, ap, sym, ◌∙◌, arith, add-one, inl, inr}
use Rattle.std.proofs.lemmas.Bool.Decides.{Decides-eqb}
use Rattle.std.proofs.lemmas.Slice.Eq.{bytes_eq-Decides}
use Rattle.std.proofs.lemmas.Bool.{or_right, or_left, or_cases, and_parts, and_from, both_ways, not-true}
use Rattle.std.proofs.lemmas.Option.{same_Some}
use Rattle.jl_names.specs.ClassNames.{package_of}
use Rattle.jl_class.specs.Class.{Method}
use Rattle.jl_types.specs.declared.ids.MethodId.{MethodId}
use Rattle.jl_types.specs.Values.World.{Class, Classes}
use Rattle.jl_types.specs.Values.Members.{method_at, method_test, is_called, is_public, is_private, is_protected, is_static, is_package_private}
use Rattle.jl_types.specs.Values.Members.{share_package, same_package}
use Rattle.jl_types.specs.Values.Ancestry.{superclasses, is_subclass, is_proper_subclass, AreOrdered}
use Rattle.jl_types.specs.Linkage.Overriding.{are_alike, is_visible, CanOverride, directly, through, IsBridged}
use Rattle.jl_types.proofs.Ancestors.{superclass_below, superclasses_is, subclass_above}
use Rattle.jl_types.proofs.Overrides.{alike_of}

-- ---- run-time packages

record SharesPackage (cs : Classes) (c d : ℕ) : Type 0 where
  first : Class
  second : Class
  first_is : slice_get cs.rows c ≡ Some first
  second_is : slice_get cs.rows d ≡ Some second
  loader : first.loader ≡ second.loader
  package_is : package_of first.file.name ≡ package_of second.file.name

module _ (cs : Classes) where
  shares : (c d : ℕ) → same_package cs c d ≡ true → SharesPackage cs c d
  shares c d h = by_rows (slice_get cs.rows c) (slice_get cs.rows d) refl refl h
    where
      by_rows : (r s : Option Class) → slice_get cs.rows c ≡ r → slice_get cs.rows d ≡ s
          → option_map_or (λ a. option_map_or (share_package a) s false) r false ≡ true → SharesPackage cs c d
      by_rows None s e f h = cc
      by_rows (Some a) None e f h = cc
      by_rows (Some a) (Some b) e f h =
          let both = and_parts (a.loader == b.loader) (bytes_eq (package_of a.file.name) (package_of b.file.name)) h in
          record {
            first = a;
            second = b;
            first_is = e;
            second_is = f;
            loader = (Decides-eqb a.loader b.loader).0 both.0;
            package_is = (bytes_eq-Decides (package_of a.file.name) (package_of b.file.name)).0 both.1;
          }

  shared : (c d : ℕ) → SharesPackage cs c d → same_package cs c d ≡ true
  shared c d h =
      (λ i. option_map_or (λ a. option_map_or (share_package a) (h.second_is i) false) (h.first_is i) false)
      ∙ and_from (h.first.loader == h.second.loader) (bytes_eq (package_of h.first.file.name) (package_of h.second.file.name))
      ((Decides-eqb h.first.loader h.second.loader).1 h.loader)
      ((bytes_eq-Decides (package_of h.first.file.name) (package_of h.second.file.name)).1 h.package_is)

  pub package_onward : (c d e : ℕ) → same_package cs c d ≡ true → same_package cs d e ≡ true → same_package cs c e ≡ true
  package_onward c d e h k =
      let p = shares c d h in
      let q = shares d e k in
      let same : p.second ≡ q.first = same_Some p.second q.first (sym p.second_is ∙ q.first_is) in
      shared c e (record {
        first = p.first;
        second = q.second;
        first_is = p.first_is;
        second_is = q.second_is;
        loader = p.loader ∙ ap (λ (r : Class). r.loader) same ∙ q.loader;
        package_is = p.package_is ∙ ap (λ (r : Class). package_of r.file.name) same ∙ q.package_is;
      })

-- ---- methods that are alike

record HaveOneName (cs : Classes) (c a : MethodId) : Type 0 where
  first : Method
  second : Method
  first_is : method_at cs c ≡ Some first
  second_is : method_at cs a ≡ Some second
  name : second.name ≡ first.name
  ty : second.ty ≡ first.ty

module _ (cs : Classes) where
  named : (c a : MethodId) → method_test (λ m. method_test (is_called m.name m.ty) cs a) cs c ≡ true → HaveOneName cs c a
  named c a h = by_methods (method_at cs c) (method_at cs a) refl refl h
    where
      by_methods : (m n : Option Method) → method_at cs c ≡ m → method_at cs a ≡ n
          → option_map_or (λ m. option_map_or (is_called m.name m.ty) n false) m false ≡ true → HaveOneName cs c a
      by_methods None n e f h = cc
      by_methods (Some m) None e f h = cc
      by_methods (Some m) (Some n) e f h =
          let both = and_parts (bytes_eq n.name m.name) (bytes_eq n.ty m.ty) h in
          record {
            first = m;
            second = n;
            first_is = e;
            second_is = f;
            name = (bytes_eq-Decides n.name m.name).0 both.0;
            ty = (bytes_eq-Decides n.ty m.ty).0 both.1;
          }

  names : (c a : MethodId) → HaveOneName cs c a → method_test (λ m. method_test (is_called m.name m.ty) cs a) cs c ≡ true
  names c a h =
      (λ i. option_map_or (λ m. option_map_or (is_called m.name m.ty) (h.second_is i) false) (h.first_is i) false)
      ∙ and_from (bytes_eq h.second.name h.first.name) (bytes_eq h.second.ty h.first.ty) ((bytes_eq-Decides h.second.name h.first.name).1 h.name)
      ((bytes_eq-Decides h.second.ty h.first.ty).1 h.ty)

  -- c and b both like a
  alike_both : (c b a : MethodId) → are_alike cs c a ≡ true → are_alike cs b a ≡ true → are_alike cs c b ≡ true
  alike_both c b a h k =
      let p = and_parts (not (is_static cs c) && (not (is_static cs a) && not (is_private cs c))) _ h in
      let q = and_parts (not (is_static cs b) && (not (is_static cs a) && not (is_private cs b))) _ k in
      let first = and_parts (not (is_static cs c)) (not (is_static cs a) && not (is_private cs c)) p.0 in
      let second = and_parts (not (is_static cs b)) (not (is_static cs a) && not (is_private cs b)) q.0 in
      let private = and_parts (not (is_static cs a)) (not (is_private cs c)) first.1 in
      let m = named c a p.1 in
      let n = named b a q.1 in
      let same : m.second ≡ n.second = same_Some m.second n.second (sym m.second_is ∙ n.second_is) in
      and_from (not (is_static cs c) && (not (is_static cs b) && not (is_private cs c))) _
      (and_from (not (is_static cs c)) _ first.0 (and_from (not (is_static cs b)) _ second.0 private.1))
      (names c b (record {
        first = m.first;
        second = n.first;
        first_is = m.first_is;
        second_is = n.first_is;
        name = sym n.name ∙ sym (ap (λ (x : Method). x.name) same) ∙ m.name;
        ty = sym n.ty ∙ sym (ap (λ (x : Method). x.ty) same) ∙ m.ty;
      }))

  -- c like b, and b like a
  alike_onward : (c b a : MethodId) → are_alike cs c b ≡ true → are_alike cs b a ≡ true → are_alike cs c a ≡ true
  alike_onward c b a h k =
      let p = and_parts (not (is_static cs c) && (not (is_static cs b) && not (is_private cs c))) _ h in
      let q = and_parts (not (is_static cs b) && (not (is_static cs a) && not (is_private cs b))) _ k in
      let first = and_parts (not (is_static cs c)) (not (is_static cs b) && not (is_private cs c)) p.0 in
      let second = and_parts (not (is_static cs b)) (not (is_static cs a) && not (is_private cs b)) q.0 in
      let private = and_parts (not (is_static cs b)) (not (is_private cs c)) first.1 in
      let instance = and_parts (not (is_static cs a)) (not (is_private cs b)) second.1 in
      let m = named c b p.1 in
      let n = named b a q.1 in
      let same : m.second ≡ n.first = same_Some m.second n.first (sym m.second_is ∙ n.first_is) in
      and_from (not (is_static cs c) && (not (is_static cs a) && not (is_private cs c))) _
      (and_from (not (is_static cs c)) _ first.0 (and_from (not (is_static cs a)) _ instance.0 private.1))
      (names c a (record {
        first = m.first;
        second = n.second;
        first_is = m.first_is;
        second_is = n.second_is;
        name = n.name ∙ sym (ap (λ (x : Method). x.name) same) ∙ m.name;
        ty = n.ty ∙ sym (ap (λ (x : Method). x.ty) same) ∙ m.ty;
      }))

  not_private : (b a : MethodId) → are_alike cs b a ≡ true → is_private cs b ≡ false
  not_private b a h =
      let p = and_parts (not (is_static cs b) && (not (is_static cs a) && not (is_private cs b))) _ h in
      let q = and_parts (not (is_static cs b)) (not (is_static cs a) && not (is_private cs b)) p.0 in
      not-true (is_private cs b) (and_parts (not (is_static cs a)) (not (is_private cs b)) q.1).1

-- ---- chains of superclasses

module _ (cs : Classes) (o : AreOrdered cs.rows) where
  onward_at : (n x y z : ℕ) → x < n → is_subclass cs x y ≡ true → is_subclass cs y z ≡ true → is_subclass cs x z ≡ true
  onward_at zero x y z lt h k = absurd (omega arith)
  onward_at (suc n) x y z lt h k = by_row (slice_get cs.rows x) refl (onward_at n)
    where
      none_there : slice_get cs.rows x ≡ None → is_subclass cs x y ≡ false
      none_there e = rw (add-one x, e) refl

      by_superclass : (row : Class) → slice_get cs.rows x ≡ Some row
          → ((x y z : ℕ) → x < n → is_subclass cs x y ≡ true → is_subclass cs y z ≡ true → is_subclass cs x z ≡ true) → (s : Option ℕ)
          → row.superclass ≡ s → list_any (λ c. c == y) (option_map_or (superclasses cs) s []) ≡ true
          → list_any (λ c. c == z) (option_map_or (superclasses cs) s []) ≡ true
      by_superclass row e ih None is m = cc
      by_superclass row e ih (Some s) is m = let below = superclass_below cs.rows o x row e s is in ih s y z (omega arith) m k

      by_row : (r : Option Class) → slice_get cs.rows x ≡ r
          → ((x y z : ℕ) → x < n → is_subclass cs x y ≡ true → is_subclass cs y z ≡ true → is_subclass cs x z ≡ true) → is_subclass cs x z ≡ true
      by_row None e ih = absurd (both_ways (is_subclass cs x y) (none_there e) h)
      by_row (Some row) e ih =
          let chain = superclasses_is cs o x row e in
          elim (or_cases (x == y) (list_any (λ c. c == y) (option_map_or (superclasses cs) row.superclass [])) (sym (ap (list_any (λ c. c == y)) chain) ∙ h)) [
            | inl is ↦ ap (λ w. is_subclass cs w z) ((Decides-eqb x y).0 is) ∙ k
            | inr more ↦ (
                ap (list_any (λ c. c == z)) chain
                ∙ or_right (x == z) (list_any (λ c. c == z) (option_map_or (superclasses cs) row.superclass []))
                (by_superclass row e ih row.superclass refl more))
          ]

  pub proper_onward : (x y z : ℕ) → is_proper_subclass cs x y ≡ true → is_proper_subclass cs y z ≡ true → is_proper_subclass cs x z ≡ true
  proper_onward x y z h k =
      let p = and_parts (not (x == y)) (is_subclass cs x y) h in
      let q = and_parts (not (y == z)) (is_subclass cs y z) k in
      let upper = subclass_above cs o x y h in
      let lower = subclass_above cs o y z k in
      and_from (not (x == z)) (is_subclass cs x z) (differ (x == z) refl (omega arith)) (onward_at (x + 1) x y z (omega arith) p.1 q.1)
    where
      differ : (b : Bool) → (x == z) ≡ b → z < x → not b ≡ true
      differ true e lt = absurd (let same : x ≡ z = (Decides-eqb x z).0 e in omega arith)
      differ false e lt = refl

  -- ---- the walk

  seen_package : (c a : MethodId) → is_package_private cs a ≡ true → same_package cs a.class c.class ≡ true → is_visible cs c a ≡ true
  seen_package c a flagless p =
      or_right (is_public cs a) _ (or_right (is_protected cs a) _ (and_from (is_package_private cs a) (same_package cs a.class c.class) flagless p))

  -- the run-time package by which a method without access flag is visible
  package_of_visible : (c a : MethodId) → is_package_private cs a ≡ true → is_visible cs c a ≡ true → same_package cs a.class c.class ≡ true
  package_of_visible c a flagless v =
      let p = and_parts (not (is_public cs a)) (not (is_protected cs a) && not (is_private cs a)) flagless in
      let q = and_parts (not (is_protected cs a)) (not (is_private cs a)) p.1 in
      elim (or_cases (is_public cs a) (is_protected cs a || (is_package_private cs a && same_package cs a.class c.class)) v) [
        | inl public ↦ absurd (both_ways (is_public cs a) (not-true (is_public cs a) p.0) public)
        | inr more ↦ (
            elim (or_cases (is_protected cs a) (is_package_private cs a && same_package cs a.class c.class) more) [
              | inl protected ↦ absurd (both_ways (is_protected cs a) (not-true (is_protected cs a) q.0) protected)
              | inr both ↦ (and_parts (is_package_private cs a) (same_package cs a.class c.class) both).1
            ])
      ]

  flagless_of : (b a : MethodId) → are_alike cs b a ≡ true → (is_public cs b || is_protected cs b) ≡ false → is_package_private cs b ≡ true
  flagless_of b a alike closed = by_flags (is_public cs b) (is_protected cs b) (is_private cs b) closed (not_private cs b a alike)
    where
      by_flags : (p q r : Bool) → (p || q) ≡ false → r ≡ false → (not p && (not q && not r)) ≡ true
      by_flags true q r h k = cc
      by_flags false true r h k = cc
      by_flags false false true h k = cc
      by_flags false false false h k = refl

  module _ (c a b : MethodId) (flagless : is_package_private cs a ≡ true) (below : is_proper_subclass cs c.class b.class ≡ true)
      (above : is_proper_subclass cs b.class a.class ≡ true) (lower : are_alike cs c b ≡ true) (upper : are_alike cs b a ≡ true)
      (hidden : is_visible cs c a ≡ false) where
    -- b's bridge to a is one of c, too
    from_upper : IsBridged cs b a → IsBridged cs c a
    from_upper m = record {
      method = m.method;
      below = proper_onward c.class b.class m.method.class below m.below;
      above = m.above;
      package_is = m.package_is;
      alike = m.alike;
      visible = m.visible;
    }

    -- and so is c's to b, if b is in a's package
    from_lower : same_package cs a.class b.class ≡ true → IsBridged cs c b → IsBridged cs c a
    from_lower p m = record {
      method = m.method;
      below = m.below;
      above = proper_onward m.method.class b.class a.class m.above above;
      package_is = package_onward cs a.class b.class m.method.class p m.package_is;
      alike = alike_onward cs m.method b a m.alike upper;
      visible = m.visible;
    }

    in_package : same_package cs a.class b.class ≡ true → (is_visible cs c b ≡ false → IsBridged cs c b) → (w : Bool)
        → (is_public cs b || is_protected cs b) ≡ w → (v : Bool) → is_visible cs c b ≡ v → IsBridged cs c a
    in_package p rest true e v f = record { method = b; below = below; above = above; package_is = p; alike = upper; visible = e }
    in_package p rest false e false f = from_lower p (rest f)
    in_package p rest false e true f =
        let q = package_of_visible c b (flagless_of b a upper e) f in
        absurd (both_ways (is_visible cs c a) hidden (seen_package c a flagless (package_onward cs a.class b.class c.class p q)))

    bridge : (is_visible cs c b ≡ false → IsBridged cs c b) → (is_visible cs b a ≡ false → IsBridged cs b a) → (v : Bool) → is_visible cs b a ≡ v
        → IsBridged cs c a
    bridge lowest highest false e = from_upper (highest e)
    bridge lowest highest true e =
        in_package (package_of_visible b a flagless e) lowest (is_public cs b || is_protected cs b) refl (is_visible cs c b) refl

  bridged : {c a : MethodId} → CanOverride cs c a → is_visible cs c a ≡ false → IsBridged cs c a
  bridged {c = c} {a = a} (directly alike visible) hidden = absurd (both_ways (is_visible cs c a) hidden visible)
  bridged {c = c} {a = a} (through alike flagless b below above r s) hidden =
      bridge c a b flagless below above (alike_of cs r) (alike_of cs s) hidden (bridged r) (bridged s) (is_visible cs b a) refl

  flagless_through : {c a : MethodId} → CanOverride cs c a → is_visible cs c a ≡ false → is_package_private cs a ≡ true
  flagless_through {c = c} {a = a} (directly alike visible) hidden = absurd (both_ways (is_visible cs c a) hidden visible)
  flagless_through (through alike flagless b below above r s) hidden = flagless

  over_bridge : (c a : MethodId) → are_alike cs c a ≡ true → is_package_private cs a ≡ true → IsBridged cs c a → CanOverride cs c a
  over_bridge c a alike flagless m =
      through alike flagless m.method m.below m.above
      (directly (alike_both cs c m.method a alike m.alike) (seen_below (or_cases (is_public cs m.method) (is_protected cs m.method) m.visible)))
      (directly m.alike (seen_package m.method a flagless m.package_is))
    where
      seen_below : ((is_public cs m.method ≡ true) ⊎ (is_protected cs m.method ≡ true)) → is_visible cs c m.method ≡ true
      seen_below (inl public) = or_left (is_public cs m.method) _ public
      seen_below (inr protected) = or_right (is_public cs m.method) _ (or_left (is_protected cs m.method) _ protected)

  pub by_one_walk : (c a : MethodId) → are_alike cs c a ≡ true → is_visible cs c a ≡ false
      → CanOverride cs c a ↔ ((is_package_private cs a ≡ true) × IsBridged cs c a)
  by_one_walk c a alike hidden = (λ r. (flagless_through r hidden, bridged r hidden), λ both. over_bridge c a alike both.0 both.1)
