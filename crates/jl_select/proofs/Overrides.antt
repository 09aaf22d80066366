-- One walk decides whether a method can override another one.
use Rattle.std.specs.Prelude.{◌≡◌, ℕ, suc, Bool, true, false, not, ◌&&◌, ◌||◌, ◌+◌, ◌⊎◌, List, [], ◌∷◌, slice_get, Option, Some, None, Decides}
use Rattle.std.specs.List.{list_any}
use Rattle.std.specs.Option.{option_map_or}
use Rattle.std.specs.Str.{bytes_eq}
use Rattle.std.proofs.Common.{refl, ap, sym, ◌∙◌, arith, inl, inr}
use Rattle.std.proofs.lemmas.Bool.Decides.{same_from_decides}
use Rattle.std.proofs.lemmas.Bool.{or_cases, and_parts, and_from}
use Rattle.std.proofs.lemmas.Map.Keys.{any_passes_from_place}
use Rattle.jl_class.specs.Class.{Method}
use Rattle.jl_class.specs.Flags.{has_flag, PUBLIC, PRIVATE, PROTECTED, STATIC}
use Rattle.jl_types.specs.declared.ids.MethodId.{MethodId}
use Rattle.jl_types.specs.Values.World.{Classes}
use Rattle.jl_types.specs.Values.Members.{method_at, methods_of, method_test, is_called, is_package_private, same_package}
use Rattle.jl_types.specs.Values.Ancestry.{AreOrdered}
use Rattle.jl_types.specs.Linkage.Overriding.{are_alike, is_visible, can_override, IsBridged}
use Rattle.jl_types.proofs.Overrides.{can_override_decides}
use Rattle.jl_types.proofs.Walks.{by_one_walk, proper_onward}
use Rattle.jl_select.specs.ForProofs.Walks.{are_alike_methods, is_bridge, has_bridge, above, bridged_before}
use Rattle.jl_select.proofs.Bridges.{IsBetween, walk_finds, walk_ends}

pub alike_is : (cs : Classes) (c a : MethodId) (m n : Method) → method_at cs c ≡ Some m → method_at cs a ≡ Some n → are_alike cs c a ≡ are_alike_methods m n
alike_is cs c a m n e f =
    rw (e, f) (assoc (not (has_flag m.flags STATIC)) (not (has_flag n.flags STATIC)) (not (has_flag m.flags PRIVATE))
    (bytes_eq n.name m.name && bytes_eq n.ty m.ty))
  where
    assoc : (x y z t : Bool) → ((x && (y && z)) && t) ≡ (x && (y && (z && t)))
    assoc true true z t = refl
    assoc true false z t = refl
    assoc false y z t = refl

-- methods that are alike are there
pub alike_there : (cs : Classes) (c a : MethodId) → are_alike cs c a ≡ true
    → ((m : Method) × (method_at cs c ≡ Some m)) × ((n : Method) × (method_at cs a ≡ Some n))
alike_there cs c a h =
    by_methods (method_at cs c) (method_at cs a) refl refl (and_parts _ (method_test (λ m. method_test (is_called m.name m.ty) cs a) cs c) h).1
  where
    by_methods : (m n : Option Method) → method_at cs c ≡ m → method_at cs a ≡ n
        → option_map_or (λ m. option_map_or (is_called m.name m.ty) n false) m false ≡ true
        → ((m : Method) × (method_at cs c ≡ Some m)) × ((n : Method) × (method_at cs a ≡ Some n))
    by_methods None n e f h = cc
    by_methods (Some m) None e f h = cc
    by_methods (Some m) (Some n) e f h = ((m, e), (n, f))

place_of_any : {A : Type 0} (f : A → Bool) (xs : List A) → list_any f xs ≡ true → (i : ℕ) × (x : A) × (slice_get xs i ≡ Some x) × (f x ≡ true)
place_of_any f [] h = cc
place_of_any {A = A} f (x ∷ xs) h = elim (or_cases (f x) (list_any f xs) h) [
  | inl here ↦ (0, x, refl, here)
  | inr more ↦ later (place_of_any f xs more)
]
  where
    later : (i : ℕ) × (y : A) × (slice_get xs i ≡ Some y) × (f y ≡ true) → (i : ℕ) × (y : A) × (slice_get (x ∷ xs) i ≡ Some y) × (f y ≡ true)
    later r = (suc r.0, r.1, r.2, r.3)

flag_at : (cs : Classes) (test : Method → Bool) (b : MethodId) (m : Method) → method_at cs b ≡ Some m → method_test test cs b ≡ test m
flag_at cs test b m e = ap (λ (o : Option Method). option_map_or test o false) e

module _ (cs : Classes) (o : AreOrdered cs.rows) (c a : MethodId) (n : Method) (f : method_at cs a ≡ Some n) where
  -- a bridge, by its class
  between : IsBridged cs c a → IsBetween cs a.class (has_bridge cs a.class n) c.class
  between b =
      let there = (alike_there cs b.method a b.alike).0 in
      let m = there.0 in
      let alike = sym (alike_is cs b.method a m n there.1 f) ∙ b.alike in
      let open_flags : (has_flag m.flags PUBLIC || has_flag m.flags PROTECTED) ≡ true =
      sym (λ i. flag_at cs (λ x. has_flag x.flags PUBLIC) b.method m there.1 i || flag_at cs (λ x. has_flag x.flags PROTECTED) b.method m there.1 i) ∙ b.visible
      in record {
        number = b.method.class;
        below = b.below;
        above = b.above;
        passes =
            and_from (same_package cs a.class b.method.class) _ b.package_is
            (any_passes_from_place (is_bridge n) (methods_of cs b.method.class) b.method.index m there.1
            (and_from (are_alike_methods m n) _ alike open_flags));
      }

  bridge_of : IsBetween cs a.class (has_bridge cs a.class n) c.class → IsBridged cs c a
  bridge_of b =
      let both = and_parts (same_package cs a.class b.number) (list_any (is_bridge n) (methods_of cs b.number)) b.passes in
      let r = place_of_any (is_bridge n) (methods_of cs b.number) both.1 in
      let id : MethodId = record { class = b.number; index = r.0 } in
      let m = r.1 in
      let parts = and_parts (are_alike_methods m n) (has_flag m.flags PUBLIC || has_flag m.flags PROTECTED) r.3 in
      record {
        method = id;
        below = b.below;
        above = b.above;
        package_is = both.0;
        alike = alike_is cs id a m n r.2 f ∙ parts.0;
        visible =
            (λ i. flag_at cs (λ x. has_flag x.flags PUBLIC) id m r.2 i || flag_at cs (λ x. has_flag x.flags PROTECTED) id m r.2 i) ∙ parts.1;
      }

  found_bridge : (false ≡ true) ⊎ IsBetween cs a.class (has_bridge cs a.class n) c.class → IsBridged cs c a
  found_bridge (inl h) = cc
  found_bridge (inr b) = bridge_of b

  bridged_decides : Decides (bridged_before a.class (has_bridge cs a.class n) false (above cs c.class)) (IsBridged cs c a)
  bridged_decides = (
    λ h. found_bridge (walk_finds cs o a.class (has_bridge cs a.class n) (c.class + 1) c.class (omega arith) false h).1,
    λ b.
        walk_ends cs o a.class (has_bridge cs a.class n) (c.class + 1) c.class (omega arith) false
        (proper_onward cs o c.class b.method.class a.class b.below b.above) (inr (between b)),
  )

  -- where a isn't visible, one walk tells
  pub hidden_is : are_alike cs c a ≡ true → is_visible cs c a ≡ false
      → can_override cs c a ≡ (is_package_private cs a && bridged_before a.class (has_bridge cs a.class n) false (above cs c.class))
  hidden_is alike hidden =
      let walk = by_one_walk cs o c a alike hidden in
      let test = bridged_before a.class (has_bridge cs a.class n) false (above cs c.class) in
      same_from_decides (can_override cs c a) (is_package_private cs a && test) (can_override_decides cs o c a) (
        λ h. let both = and_parts (is_package_private cs a) test h in walk.1 (both.0, bridged_decides.0 both.1),
        λ r. let both = walk.0 r in and_from (is_package_private cs a) test both.0 (bridged_decides.1 both.1),
      )
