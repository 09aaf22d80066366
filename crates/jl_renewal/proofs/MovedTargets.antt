-- A target that the old core takes is taken in the fresh one, under new numbers.
use Rattle.std.specs.Prelude.{◌≡◌, ℕ, ◌+◌, ◌||◌, not, max, nat_le, nat_lt, Bool, false, List, [], ◌∷◌, slice_get}
use Rattle.std.specs.Prelude.{Option, Some, None, option_map, option_and_then, is_none, ◌&&◌}
use Rattle.std.specs.Bool.{then_some}
use Rattle.std.specs.Option.{option_map_or}
use Rattle.std.specs.Str.{bytes_eq}
use Rattle.std.proofs.Common.{refl, sym, ap, ◌∙◌}
use Rattle.std.proofs.lemmas.Bool.{lt-leb, leb-false}
use Rattle.std.proofs.lemmas.Option.{same_Some}
use Rattle.jl_class.specs.Flags.{has_flag, STATIC}
use Rattle.jl_class.specs.Special.{begins_special}
use Rattle.jl_types.specs.declared.ids.MethodId.{MethodId}
use Rattle.jl_types.specs.declared.refusal.CallSiteFault.TheVariants.{UnknownCallSite, UnknownMethod, NotStatic, WrongType, UnknownSwitch}
use Rattle.jl_types.specs.declared.refusal.CallSiteFault.TheVariants.{TooDeep, InvokerOrder}
use Rattle.jl_types.specs.Values.Target.{Target, Method, Guard, Invoker, depth}
use Rattle.jl_types.specs.Values.World.{World, CallSite, unreleased, is_missing}
use Rattle.jl_types.specs.Linkage.Resolution.{first_of}
use Rattle.jl_types.specs.Linkage.Targets.{parts, part_fault, target_fault, invokes_type}
use Rattle.jl_types.proofs.Firsts.{first_none, test_none}
use Rattle.jl_renewal.specs.Carries.{guarded}
use Rattle.jl_renewal.specs.Moved.{Flags, Rests, moved, kept, moved_target, moved_call_site, moved_world, target_there}
use Rattle.jl_renewal.proofs.MovedLists.{shifted_is, moved_rises}
use Rattle.jl_renewal.proofs.ReleasedRows.{row_kept, row_map, missing_map}
use Rattle.jl_renewal.proofs.MovedClasses.{present_same, methods_same}

-- ---- what is made of an option

pub inv_map : {A B : Type 0} (f : A → B) (o : Option A) (b : B) → option_map f o ≡ Some b → (a : A) × (o ≡ Some a) × (f a ≡ b)
inv_map f None b e = cc
inv_map f (Some a) b e = (a, refl, same_Some (f a) b e)

pub inv_then : {A B : Type 0} (f : A → Option B) (o : Option A) (b : B) → option_and_then f o ≡ Some b → (a : A) × (o ≡ Some a) × (f a ≡ Some b)
inv_then f None b e = cc
inv_then f (Some a) b e = (a, refl, e)

-- ---- a target whose parts are all there

pub target_is : (k : Flags) (t u : Target) → target_there k t ≡ Some u → moved_target k t ≡ u
target_is k (Method m) u e =
    let h = inv_map (λ (c : ℕ). Method (record m { class = c })) (moved k.classes m.class) u e in
    ap (λ (c : ℕ). Method (record m { class = c })) (shifted_is k.classes m.class h.0 h.1) ∙ h.2
target_is k (Guard p first fallback) u e =
    let q = inv_then (λ q. guarded q (target_there k first) (target_there k fallback)) (moved k.switches p) u e in
    let a = inv_then (λ a. option_map (Guard q.0 a) (target_there k fallback)) (target_there k first) u q.2 in
    let b = inv_map (Guard q.0 a.0) (target_there k fallback) u a.2 in
    (λ i. Guard (shifted_is k.switches p q.0 q.1 i) (target_is k first a.0 a.1 i) (target_is k fallback b.0 b.1 i)) ∙ b.2
target_is k (Invoker c) u e =
    let h = inv_map Invoker (moved k.call_sites c) u e in
    ap Invoker (shifted_is k.call_sites c h.0 h.1) ∙ h.2

same_depth : (k : Flags) (t : Target) → depth (moved_target k t) ≡ depth t
same_depth k (Method m) = refl
same_depth k (Guard p first fallback) = λ i. max (same_depth k first i) (same_depth k fallback i) + 1
same_depth k (Invoker c) = refl

same_parts : (k : Flags) (t : Target) → parts (moved_target k t) ≡ parts t
same_parts k (Method m) = refl
same_parts k (Guard p first fallback) = λ i. same_parts k first i + same_parts k fallback i + 1
same_parts k (Invoker c) = refl

module _ (k : Flags) (w : World) (rests : Rests k w) where
  abbrev v : World
  v = moved_world k w

  -- a call site
  pub call_site_at : (c d : ℕ) → moved k.call_sites c ≡ Some d
      → unreleased v.sites.call_sites d ≡ option_map (moved_call_site k) (unreleased w.sites.call_sites c)
  call_site_at c d e =
      row_map (moved_call_site k) (kept k.call_sites w.sites.call_sites) d
      ∙ ap (option_map (moved_call_site k)) (row_kept k.call_sites w.sites.call_sites c d e)

  -- one that isn't released
  call_site_there : (c d : ℕ) → moved k.call_sites c ≡ Some d → is_missing v.sites.call_sites d ≡ is_missing w.sites.call_sites c
  call_site_there c d e =
      missing_map (moved_call_site k) (kept k.call_sites w.sites.call_sites) d
      ∙ ap (λ (o : Option CallSite). is_none o) (row_kept k.call_sites w.sites.call_sites c d e)

  typed_same : (ty : List ℕ) (c d : ℕ) → moved k.call_sites c ≡ Some d → invokes_type v.sites ty d ≡ invokes_type w.sites ty c
  typed_same ty c d e =
      ap (λ (o : Option CallSite). option_map_or (λ site. bytes_eq site.ty ty) o false) (call_site_at c d e) ∙ by_site (unreleased w.sites.call_sites c)
    where
      by_site : (o : Option CallSite) → option_map_or (λ site. bytes_eq site.ty ty) (option_map (moved_call_site k) o) false
          ≡ option_map_or (λ site. bytes_eq site.ty ty) o false
      by_site None = refl
      by_site (Some site) = refl

  module _ (c d : ℕ) (at : moved k.call_sites c ≡ Some d) (ty : List ℕ) where
    method_part : (m : MethodId) (j : ℕ) → moved k.classes m.class ≡ Some j
        → part_fault v d ty (Method (record m { class = j })) ≡ part_fault w c ty (Method m)
    method_part m j e =
        let present = present_same k w rests m.class j e in
        let methods = methods_same k w rests m.class j e in
        λ i. first_of (
        then_some (not (present i && option_map_or (λ method. not (begins_special method.name)) (slice_get (methods i) m.index) false)) UnknownMethod
        ∷ then_some (not (option_map_or (λ method. has_flag method.flags STATIC) (slice_get (methods i) m.index) false)) NotStatic
        ∷ then_some (not (option_map_or (λ method. bytes_eq method.ty ty) (slice_get (methods i) m.index) false)) WrongType
        ∷ [])

    part_free : (t : Target) (u : Target) → target_there k t ≡ Some u → part_fault w c ty t ≡ None → part_fault v d ty (moved_target k t) ≡ None
    part_free (Method m) u e none =
        let h = inv_map (λ (j : ℕ). Method (record m { class = j })) (moved k.classes m.class) u e in
        ap (λ (j : ℕ). part_fault v d ty (Method (record m { class = j }))) (shifted_is k.classes m.class h.0 h.1) ∙ (method_part m h.0 h.1 ∙ none)
    part_free (Guard p first fallback) u e none =
        let q = inv_then (λ q. guarded q (target_there k first) (target_there k fallback)) (moved k.switches p) u e in
        let a = inv_then (λ a. option_map (Guard q.0 a) (target_there k fallback)) (target_there k first) u q.2 in
        let b = inv_map (Guard q.0 a.0) (target_there k fallback) u a.2 in
        let known = first_none (then_some (is_missing w.sites.switches p) UnknownSwitch) _ none in
        let left = first_none (part_fault w c ty first) _ known.1 in
        let right = first_none (part_fault w c ty fallback) [] left.1 in
        let unknown = ap (is_missing v.sites.switches) (shifted_is k.switches p q.0 q.1)
        ∙ (ap (λ (o : Option Bool). is_none o) (row_kept k.switches w.sites.switches p q.0 q.1)
        ∙ test_none (is_missing w.sites.switches p) UnknownSwitch known.0) in
        let x = part_free first a.0 a.1 left.0 in
        let y = part_free fallback b.0 b.1 right.0 in
        λ i. first_of (then_some (unknown i) UnknownSwitch ∷ x i ∷ y i ∷ [])
    part_free (Invoker b) u e none =
        let h = inv_map Invoker (moved k.call_sites b) u e in
        let order = first_none (then_some (nat_le c b) (InvokerOrder b)) _ none in
        let known = first_none (then_some (is_missing w.sites.call_sites b) UnknownCallSite) _ order.1 in
        let wrong = first_none (then_some (not (invokes_type w.sites ty b)) WrongType) [] known.1 in
        let lt = leb-false c b (test_none (nat_le c b) (InvokerOrder b) order.0) in
        let less = lt-leb d h.0 (moved_rises k.call_sites b c h.0 d h.1 at lt) in
        let there = call_site_there b h.0 h.1 ∙ test_none (is_missing w.sites.call_sites b) UnknownCallSite known.0 in
        let typed = ap not (typed_same ty b h.0 h.1) ∙ test_none (not (invokes_type w.sites ty b)) WrongType wrong.0 in
        ap (λ (j : ℕ). part_fault v d ty (Invoker j)) (shifted_is k.call_sites b h.0 h.1)
        ∙ (λ i. first_of (then_some (less i) (InvokerOrder h.0) ∷ then_some (there i) UnknownCallSite ∷ then_some (typed i) WrongType ∷ []))

    pub target_free : (t u : Target) → target_there k t ≡ Some u → target_fault w c ty t ≡ None → target_fault v d ty u ≡ None
    target_free t u e none =
        let deep = first_none (then_some (nat_lt 64 (depth t) || nat_lt 255 (parts t)) TooDeep) _ none in
        let part = first_none (part_fault w c ty t) [] deep.1 in
        ap (target_fault v d ty) (sym (target_is k t u e))
        ∙ ((λ i. first_of (
        then_some (nat_lt 64 (same_depth k t i) || nat_lt 255 (same_parts k t i)) TooDeep
        ∷ part_free t u e part.0 i
        ∷ []))
        ∙ ap (λ o. first_of (o ∷ None ∷ [])) deep.0)
