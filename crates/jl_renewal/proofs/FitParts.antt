-- What goes on through an event: invocations, bindings, and that targets would be taken.
use Rattle.std.specs.Prelude.{◌≡◌, ◌≤◌, ◌<◌, ◌+◌, ◌⊎◌, ◌||◌, ◌==◌, ℕ, zero, suc, Bool, true, false, cond, not, nat_le, nat_lt, List, [], ◌∷◌, ◌++◌, length}
use Rattle.std.specs.Prelude.{slice_get, find, position, Option, Some, None, option_map, option_and_then, is_none}
use Rattle.std.specs.Bool.{then_some}
use Rattle.std.specs.List.{position_or_len, range_with_len}
use Rattle.std.specs.Option.{option_map_or}
use Rattle.std.specs.Str.{bytes_eq}
use Rattle.std.proofs.Common.{refl, ap, sym, subst, ◌∙◌, arith, inl, inr}
use Rattle.std.proofs.lemmas.Bool.{and_from, not-false, ltb-false}
use Rattle.std.proofs.lemmas.List.Sums.{fails_before_first}
use Rattle.std.proofs.lemmas.Option.{same_Some, slice_get_within, get_or_from_slice_get}
use Rattle.jl_class.specs.Class.{Method as MethodRow}
use Rattle.jl_class.specs.Flags.{has_flag, STATIC}
use Rattle.jl_class.specs.Site.{Site}
use Rattle.jl_class.specs.Special.{begins_special}
use Rattle.jl_types.specs.declared.ids.MethodId.{MethodId}
use Rattle.jl_types.specs.declared.ids.Place.{Place}
use Rattle.jl_types.specs.declared.refusal.CallSiteFault.TheVariants.{UnknownCallSite, UnknownMethod, NotStatic, WrongType, UnknownSwitch}
use Rattle.jl_types.specs.declared.refusal.CallSiteFault.TheVariants.{TooDeep, InvokerOrder}
use Rattle.jl_types.specs.Values.Target.{Target, Method, Guard, Invoker, depth}
use Rattle.jl_types.specs.Values.World.{World, Class, CallSite, unreleased, is_missing}
use Rattle.jl_types.specs.Values.Members.{is_retired, is_present, is_static, method_test}
use Rattle.jl_types.specs.Linkage.Resolution.{first_of}
use Rattle.jl_types.specs.Linkage.Stages.{invocation_at}
use Rattle.jl_types.specs.Linkage.Targets.{may_be_named, is_of_type, invokes_type, part_fault, target_fault, parts}
use Rattle.jl_types.proofs.Bools.{first_test, second_test}
use Rattle.jl_types.proofs.Firsts.{first_none, test_none, first_alone}
use Rattle.jl_renewal.proofs.Fit.{IsInvoked, IsBinding}

-- ---- lists

-- an element of a list with one more is one of the others or that one
pub at_more : {A : Type 0} (xs : List A) (x : A) (n : ℕ) (y : A) → slice_get (xs ++ x ∷ []) n ≡ Some y → (slice_get xs n ≡ Some y) ⊎ ((n ≡ length xs) × (x ≡ y))
at_more [] x zero y at = inr (refl, same_Some x y at)
at_more [] x (suc n) y at = cc
at_more (z ∷ xs) x zero y at = inl at
at_more (z ∷ xs) x (suc n) y at = elim (at_more xs x n y at) [ inl h ↦ inl h | inr h ↦ inr (ap suc h.0, h.1) ]

module _ {A : Type 0} (Same : A → A → Type 0) (xs : List A) (x : A)
    (once : (i j : ℕ) (a b : A) → slice_get xs i ≡ Some a → slice_get xs j ≡ Some b → Same a b → i ≡ j)
    (before : (i : ℕ) (a : A) → slice_get xs i ≡ Some a → Same a x → ⊥) (later : (i : ℕ) (a : A) → slice_get xs i ≡ Some a → Same x a → ⊥) where
  -- no two are the same where none is the same as the one that is added
  pub once_more : (i j : ℕ) (a b : A) → slice_get (xs ++ x ∷ []) i ≡ Some a → slice_get (xs ++ x ∷ []) j ≡ Some b → Same a b → i ≡ j
  once_more i j a b ai bj same = by_places (at_more xs x i a ai) (at_more xs x j b bj)
    where
      by_places : (slice_get xs i ≡ Some a) ⊎ ((i ≡ length xs) × (x ≡ a)) → (slice_get xs j ≡ Some b) ⊎ ((j ≡ length xs) × (x ≡ b)) → i ≡ j
      by_places (inl one) (inl two) = once i j a b one two same
      by_places (inl one) (inr two) = absurd (before i a one (subst (Same a) (sym two.1) same))
      by_places (inr one) (inl two) = absurd (later j b two (subst (λ y. Same y b) (sym one.1) same))
      by_places (inr one) (inr two) = one.0 ∙ sym two.0

-- before the first place that passes none does
fails_before : {A : Type 0} (p : A → Bool) (xs : List A) → length xs ≤ position_or_len p xs → (i : ℕ) (x : A) → slice_get xs i ≡ Some x → p x ≡ false
fails_before p xs le i x at =
    let lt = slice_get_within xs i x at in
    ap p (sym (get_or_from_slice_get xs i x x at)) ∙ fails_before_first p xs i x (omega (arith, le, lt))

-- none passes where there is no place of one that does
pub none_placed : {A : Type 0} (p : A → Bool) (xs : List A) → position p xs ≡ None → (i : ℕ) (x : A) → slice_get xs i ≡ Some x → p x ≡ false
none_placed {A = A} p xs none = by_test (nat_lt (position_or_len p xs) (length xs)) refl none
  where
    by_test : (b : Bool) → nat_lt (position_or_len p xs) (length xs) ≡ b → cond b (Some (position_or_len p xs)) None ≡ None
        → (i : ℕ) (x : A) → slice_get xs i ≡ Some x → p x ≡ false
    by_test true is none = cc
    by_test false is none = fails_before p xs (ltb-false (position_or_len p xs) (length xs) is)

-- none passes where none is found
pub none_found : {A : Type 0} (p : A → Bool) (xs : List A) → find p xs ≡ None → (i : ℕ) (x : A) → slice_get xs i ≡ Some x → p x ≡ false
none_found {A = A} p [] none i x at = cc
none_found {A = A} p (y ∷ xs) none i x at = by_test (p y) refl none i at (λ e j. none_found p xs e j x)
  where
    by_test : (b : Bool) → p y ≡ b → cond b (Some y) (find p xs) ≡ None → (i : ℕ) → slice_get (y ∷ xs) i ≡ Some x
        → (find p xs ≡ None → (j : ℕ) → slice_get xs j ≡ Some x → p x ≡ false) → p x ≡ false
    by_test true is e i at rest = cc
    by_test false is e zero at rest = ap p (sym (same_Some y x at)) ∙ is
    by_test false is e (suc i) at rest = rest e i at

-- nothing is found that passes nowhere
pub find_none : {A : Type 0} (p : A → Bool) (xs : List A) → ((x : A) → p x ≡ false) → find p xs ≡ None
find_none p [] h = refl
find_none p (x ∷ xs) h = by_test (p x) (h x) (find_none p xs h)
  where
    by_test : (b : Bool) → b ≡ false → find p xs ≡ None → cond b (Some x) (find p xs) ≡ None
    by_test true e rest = cc
    by_test false e rest = rest

range_at : (a n i : ℕ) → i < n → slice_get (range_with_len a n) i ≡ Some (a + i)
range_at a zero i lt = absurd (omega (arith, lt))
range_at a (suc n) zero lt = let same : a ≡ a + 0 = omega arith in ap Some same
range_at a (suc n) (suc i) lt = let same : a + 1 + i ≡ a + suc i = omega arith in range_at (a + 1) n i (omega (arith, lt)) ∙ ap Some same

-- what no number of a range passes
pub none_in_range : (p : ℕ → Bool) (n i : ℕ) → find p (range_with_len 0 n) ≡ None → i < n → p i ≡ false
none_in_range p n i none lt = none_found p (range_with_len 0 n) none i i (let same : 0 + i ≡ i = omega arith in range_at 0 n i lt ∙ ap Some same)

-- there is none where there is none once it is mapped
pub none_mapped : {A B : Type 0} (f : A → B) (o : Option A) → option_map f o ≡ None → o ≡ None
none_mapped f None e = refl
none_mapped f (Some x) e = cc

-- ---- what stays of a world

-- classes and places stay where they are, and call sites get no fewer and keep their types unless they are released
pub record GoesOn (w v : World) : Type 0 where
  pub rows : (c : ℕ) (row : Class) → slice_get w.classes.rows c ≡ Some row → slice_get v.classes.rows c ≡ Some row
  pub places : (s : ℕ) (place : Place) → slice_get w.places s ≡ Some place → slice_get v.places s ≡ Some place
  pub more : length w.sites.call_sites ≤ length v.sites.call_sites
  pub types : (c : ℕ) (after : CallSite) → c < length w.sites.call_sites → unreleased v.sites.call_sites c ≡ Some after
      → (site : CallSite) × (unreleased w.sites.call_sites c ≡ Some site) × (after.ty ≡ site.ty)

-- the class is present afterwards if it was before
abbrev pub StaysPresent : World → World → ℕ → Type 0
StaysPresent w v c = is_present w.classes c ≡ true → is_present v.classes c ≡ true

-- the switch point isn't released afterwards if it wasn't before
abbrev pub StaysPoint : World → World → ℕ → Type 0
StaysPoint w v p = is_missing w.sites.switches p ≡ false → is_missing v.sites.switches p ≡ false

-- nor is the call site, and it keeps its type
abbrev pub StaysCallSite : World → World → ℕ → Type 0
StaysCallSite w v d = (site : CallSite) → unreleased w.sites.call_sites d ≡ Some site
    → (after : CallSite) × (unreleased v.sites.call_sites d ≡ Some after) × (after.ty ≡ site.ty)

-- all that the target names stays
abbrev pub StayNamed : World → World → Target → Type 0
StayNamed w v (Method m) = StaysPresent w v m.class
StayNamed w v (Guard p first fallback) = StaysPoint w v p × StayNamed w v first × StayNamed w v fallback
StayNamed w v (Invoker d) = StaysCallSite w v d

-- where all stays
pub all_named : (w v : World) → ((c : ℕ) → StaysPresent w v c) → ((p : ℕ) → StaysPoint w v p) → ((d : ℕ) → StaysCallSite w v d) → (t : Target)
    → StayNamed w v t
all_named w v classes points call_sites (Method m) = classes m.class
all_named w v classes points call_sites (Guard p first fallback) =
    (points p, all_named w v classes points call_sites first, all_named w v classes points call_sites fallback)
all_named w v classes points call_sites (Invoker d) = call_sites d

-- call sites and switch points that are the same stay
pub same_point : (p : ℕ) (w v : World) → v.sites.switches ≡ w.sites.switches → StaysPoint w v p
same_point p w v same there = ap (λ switches. is_missing switches p) same ∙ there

pub same_call_site : (d : ℕ) (w v : World) → v.sites.call_sites ≡ w.sites.call_sites → StaysCallSite w v d
same_call_site d w v same site there = (site, ap (λ call_sites. unreleased call_sites d) same ∙ there, refl)

-- there is no first fault where the first test and what comes after it have none
none_next : {A : Type 0} (b : Bool) (x : A) (rest : List (Option A)) → b ≡ false → first_of rest ≡ None → first_of (then_some b x ∷ rest) ≡ None
none_next true x rest is e = cc
none_next false x rest is e = e

none_both : {A : Type 0} (o p : Option A) → o ≡ None → p ≡ None → first_of (o ∷ p ∷ []) ≡ None
none_both None None e f = refl
none_both None (Some y) e f = cc
none_both (Some x) p e f = cc

module _ (w v : World) (on : GoesOn w v) where
  -- the invocation that a class has at the place
  abbrev found_in : Place → Option Class → Option Site
  found_in place o =
      option_and_then (λ method. find (λ s. s.pc == place.pc) method.sites) (slice_get (option_map_or (λ row. row.file.methods) o []) place.method)

  -- an invocation stays where it is
  invocation_still : (place : Place) (site : Site) → invocation_at w.classes place ≡ Some site → invocation_at v.classes place ≡ Some site
  invocation_still place site = by_row (slice_get w.classes.rows place.class) refl
    where
      by_row : (o : Option Class) → slice_get w.classes.rows place.class ≡ o → found_in place o ≡ Some site → invocation_at v.classes place ≡ Some site
      by_row None is e = cc
      by_row (Some row) is e = ap (found_in place) (on.rows place.class row is) ∙ e

  pub invoked_still : (place : Place) → IsInvoked w place → IsInvoked v place
  invoked_still place is = record {
    site = is.site;
    at = invocation_still place is.site is.at;
    array = is.array;
    polymorphic = is.polymorphic;
  }

  pub binding_still : (b : ℕ × ℕ) → IsBinding w b → IsBinding v b
  binding_still b is = record {
    place = is.place;
    site = is.site;
    specifier = is.specifier;
    requested = on.places b.0 is.place is.requested;
    at = invocation_still is.place is.site is.at;
    dynamic = is.dynamic;
    within = let low = is.within in let more = on.more in omega (arith, low, more);
    type = λ row there.
        let before = on.types b.1 row is.within there in ap (λ ty. bytes_eq ty is.specifier.ty) before.2 ∙ is.type before.0 before.1;
  }

  -- ---- targets

  -- the test of the method that a class has there
  abbrev tested_in : (MethodRow → Bool) → ℕ → Option Class → Bool
  tested_in test index o = option_map_or test (slice_get (option_map_or (λ row. row.file.methods) o []) index) false

  -- a method of a class that was present tells the same
  test_still : (test : MethodRow → Bool) (m : MethodId) → is_present w.classes m.class ≡ true → method_test test v.classes m ≡ method_test test w.classes m
  test_still test m = by_row (slice_get w.classes.rows m.class) refl
    where
      by_row : (o : Option Class) → slice_get w.classes.rows m.class ≡ o → option_map_or (λ row. not (is_retired w.classes row.loader)) o false ≡ true
          → method_test test v.classes m ≡ tested_in test m.index o
      by_row None is present = cc
      by_row (Some row) is present = ap (tested_in test m.index) (on.rows m.class row is)

  -- a call site is of the type that it was
  type_still : (ty : List ℕ) (d : ℕ) → StaysCallSite w v d → invokes_type w.sites ty d ≡ true
      → (is_missing v.sites.call_sites d ≡ false) × (invokes_type v.sites ty d ≡ true)
  type_still ty d stays = by_site (unreleased w.sites.call_sites d) refl
    where
      by_site : (o : Option CallSite) → unreleased w.sites.call_sites d ≡ o → option_map_or (λ site. bytes_eq site.ty ty) o false ≡ true
          → (is_missing v.sites.call_sites d ≡ false) × (invokes_type v.sites ty d ≡ true)
      by_site None is e = cc
      by_site (Some site) is e =
          let after = stays site is in (
            ap is_none after.1,
            ap (λ o. option_map_or (λ (site : CallSite). bytes_eq site.ty ty) o false) after.1 ∙ ap (λ t. bytes_eq t ty) after.2 ∙ e,
          )

  module _ (c : ℕ) (ty : List ℕ) where
    method_still : (m : MethodId) → StaysPresent w v m.class → part_fault w c ty (Method m) ≡ None → part_fault v c ty (Method m) ≡ None
    method_still m stays e =
        let named = first_none (then_some (not (may_be_named w.classes m)) UnknownMethod) _ e in
        let static = first_none (then_some (not (is_static w.classes m)) NotStatic) _ named.1 in
        let typed = first_none (then_some (not (is_of_type w.classes ty m)) WrongType) [] static.1 in
        let may = not-false (may_be_named w.classes m) (test_none (not (may_be_named w.classes m)) UnknownMethod named.0) in
        let present = first_test (is_present w.classes m.class) (method_test (λ method. not (begins_special method.name)) w.classes m) may in
        none_next (not (may_be_named v.classes m)) UnknownMethod _
        (ap not (and_from (is_present v.classes m.class) (method_test (λ method. not (begins_special method.name)) v.classes m) (stays present)
        (test_still (λ method. not (begins_special method.name)) m present
        ∙ second_test (is_present w.classes m.class) (method_test (λ method. not (begins_special method.name)) w.classes m) may)))
        (none_next (not (is_static v.classes m)) NotStatic _
        (ap not (test_still (λ method. has_flag method.flags STATIC) m present) ∙ test_none (not (is_static w.classes m)) NotStatic static.0)
        (none_next (not (is_of_type v.classes ty m)) WrongType []
        (ap not (test_still (λ method. bytes_eq method.ty ty) m present) ∙ test_none (not (is_of_type w.classes ty m)) WrongType typed.0)
        refl))

    part_still : (t : Target) → StayNamed w v t → part_fault w c ty t ≡ None → part_fault v c ty t ≡ None
    part_still (Method m) stay e = method_still m stay e
    part_still (Guard p first fallback) stay e =
        let guard = first_none (then_some (is_missing w.sites.switches p) UnknownSwitch) (part_fault w c ty first ∷ part_fault w c ty fallback ∷ []) e in
        let one = first_none (part_fault w c ty first) (part_fault w c ty fallback ∷ []) guard.1 in
        none_next (is_missing v.sites.switches p) UnknownSwitch (part_fault v c ty first ∷ part_fault v c ty fallback ∷ [])
        (stay.0 (test_none (is_missing w.sites.switches p) UnknownSwitch guard.0))
        (none_both (part_fault v c ty first) (part_fault v c ty fallback) (part_still first stay.1 one.0)
        (part_still fallback stay.2 (first_none (part_fault w c ty fallback) [] one.1).0))
    part_still (Invoker d) stay e =
        let order = first_none (then_some (nat_le c d) (InvokerOrder d)) _ e in
        let known = first_none (then_some (is_missing w.sites.call_sites d) UnknownCallSite) _ order.1 in
        let typed = first_none (then_some (not (invokes_type w.sites ty d)) WrongType) [] known.1 in
        let still = type_still ty d stay (not-false (invokes_type w.sites ty d) (test_none (not (invokes_type w.sites ty d)) WrongType typed.0)) in
        none_next (nat_le c d) (InvokerOrder d) _ (test_none (nat_le c d) (InvokerOrder d) order.0)
        (none_next (is_missing v.sites.call_sites d) UnknownCallSite _ still.0
        (none_next (not (invokes_type v.sites ty d)) WrongType [] (ap not still.1) refl))

    -- a target that would be taken before would be taken afterwards
    pub taken_still : (t : Target) → StayNamed w v t → target_fault w c ty t ≡ None → target_fault v c ty t ≡ None
    taken_still t stay e =
        let deep = first_none (then_some (nat_lt 64 (depth t) || nat_lt 255 (parts t)) TooDeep) (part_fault w c ty t ∷ []) e in
        none_next (nat_lt 64 (depth t) || nat_lt 255 (parts t)) TooDeep (part_fault v c ty t ∷ [])
        (test_none (nat_lt 64 (depth t) || nat_lt 255 (parts t)) TooDeep deep.0)
        (first_alone (part_fault v c ty t) ∙ part_still t stay (first_none (part_fault w c ty t) [] deep.1).0)
