-- What stays, and the numbers of classes, sites, call sites and switch points.
use Rattle.std.specs.Prelude.{◌≡◌, ◌<◌, ◌+◌, ℕ, zero, suc, Bool, true, false, not, ◌&&◌, ◌==◌, List, [], ◌∷◌, ◌++◌, map, filter, length, slice_get}
use Rattle.std.specs.Prelude.{Option, Some, None, option_map, option_and_then, if◌then◌else◌}
use Rattle.std.specs.Option.{option_map_or}
use Rattle.std.specs.List.{list_any, range_with_len}
use Rattle.std.proofs.Common.{refl, sym, ap, ◌∙◌, arith, append-nil, length-append}
use Rattle.std.proofs.lemmas.Bool.{or_left, or_right, and_from, both_ways, not-true}
use Rattle.std.proofs.lemmas.Cmp.{nat_eq_equiv}
use Rattle.std.proofs.lemmas.Option.{same_Some, slice_get-map, slice_get_within}
use Rattle.std.proofs.lemmas.Map.Keys.{any_passes_from_place}
use Rattle.std.proofs.lemmas.List.{map_push, length-map}
use Rattle.std.proofs.lemmas.List.Elements.{filter-append}
use Rattle.std.proofs.lemmas.List.FromFn.{length-map-range_with_len}
use Rattle.jl_types.specs.declared.ids.Place.{Place}
use Rattle.jl_types.specs.Values.World.{World, Classes, CallSite, unreleased, is_missing}
use Rattle.jl_types.specs.Values.Members.{is_present, is_retired}
use Rattle.jl_types.specs.Events.Retirement.{has_target}
use Rattle.jl_types.proofs.Bools.{first_test}
use Rattle.jl_types.proofs.Lists.{passes_within}
use Rattle.jl_renewal.specs.declared.released.Released.{Released}
use Rattle.jl_renewal.specs.Numbers.{numbered, new_number, renumbered, staying}
use Rattle.jl_renewal.specs.Staying.{staying_classes, staying_sites, is_in_staying_class, invokes, guards_by, is_among, is_held, staying_from}
use Rattle.jl_renewal.specs.Staying.{staying_call_sites, point_stays, staying_switches}
use Rattle.jl_renewal.proofs.ReleasedRows.{row_at, present_within}
use Rattle.jl_renewal.proofs.NumberLaws.{number_is, renumbered_is, some_stays, before_once, staying_at}

-- ---- numbers

-- what stays has its new number
pub number_of : (stays : List Bool) (k : ℕ) → slice_get stays k ≡ Some true → new_number (numbered stays) k ≡ Some (renumbered (numbered stays) k)
number_of stays k e = number_is stays k e ∙ ap Some (sym (renumbered_is stays k e))

-- and what doesn't has none
none_of : (stays : List Bool) (k : ℕ) → ¬ (slice_get stays k ≡ Some true) → new_number (numbered stays) k ≡ None
none_of stays k gone = by_number (new_number (numbered stays) k) refl
  where
    by_number : (o : Option ℕ) → new_number (numbered stays) k ≡ o → o ≡ None
    by_number None e = refl
    by_number (Some j) e = absurd (gone (some_stays stays k j e))

-- no two that stay have one number
pub renumbered_once : (stays : List Bool) (j k : ℕ) → slice_get stays j ≡ Some true → slice_get stays k ≡ Some true
    → renumbered (numbered stays) j ≡ renumbered (numbered stays) k → j ≡ k
renumbered_once stays j k j_stays k_stays e =
    before_once stays j k j_stays k_stays (sym (renumbered_is stays j j_stays) ∙ e ∙ renumbered_is stays k k_stays)

-- what stays stands at its new number
pub renumbered_at : {A B : Type 0} (f : A → B) (stays : List Bool) (xs : List A) (k : ℕ) (x : A) → slice_get stays k ≡ Some true
    → slice_get xs k ≡ Some x → slice_get (map f (staying stays xs)) (renumbered (numbered stays) k) ≡ Some (f x)
renumbered_at f stays xs k x k_stays there =
    slice_get-map f (staying stays xs) (renumbered (numbered stays) k)
    ∙ ap (λ j. option_map f (slice_get (staying stays xs) j)) (renumbered_is stays k k_stays)
    ∙ ap (option_map f) (staying_at stays xs k x k_stays there)

-- so does a row that isn't released
pub row_renumbered : {A B : Type 0} (f : A → B) (stays : List Bool) (rows : List (Option A)) (k : ℕ) (x : A) → slice_get stays k ≡ Some true
    → unreleased rows k ≡ Some x → unreleased (map (option_map f) (staying stays rows)) (renumbered (numbered stays) k) ≡ Some (f x)
row_renumbered f stays rows k x k_stays there =
    ap (option_and_then (λ row. row)) (renumbered_at (option_map f) stays rows k (Some x) k_stays (row_at rows k x there))

pub row_staying : {A : Type 0} (stays : List Bool) (rows : List (Option A)) (k : ℕ) (x : A) → slice_get stays k ≡ Some true
    → unreleased rows k ≡ Some x → unreleased (staying stays rows) (renumbered (numbered stays) k) ≡ Some x
row_staying stays rows k x k_stays there =
    ap (option_and_then (λ row. row)) (ap (slice_get (staying stays rows)) (renumbered_is stays k k_stays)
    ∙ staying_at stays rows k (Some x) k_stays (row_at rows k x there))

-- a test of each number of a range
tests_from : (p : ℕ → Bool) (a n k j : ℕ) → k < n → a + k ≡ j → slice_get (map p (range_with_len a n)) k ≡ Some (p j)
tests_from p a zero k j lt e = absurd (omega (arith, lt))
tests_from p a (suc n) zero j lt e = let here : a ≡ j = omega (arith, e) in ap (λ i. Some (p i)) here
tests_from p a (suc n) (suc k) j lt e = tests_from p (a + 1) n k j (omega (arith, lt)) (omega (arith, e))

tests_at : (p : ℕ → Bool) (n k : ℕ) → k < n → slice_get (map p (range_with_len 0 n)) k ≡ Some (p k)
tests_at p n k lt = tests_from p 0 n k k lt (omega arith)

test_passes : (p : ℕ → Bool) (n k : ℕ) → slice_get (map p (range_with_len 0 n)) k ≡ Some true → p k ≡ true
test_passes p n k e =
    let within = slice_get_within (map p (range_with_len 0 n)) k true e in
    let long = length-map-range_with_len p 0 n in
    same_Some (p k) true (sym (tests_at p n k (omega (arith, within, long))) ∙ e)

-- one that stays and passes
any_staying : {A : Type 0} (f : A → Bool) (stays : List Bool) (xs : List A) (k : ℕ) (x : A) → slice_get stays k ≡ Some true
    → slice_get xs k ≡ Some x → f x ≡ true → list_any f (staying stays xs) ≡ true
any_staying f [] xs k x e there h = cc
any_staying f (b ∷ stays) [] k x e there h = cc
any_staying f (true ∷ stays) (y ∷ xs) zero x e there h = or_left (f y) (list_any f (staying stays xs)) (ap f (same_Some y x there) ∙ h)
any_staying f (false ∷ stays) (y ∷ xs) zero x e there h = cc
any_staying f (true ∷ stays) (y ∷ xs) (suc k) x e there h = or_right (f y) (list_any f (staying stays xs)) (any_staying f stays xs k x e there h)
any_staying f (false ∷ stays) (y ∷ xs) (suc k) x e there h = any_staying f stays xs k x e there h

-- ---- an element of a list, and those before it

module _ {A : Type 0} where
  pub in_middle : (front : List A) (x : A) (rest : List A) → slice_get (front ++ x ∷ rest) (length front) ≡ Some x
  in_middle [] x rest = refl
  in_middle (y ∷ front) x rest = in_middle front x rest

  pub in_front : (front rest : List A) (i : ℕ) (y : A) → slice_get front i ≡ Some y → slice_get (front ++ rest) i ≡ Some y
  in_front [] rest i y e = cc
  in_front (x ∷ front) rest zero y e = e
  in_front (x ∷ front) rest (suc i) y e = in_front front rest i y e

-- ---- what passes a test, under new numbers

module _ {A : Type 0} (f : A → A) (p : A → Bool) (front : List A) (x : A) where
  pub passing_more : p x ≡ true → map f (filter p (front ++ x ∷ [])) ≡ map f (filter p front) ++ f x ∷ []
  passing_more e =
      ap (map f) (filter-append p front (x ∷ []) ∙ ap (λ (b : Bool). filter p front ++ (if b then x ∷ [] else [])) e)
      ∙ map_push f (filter p front) x

  pub passing_less : p x ≡ false → map f (filter p (front ++ x ∷ [])) ≡ map f (filter p front)
  passing_less e =
      ap (map f) (filter-append p front (x ∷ []) ∙ ap (λ (b : Bool). filter p front ++ (if b then x ∷ [] else [])) e ∙ append-nil (filter p front))

  -- fewer pass before it than in all
  pub passing_before : (rest : List A) → p x ≡ true → length (map f (filter p front)) < length (filter p (front ++ x ∷ rest))
  passing_before rest e =
      let all = ap length (filter-append p front (x ∷ rest) ∙ ap (λ (b : Bool). filter p front ++ (if b then x ∷ filter p rest else filter p rest)) e) in
      let long = length-append (filter p front) (x ∷ filter p rest) in
      let same = length-map (filter p front) f in
      omega (arith, all, long, same)

-- ---- classes and sites

pub class_stays : (cs : Classes) (c : ℕ) → is_present cs c ≡ true → slice_get (staying_classes cs) c ≡ Some true
class_stays cs c e = tests_at (is_present cs) (length cs.rows) c (passes_within (λ row. not (is_retired cs row.loader)) cs.rows c e) ∙ ap Some e

-- a class that is gone has no number
pub class_gone : (cs : Classes) (c : ℕ) → is_present cs c ≡ false → new_number (numbered (staying_classes cs)) c ≡ None
class_gone cs c e = none_of (staying_classes cs) c (λ stays. both_ways (is_present cs c) e (test_passes (is_present cs) (length cs.rows) c stays))

module _ (w : World) (s : ℕ) where
  abbrev is_there : Place → Bool
  is_there place = is_present w.classes place.class

  pub site_stays : is_in_staying_class w s ≡ true → slice_get (staying_sites w.classes w.places) s ≡ Some true
  site_stays e = slice_get-map is_there w.places s ∙ by_place (slice_get w.places s) e
    where
      by_place : (o : Option Place) → option_map_or is_there o false ≡ true → option_map is_there o ≡ Some true
      by_place None e = cc
      by_place (Some place) e = ap Some e

  pub site_gone : is_in_staying_class w s ≡ false → new_number (numbered (staying_sites w.classes w.places)) s ≡ None
  site_gone e = none_of (staying_sites w.classes w.places) s
      (λ stays. by_place (slice_get w.places s) e (sym (slice_get-map is_there w.places s) ∙ stays))
    where
      by_place : (o : Option Place) → option_map_or is_there o false ≡ false → option_map is_there o ≡ Some true → ⊥
      by_place None e stays = cc
      by_place (Some place) e stays = both_ways (is_there place) e (same_Some (is_there place) true stays)

-- ---- call sites and switch points

module _ (held : ℕ → Bool) where
  held_from : (a : ℕ) (sites : List (Option CallSite)) (i c : ℕ) → a + i ≡ c → is_missing sites i ≡ false → held c ≡ true
      → slice_get (staying_from held a sites) i ≡ Some true
  held_from a [] i c e there h = cc
  held_from a (None ∷ later) zero c e there h = cc
  held_from a (Some x ∷ later) zero c e there h =
      let here : a ≡ c = omega (arith, e) in
      ap Some (or_left (held a) (list_any (has_target (invokes a)) (staying (staying_from held (a + 1) later) later)) (ap held here ∙ h))
  held_from a (None ∷ later) (suc i) c e there h = held_from (a + 1) later i c (omega (arith, e)) there h
  held_from a (Some x ∷ later) (suc i) c e there h = held_from (a + 1) later i c (omega (arith, e)) there h

  -- a call site that a later one invokes stays with it
  invoked_from : (a : ℕ) (sites : List (Option CallSite)) (i j c : ℕ) (site : CallSite) → a + i ≡ c → i < j → unreleased sites j ≡ Some site
      → slice_get (staying_from held a sites) j ≡ Some true → is_missing sites i ≡ false → invokes c site.target ≡ true
      → slice_get (staying_from held a sites) i ≡ Some true
  invoked_from a [] i j c site e lt there stays present h = cc
  invoked_from a (x ∷ later) i zero c site e lt there stays present h = absurd (omega (arith, lt))
  invoked_from a (None ∷ later) zero (suc j) c site e lt there stays present h = cc
  invoked_from a (Some x ∷ later) zero (suc j) c site e lt there stays present h =
      let here : a ≡ c = omega (arith, e) in
      let rest = staying_from held (a + 1) later in
      ap Some (or_right (held a) (list_any (has_target (invokes a)) (staying rest later))
      (any_staying (has_target (invokes a)) rest later j (Some site) stays (row_at later j site there) (ap (λ k. invokes k site.target) here ∙ h)))
  invoked_from a (None ∷ later) (suc i) (suc j) c site e lt there stays present h =
      invoked_from (a + 1) later i j c site (omega (arith, e)) (omega (arith, lt)) there stays present h
  invoked_from a (Some x ∷ later) (suc i) (suc j) c site e lt there stays present h =
      invoked_from (a + 1) later i j c site (omega (arith, e)) (omega (arith, lt)) there stays present h

  -- one that stays isn't released
  there_from : (a : ℕ) (sites : List (Option CallSite)) (i : ℕ) → slice_get (staying_from held a sites) i ≡ Some true → is_missing sites i ≡ false
  there_from a [] i e = cc
  there_from a (None ∷ later) zero e = cc
  there_from a (Some x ∷ later) zero e = refl
  there_from a (None ∷ later) (suc i) e = there_from (a + 1) later i e
  there_from a (Some x ∷ later) (suc i) e = there_from (a + 1) later i e

  from_length : (a : ℕ) (sites : List (Option CallSite)) → length (staying_from held a sites) ≡ length sites
  from_length a [] = refl
  from_length a (None ∷ later) = ap suc (from_length (a + 1) later)
  from_length a (Some x ∷ later) = ap suc (from_length (a + 1) later)

module _ (w : World) (released : Released) where
  pub call_sites_length : length (staying_call_sites w released) ≡ length w.sites.call_sites
  call_sites_length = from_length (is_held w released) 0 w.sites.call_sites

  pub switches_length : length (staying_switches w released) ≡ length w.sites.switches
  switches_length = length-map-range_with_len (point_stays w released) 0 (length w.sites.switches)

  -- a call site that stays isn't released
  pub call_site_there : (c : ℕ) → slice_get (staying_call_sites w released) c ≡ Some true → is_missing w.sites.call_sites c ≡ false
  call_site_there = there_from (is_held w released) 0 w.sites.call_sites

  -- and one that is released has no number
  pub call_site_gone : (c : ℕ) → is_missing w.sites.call_sites c ≡ true → new_number (numbered (staying_call_sites w released)) c ≡ None
  call_site_gone c gone =
      none_of (staying_call_sites w released) c (λ stays. both_ways (is_missing w.sites.call_sites c) (call_site_there c stays) gone)

  -- nor is a switch point
  pub switch_there : (p : ℕ) → slice_get (staying_switches w released) p ≡ Some true → is_missing w.sites.switches p ≡ false
  switch_there p stays =
      not-true (is_missing w.sites.switches p)
      (first_test (not (is_missing w.sites.switches p)) _ (test_passes (point_stays w released) (length w.sites.switches) p stays))

  -- the call site to which a site that stays is bound
  pub bound_stays : (i : ℕ) (b : ℕ × ℕ) → slice_get w.bindings i ≡ Some b → is_missing w.sites.call_sites b.1 ≡ false
      → is_in_staying_class w b.0 ≡ true → slice_get (staying_call_sites w released) b.1 ≡ Some true
  bound_stays i b bound there e =
      let wanted = or_right (not (is_among released.call_sites b.1)) (list_any (λ x. (x.1 == b.1) && is_in_staying_class w x.0) w.bindings)
      (any_passes_from_place (λ x. (x.1 == b.1) && is_in_staying_class w x.0) w.bindings i b bound
      (and_from (b.1 == b.1) (is_in_staying_class w b.0) (nat_eq_equiv.refl b.1) e)) in
      held_from (is_held w released) 0 w.sites.call_sites b.1 b.1 (omega arith) there
      (and_from (not (is_missing w.sites.call_sites b.1)) _ (ap not there) wanted)

  -- an earlier call site which the target of one that stays invokes
  pub invoked_stays : (c d : ℕ) (site : CallSite) → unreleased w.sites.call_sites c ≡ Some site → slice_get (staying_call_sites w released) c ≡ Some true
      → d < c → is_missing w.sites.call_sites d ≡ false → invokes d site.target ≡ true → slice_get (staying_call_sites w released) d ≡ Some true
  invoked_stays c d site there stays lt present h =
      invoked_from (is_held w released) 0 w.sites.call_sites d c d site (omega arith) lt there stays present h

  -- a switch point by which the target of a call site that stays guards
  pub guard_stays : (c p : ℕ) (site : CallSite) → unreleased w.sites.call_sites c ≡ Some site → slice_get (staying_call_sites w released) c ≡ Some true
      → is_missing w.sites.switches p ≡ false → guards_by p site.target ≡ true → slice_get (staying_switches w released) p ≡ Some true
  guard_stays c p site there stays present h =
      tests_at (point_stays w released) (length w.sites.switches) p (present_within w.sites.switches p present)
      ∙ ap Some (and_from (not (is_missing w.sites.switches p)) _ (ap not present)
      (or_right (not (is_among released.switches p))
      (list_any (has_target (guards_by p)) (staying (staying_call_sites w released) w.sites.call_sites))
      (any_staying (has_target (guards_by p)) (staying_call_sites w released) w.sites.call_sites c (Some site) stays
      (row_at w.sites.call_sites c site there) h)))
