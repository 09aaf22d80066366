-- At a renewal the fresh world is what the flags tell.
use Rattle.std.specs.Prelude.{◌≡◌, ℕ, zero, suc, ◌<◌, ◌≤◌, ◌==◌, Bool, true, false, not, List, [], ◌∷◌, ◌++◌, map, filter, filter_map}
use Rattle.std.specs.Prelude.{length, slice_get, nat_le, nat_lt, ◌&&◌, ◌||◌, Option, Some, None, option_map, option_and_then, option_to_list, if◌then◌else◌}
use Rattle.std.specs.Option.{unwrap_or, option_map_or}
use Rattle.std.specs.List.{AllByRecursion, cons_option, list_any}
use Rattle.std.specs.Bool.{then_some}
use Rattle.std.proofs.Common.{refl, sym, ap, ◌∙◌, arith}
use Rattle.std.proofs.lemmas.Bool.{or_left, or_right, leb-false, not-true, not-false}
use Rattle.std.proofs.lemmas.Cmp.{nat_eq_equiv}
use Rattle.std.proofs.lemmas.List.{length-map}
use Rattle.std.proofs.lemmas.List.Elements.{recursion_from_All}
use Rattle.std.proofs.lemmas.List.FromFn.{length-map-range_with_len}
use Rattle.std.proofs.lemmas.Option.{same_Some, slice_get_within, slice_get-map}
use Rattle.jl_types.specs.declared.refusal.CallSiteFault.TheVariants.{UnknownMethod, UnknownSwitch, TooDeep, InvokerOrder}
use Rattle.jl_types.specs.Values.Target.{Target, Method, Guard, Invoker, depth}
use Rattle.jl_types.specs.Values.World.{World, Class, Classes, CallSite, unreleased, is_missing}
use Rattle.jl_types.specs.Values.Members.{is_present, is_retired}
use Rattle.jl_types.specs.Values.Ancestry.{parents}
use Rattle.jl_types.specs.Linkage.Targets.{parts, part_fault, may_be_named}
use Rattle.jl_types.proofs.Bools.{first_test, second_test}
use Rattle.jl_types.proofs.Firsts.{first_none, test_none}
use Rattle.jl_types.proofs.Lists.{all_at, passes_within}
use Rattle.jl_types.proofs.Orders.{IsGood}
use Rattle.jl_hierarchy.specs.Constancy.{IsClosed}
use Rattle.jl_renewal.specs.declared.released.Released.{Released}
use Rattle.jl_renewal.specs.Numbers.{Numbers, numbered, renumbered, staying, renumbered_target}
use Rattle.jl_renewal.specs.Staying.{numbers_of, staying_loaders, staying_classes, staying_sites, staying_call_sites, is_in_staying_class}
use Rattle.jl_renewal.specs.Renewed.{renewed, renumbered_record, renumbered_class, renumbered_place, renumbered_binding, renumbered_call_site}
use Rattle.jl_renewal.specs.Moved.{Flags, flags_of, moved, shifted, kept, moved_record, moved_class, moved_place, moved_binding, moved_target, moved_call_site}
use Rattle.jl_renewal.specs.Moved.{moved_world}
use Rattle.jl_renewal.proofs.Fit.{IsFit, IsBinding}
use Rattle.jl_renewal.proofs.ClassLaws.{class_at, tested_at}
use Rattle.jl_renewal.proofs.StayLaws.{number_of, bound_stays, call_sites_length, call_site_gone, switches_length}
use Rattle.jl_renewal.proofs.ReleasedRows.{present_within}
use Rattle.jl_renewal.proofs.MovedLists.{none_of}
use Rattle.jl_renewal.proofs.MovedRecords.{AllPresent, AreKnown}
use Rattle.jl_renewal.proofs.MovedFirst.{number_is, moved_some, live_in_range, place_row}

-- what stays of a list that is no longer than the flags
pub kept_is : {A : Type 0} (stays : List Bool) (xs : List A) → length xs ≤ length stays → kept stays xs ≡ staying stays xs
kept_is [] [] le = refl
kept_is [] (x ∷ xs) le = absurd (omega (arith, le))
kept_is (b ∷ stays) [] le = refl
kept_is (true ∷ stays) (x ∷ xs) le = ap (λ ys. x ∷ ys) (kept_is stays xs (omega (arith, le)))
kept_is (false ∷ stays) (x ∷ xs) le = kept_is stays xs (omega (arith, le))

pub shifted_is_number : (stays : List Bool) (j : ℕ) → j < length stays → shifted stays j ≡ renumbered (numbered stays) j
shifted_is_number stays j lt = ap (λ (o : Option ℕ). unwrap_or o 0) (sym (number_is stays j lt))

-- two maps that agree on each element that stays
pub map_alike : {A B : Type 0} (f g : A → B) (stays : List Bool) (xs : List A)
    → ((j : ℕ) (x : A) → slice_get xs j ≡ Some x → slice_get stays j ≡ Some true → f x ≡ g x) → map f (staying stays xs) ≡ map g (staying stays xs)
map_alike f g [] xs h = refl
map_alike f g (b ∷ stays) [] h = refl
map_alike f g (true ∷ stays) (x ∷ xs) h =
    let first = h zero x refl refl in
    let rest = map_alike f g stays xs (λ j. h (suc j)) in
    λ i. first i ∷ rest i
map_alike f g (false ∷ stays) (x ∷ xs) h = map_alike f g stays xs (λ j. h (suc j))

module _ (w : World) (released : Released) (fit : IsFit w) (closed : IsClosed w.classes) (good : IsGood w.classes) (some : zero < length w.classes.loaders)
    (records : AllPresent w.classes) (known : AreKnown w.classes) where
  abbrev k : Flags
  k = flags_of w released

  abbrev n : Numbers
  n = numbers_of w released

  abbrev cs : Classes
  cs = w.classes

  many_loaders : length k.loaders ≡ length cs.loaders
  many_loaders = length-map-range_with_len (λ l. not (is_retired cs l)) 0 (length cs.loaders)

  many_classes : length k.classes ≡ length cs.rows
  many_classes = length-map-range_with_len (is_present cs) 0 (length cs.rows)

  many_sites : length k.sites ≡ length w.places
  many_sites = length-map w.places (λ place. is_present cs place.class)

  class_number : (c : ℕ) → c < length cs.rows → shifted k.classes c ≡ renumbered n.classes c
  class_number c lt = shifted_is_number k.classes c (let many = many_classes in omega (arith, lt, many))

  -- ---- loaders

  records_alike : (rs : List (List ℕ × ℕ)) → AllByRecursion (λ r. r.1 < length cs.rows) rs → map (moved_record k) rs ≡ map (renumbered_record n) rs
  records_alike [] all = refl
  records_alike (r ∷ rs) all =
      let first = class_number r.1 all.0 in
      let rest = records_alike rs all.1 in
      λ i. (r.0, first i) ∷ rest i

  loaders_alike : map (map (moved_record k)) (kept k.loaders cs.loaders) ≡ map (map (renumbered_record n)) (staying (staying_loaders cs) cs.loaders)
  loaders_alike =
      ap (map (map (moved_record k))) (kept_is k.loaders cs.loaders (let many = many_loaders in omega (arith, many)))
      ∙ map_alike (map (moved_record k)) (map (renumbered_record n)) k.loaders cs.loaders
      (λ l rs at stays. records_alike rs (all_at (AllByRecursion (λ r. r.1 < length cs.rows)) cs.loaders l rs at good.there))

  -- ---- classes

  options_alike : (o : Option ℕ) (ps : List ℕ) → AllByRecursion (λ p. p < length cs.rows) (option_to_list o ++ ps)
      → option_map (shifted k.classes) o ≡ option_map (renumbered n.classes) o
  options_alike None ps all = refl
  options_alike (Some s) ps all = ap Some (class_number s all.0)

  lists_alike : (ps : List ℕ) → AllByRecursion (λ p. p < length cs.rows) ps → map (shifted k.classes) ps ≡ map (renumbered n.classes) ps
  lists_alike [] all = refl
  lists_alike (p ∷ ps) all =
      let first = class_number p all.0 in
      let rest = lists_alike ps all.1 in
      λ i. first i ∷ rest i

  later : (o : Option ℕ) (ps : List ℕ) → AllByRecursion (λ p. p < length cs.rows) (option_to_list o ++ ps) → AllByRecursion (λ p. p < length cs.rows) ps
  later None ps all = all
  later (Some s) ps all = all.1

  lower : (c m : ℕ) → c < m → (ps : List ℕ) → AllByRecursion (λ p. p < c) ps → AllByRecursion (λ p. p < m) ps
  lower c m lt [] all = tt
  lower c m lt (p ∷ ps) all = (let first = all.0 in omega (arith, first, lt), lower c m lt ps all.1)

  class_alike : (c : ℕ) (row : Class) → slice_get cs.rows c ≡ Some row → slice_get k.classes c ≡ Some true → moved_class k row ≡ renumbered_class n row
  class_alike c row at stays =
      let live = not_true (is_retired cs row.loader) (same_Some (not (is_retired cs row.loader)) true (sym (class_at cs c row at) ∙ stays)) in
      let there = live_in_range w released fit closed some records c row at live in
      let loader = shifted_is_number k.loaders row.loader (let many = many_loaders in omega (arith, there, many)) in
      let below = lower c (length cs.rows) (slice_get_within cs.rows c row at) (parents row)
      (recursion_from_All (λ p. p < c) (parents row) (good.ordered c row at)) in
      let superclass = options_alike row.superclass row.interfaces below in
      let interfaces = lists_alike row.interfaces (later row.superclass row.interfaces below) in
      λ i. record { loader = loader i; file = row.file; superclass = superclass i; interfaces = interfaces i }
    where
      not_true : (b : Bool) → not b ≡ true → b ≡ false
      not_true true e = cc
      not_true false e = refl

  rows_alike : map (moved_class k) (kept k.classes cs.rows) ≡ map (renumbered_class n) (staying (staying_classes cs) cs.rows)
  rows_alike =
      ap (map (moved_class k)) (kept_is k.classes cs.rows (let many = many_classes in omega (arith, many)))
      ∙ map_alike (moved_class k) (renumbered_class n) k.classes cs.rows class_alike

  -- ---- retired loaders are gone

  none_retired : (ls : List ℕ) → ((l : ℕ) → list_any (λ m. m == l) ls ≡ true → is_retired cs l ≡ true) → filter_map (moved k.loaders) ls ≡ []
  none_retired [] h = refl
  none_retired (l ∷ ls) h =
      let gone = h l (or_left (l == l) (list_any (λ m. m == l) ls) (nat_eq_equiv.refl l)) in
      let there = known l gone in
      let flag = tested_at (λ l. not (is_retired cs l)) (length cs.loaders) l there ∙ ap (λ (b : Bool). Some (not b)) gone in
      ap (λ (o : Option ℕ). cons_option o (filter_map (moved k.loaders) ls)) (none_of (moved k.loaders l) (moved_some k.loaders l false flag))
      ∙ none_retired ls (λ m is. h m (or_right (l == m) (list_any (λ j. j == m) ls) is))

  -- ---- places

  places_alike : map (moved_place k) (kept k.sites w.places) ≡ map (renumbered_place n) (staying (staying_sites cs w.places) w.places)
  places_alike =
      ap (map (moved_place k)) (kept_is k.sites w.places (let many = many_sites in omega (arith, many)))
      ∙ map_alike (moved_place k) (renumbered_place n) k.sites w.places
      (λ s place at stays.
      let row = place_row w released fit closed some records s place at in
      ap (λ (c : ℕ). record place { class = c }) (class_number place.class (slice_get_within cs.rows place.class row.0 row.1)))

  -- ---- bindings

  abbrev is_kept : ℕ × ℕ → Bool
  is_kept b = is_in_staying_class w b.0 && not (is_missing w.sites.call_sites b.1)

  bindings_alike : (bs : List (ℕ × ℕ))
      → ((i : ℕ) (b : ℕ × ℕ) → slice_get bs i ≡ Some b → (is_kept b ≡ true → moved_binding k b ≡ Some (renumbered_binding n b))
      × (is_kept b ≡ false → moved_binding k b ≡ None))
      → filter_map (moved_binding k) bs ≡ map (renumbered_binding n) (filter is_kept bs)
  bindings_alike [] h = refl
  bindings_alike (b ∷ bs) h = by_test (is_kept b) refl (bindings_alike bs (λ i. h (suc i)))
    where
      by_test : (t : Bool) → is_kept b ≡ t → filter_map (moved_binding k) bs ≡ map (renumbered_binding n) (filter is_kept bs)
          → cons_option (moved_binding k b) (filter_map (moved_binding k) bs)
          ≡ map (renumbered_binding n) (if t then b ∷ filter is_kept bs else filter is_kept bs)
      by_test true is rest = let first = (h zero b refl).0 is in λ i. cons_option (first i) (rest i)
      by_test false is rest = let first = (h zero b refl).1 is in λ i. cons_option (first i) (rest i)

  binding_alike : (i : ℕ) (b : ℕ × ℕ) → slice_get w.bindings i ≡ Some b → (is_kept b ≡ true → moved_binding k b ≡ Some (renumbered_binding n b))
      × (is_kept b ≡ false → moved_binding k b ≡ None)
  binding_alike i b at = (stays, λ is. goes (is_in_staying_class w b.0) refl is)
    where
      bound : IsBinding w b
      bound = fit.bindings i b at

      within : b.0 < length k.sites
      within = let there = slice_get_within w.places b.0 bound.place bound.requested in let many = many_sites in omega (arith, there, many)

      site_flag : (t : Bool) → is_in_staying_class w b.0 ≡ t → slice_get k.sites b.0 ≡ Some t
      site_flag t is =
          slice_get-map (λ place. is_present cs place.class) w.places b.0
          ∙ (ap (option_map (λ place. is_present cs place.class)) bound.requested
          ∙ ap Some (sym (ap (λ o. option_map_or (λ place. is_present cs place.class) o false) bound.requested) ∙ is))

      stays : is_kept b ≡ true → moved_binding k b ≡ Some (renumbered_binding n b)
      stays both =
          let is = first_test (is_in_staying_class w b.0) _ both in
          let there = not-true (is_missing w.sites.call_sites b.1) (second_test (is_in_staying_class w b.0) _ both) in
          let site = sym (number_is k.sites b.0 within) ∙ number_of k.sites b.0 (site_flag true is) in
          let flag = bound_stays w released i b at there is in
          let call_site = sym (number_is k.call_sites b.1 (slice_get_within k.call_sites b.1 true flag)) ∙ number_of k.call_sites b.1 flag in
          λ j. option_and_then (λ s. option_map (λ c. (s, c)) (call_site j)) (site j)

      nothing : (o : Option ℕ) → option_and_then {U = ℕ × ℕ} (λ (s : ℕ). option_map (λ (c : ℕ). (s, c)) None) o ≡ None
      nothing None = refl
      nothing (Some s) = refl

      goes : (t : Bool) → is_in_staying_class w b.0 ≡ t → (t && not (is_missing w.sites.call_sites b.1)) ≡ false → moved_binding k b ≡ None
      goes false is both = ap (option_and_then (λ s. option_map (λ c. (s, c)) (moved k.call_sites b.1)))
          (none_of (moved k.sites b.0) (moved_some k.sites b.0 false (site_flag false is)))
      goes true is both =
          let low = bound.within in
          let many = call_sites_length w released in
          let gone = sym (number_is k.call_sites b.1 (omega (arith, low, many)))
          ∙ call_site_gone w released b.1 (not-false (is_missing w.sites.call_sites b.1) both) in
          ap (λ (o : Option ℕ). option_and_then (λ s. option_map (λ c. (s, c)) o) (moved k.sites b.0)) gone ∙ nothing (moved k.sites b.0)

  -- ---- call sites

  many_call_sites : length k.call_sites ≡ length w.sites.call_sites
  many_call_sites = call_sites_length w released

  many_switches : length k.switches ≡ length w.sites.switches
  many_switches = switches_length w released

  target_alike : (c : ℕ) → c < length w.sites.call_sites → (ty : List ℕ) (t : Target) → part_fault w c ty t ≡ None → moved_target k t ≡ renumbered_target n t
  target_alike c lt ty (Method m) none =
      let named = test_none (not (may_be_named cs m)) UnknownMethod (first_none (then_some (not (may_be_named cs m)) UnknownMethod) _ none).0 in
      let present = first_test (is_present cs m.class) _ (not-false (may_be_named cs m) named) in
      ap (λ (d : ℕ). Method (record m { class = d })) (class_number m.class (passes_within (λ row. not (is_retired cs row.loader)) cs.rows m.class present))
  target_alike c lt ty (Guard p first fallback) none =
      let known = first_none (then_some (is_missing w.sites.switches p) UnknownSwitch) _ none in
      let left = first_none (part_fault w c ty first) _ known.1 in
      let right = first_none (part_fault w c ty fallback) [] left.1 in
      let there = present_within w.sites.switches p (test_none (is_missing w.sites.switches p) UnknownSwitch known.0) in
      let many = many_switches in
      let point = shifted_is_number k.switches p (omega (arith, there, many)) in
      let x = target_alike c lt ty first left.0 in
      let y = target_alike c lt ty fallback right.0 in
      λ i. Guard (point i) (x i) (y i)
  target_alike c lt ty (Invoker d) none =
      let order = first_none (then_some (nat_le c d) (InvokerOrder d)) _ none in
      let less = leb-false c d (test_none (nat_le c d) (InvokerOrder d) order.0) in
      let many = many_call_sites in
      ap Invoker (shifted_is_number k.call_sites d (omega (arith, less, lt, many)))

  -- a call site, unless it is released
  row_alike : (c : ℕ) (row : Option CallSite) → slice_get w.sites.call_sites c ≡ Some row
      → option_map (moved_call_site k) row ≡ option_map (renumbered_call_site n) row
  row_alike c None at = refl
  row_alike c (Some site) at =
      let there : unreleased w.sites.call_sites c ≡ Some site = ap (option_and_then (λ row. row)) at in
      let deep = first_none (then_some (nat_lt 64 (depth site.target) || nat_lt 255 (parts site.target)) TooDeep) _ (fit.targets c site there) in
      let part = first_none (part_fault w c site.ty site.target) [] deep.1 in
      ap (λ (t : Target). Some (record site { target = t }))
      (target_alike c (slice_get_within w.sites.call_sites c (Some site) at) site.ty site.target part.0)

  call_sites_alike : map (option_map (moved_call_site k)) (kept k.call_sites w.sites.call_sites)
      ≡ map (option_map (renumbered_call_site n)) (staying (staying_call_sites w released) w.sites.call_sites)
  call_sites_alike =
      ap (map (option_map (moved_call_site k))) (kept_is k.call_sites w.sites.call_sites (let many = many_call_sites in omega (arith, many)))
      ∙ map_alike (option_map (moved_call_site k)) (option_map (renumbered_call_site n)) k.call_sites w.sites.call_sites
      (λ c row at stays. row_alike c row at)

  pub world_first : moved_world k w ≡ renewed w released
  world_first = λ i. record {
    classes = record {
      loaders = loaders_alike i;
      rows = rows_alike i;
      retired = none_retired cs.retired (λ l is. is) i;
    };
    places = places_alike i;
    bindings = bindings_alike w.bindings binding_alike i;
    sites = record {
      call_sites = call_sites_alike i;
      switches = kept_is k.switches w.sites.switches (let many = many_switches in omega (arith, many)) i;
    };
  }
