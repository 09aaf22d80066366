-- What one event leaves at a site, by whether it drops or installs it.
use Rattle.std.specs.Prelude.{◌≡◌, ℕ, zero, suc, ◌+◌, ◌<◌, ◌≤◌, ◌==◌, ◌&&◌, ◌||◌, ◌⊎◌, Bool, true, false, List, [], ◌∷◌, ◌++◌, filter_map, take, get_or}
use Rattle.std.specs.Prelude.{length, Option, Some, None, option_map, is_some, is_none, Result, if◌then◌else◌}
use Rattle.std.specs.List.{AllByRecursion, range_with_len, cons_option}
use Rattle.std.proofs.Common.{refl, ap, sym, subst, ◌∙◌, arith, inl, inr}
use Rattle.std.proofs.lemmas.Bool.{both_ways, cases_order}
use Rattle.std.proofs.lemmas.Bool.Decides.{Decides-eqb}
use Rattle.std.proofs.lemmas.List.{take_more}
use Rattle.std.proofs.lemmas.List.Elements.{filter_map-append}
use Rattle.jl_types.specs.declared.link.Link.{Link}
use Rattle.jl_types.specs.declared.answer.Unlinked.{Unlinked}
use Rattle.jl_types.specs.Events.Event.{Event}
use Rattle.jl_types.specs.ForProofs.SameLink.{link_decides}
use Rattle.jl_types.specs.Linkage.Links.{scratch}
use Rattle.jl_types.specs.Events.History.{world_after, installed, installs, kept, dropped, site_numbers}
use Rattle.jl_types.specs.Events.Entries.{change, slots_changed}
use Rattle.jl_types.proofs.Bools.{Passing, any-filter, any-filter-at, any-range-from}
use Rattle.jl_types.proofs.InstalledLinks.{installed_requested}
use Rattle.jl_types.proofs.OneMore.{installed_step}
use Rattle.jl_types.proofs.Written.{unrequested}
use Rattle.jl_types.proofs.Places.{places_grow}
use Rattle.jl_hierarchy.specs.ForProofs.Kept.{Rises}
use Rattle.jl_hierarchy.proofs.Rising.{none_up_to, other_number}
use Rattle.jl_core.specs.ForProofs.Touched.{has, AreTouched}
use Rattle.jl_types.proofs.Installed.{kept_none}
use Rattle.jl_core.proofs.KeptLaws.{kept_if}

pub change_none : (o : Option Link) → change o o ≡ None
change_none None = refl
change_none (Some l) = ap (λ (b : Bool). if b then None else Some (Some l)) ((link_decides l l).1 refl)

-- a link that doesn't go is the one from before
pub stays_so : (o : Option Link) (r : Result Link Unlinked) → (is_some o && is_none (kept false o r)) ≡ false → kept false o r ≡ o
stays_so None r e = kept_none r
stays_so (Some l) r e = kept_if l r (by_parts (kept false (Some l) r) e)
  where
    by_parts : (k : Option Link) → is_none k ≡ false → is_some k ≡ true
    by_parts None f = cc
    by_parts (Some m) f = refl

module _ (h : List Event) (e : Event) (s : ℕ) where
  abbrev goes : ℕ → Bool
  goes n = is_some (installed h n) && is_none (installed (h ++ e ∷ []) n)

  not_gone : has s (dropped h e) ≡ false → goes s ≡ false
  not_gone f = by_test (goes s) refl
    where
      some_link : (o : Option Link) (b : Bool) → (is_some o && b) ≡ true → (l : Link) × (o ≡ Some l)
      some_link None b k = cc
      some_link (Some l) b k = (l, refl)

      by_test : (b : Bool) → goes s ≡ b → b ≡ false
      by_test false k = refl
      by_test true k =
          let one = some_link (installed h s) (is_none (installed (h ++ e ∷ []) s)) k in
          let lt = installed_requested h s one.0 one.1 in
          absurd (both_ways (has s (dropped h e)) f
          (any-filter-at goes (λ n. n == s) s (site_numbers h)
          (any-range-from (λ n. n == s) 0 (length (world_after h).places) s (omega arith) (omega arith) ((Decides-eqb s s).1 refl))
          k ((Decides-eqb s s).1 refl)))

  gone_so : has s (dropped h e) ≡ true → installed (h ++ e ∷ []) s ≡ None
  gone_so f =
      let one : Passing goes (λ n. n == s) = any-filter goes (λ n. n == s) (site_numbers h) f in
      nothing (installed h s) (installed (h ++ e ∷ []) s) (subst (λ n. goes n ≡ true) ((Decides-eqb one.item s).0 one.passes) one.meets)
    where
      nothing : (o k : Option Link) → (is_some o && is_none k) ≡ true → k ≡ None
      nothing None k x = cc
      nothing (Some l) None x = refl
      nothing (Some l) (Some m) x = cc

  -- where it neither drops nor installs it
  pub untouched : installs s e ≡ false → has s (dropped h e) ≡ false → installed (h ++ e ∷ []) s ≡ installed h s
  untouched i f =
      let now = scratch (world_after (h ++ e ∷ [])) s in
      let as_kept : installed (h ++ e ∷ []) s ≡ kept false (installed h s) now =
      installed_step h e s ∙ ap (λ (b : Bool). kept b (installed h s) now) i in
      as_kept ∙ stays_so (installed h s) now (ap (λ (o : Option Link). is_some (installed h s) && is_none o) (sym as_kept) ∙ not_gone f)

  -- where it doesn't install it
  pub left_after : installs s e ≡ false → (if has s (dropped h e) then None else installed h s) ≡ installed (h ++ e ∷ []) s
  left_after i = by_test (has s (dropped h e)) refl
    where
      by_test : (b : Bool) → has s (dropped h e) ≡ b → (if b then None else installed h s) ≡ installed (h ++ e ∷ []) s
      by_test true f = sym (gone_so f)
      by_test false f = sym (untouched i f)

-- ---- of rising numbers, those among which all are that count

not_first : (a x : ℕ) → a < x → (x == a) ≡ false
not_first a x lt = by_test (x == a) refl
  where
    by_test : (b : Bool) → (x == a) ≡ b → b ≡ false
    by_test true e = absurd (let at = (Decides-eqb x a).0 e in omega arith)
    by_test false e = refl

module _ {A : Type 0} (f : ℕ → Option A) where
  pub one_more : (xs : List ℕ) (n x : ℕ) → n < length xs → x ≡ get_or xs n x → filter_map f (take (n + 1) xs) ≡ filter_map f (take n xs) ++ cons_option (f x) []
  one_more xs n x lt is =
      ap (filter_map f) (take_more xs n x lt)
      ∙ filter_map-append f (take n xs) (get_or xs n x ∷ [])
      ∙ ap (λ (k : ℕ). filter_map f (take n xs) ++ cons_option (f k) []) (sym is)

  none_at : (a : ℕ) (xs : List A) → f a ≡ None → cons_option (f a) xs ≡ xs
  none_at a xs e = ap (λ (o : Option A). cons_option o xs) e

  none_over : (a n : ℕ) → ((s : ℕ) → a ≤ s → f s ≡ None) → filter_map f (range_with_len a n) ≡ []
  none_over a zero h = refl
  none_over a (suc n) h = none_at a (filter_map f (range_with_len (a + 1) n)) (h a (omega arith)) ∙ none_over (a + 1) n (λ s le. h s (omega arith))

  none_among : (a : ℕ) (xs : List ℕ) → AllByRecursion (λ x. a ≤ x) xs → ((s : ℕ) → a ≤ s → f s ≡ None) → filter_map f xs ≡ []
  none_among a [] le h = refl
  none_among a (x ∷ xs) le h = none_at x (filter_map f xs) (h x le.0) ∙ none_among a xs le.1 h

  from_above : (x : ℕ) (xs : List ℕ) → AllByRecursion (λ y. x < y) xs → AllByRecursion (λ y. x + 1 ≤ y) xs
  from_above x [] h = h
  from_above x (y ∷ ys) h = (let lt = h.0 in omega arith, from_above x ys h.1)

  higher : (a x : ℕ) (xs : List ℕ) → a < x → AllByRecursion (λ y. x < y) xs → AllByRecursion (λ y. a + 1 ≤ y) xs
  higher a x [] lt h = h
  higher a x (y ∷ ys) lt h = (let above = h.0 in omega arith, higher a x ys lt h.1)

  pub over_range : (n a : ℕ) (xs : List ℕ) → Rises xs → AllByRecursion (λ x. a ≤ x) xs
      → ((s : ℕ) → a ≤ s → has s xs ≡ false → f s ≡ None) → ((s : ℕ) → a + n ≤ s → f s ≡ None)
      → filter_map f xs ≡ filter_map f (range_with_len a n)
  over_range zero a xs rises le out past = none_among a xs le (λ s h. past s (omega arith))
  over_range (suc n) a [] rises le out past = sym (none_over a (suc n) (λ s h. out s h refl))
  over_range (suc n) a (x ∷ xs) rises le out past = by_order (cases_order a x) (over_range n (a + 1) xs rises.1) (over_range n (a + 1) (x ∷ xs) rises)
    where
      by_order : ((a ≡ x) ⊎ ((a < x) ⊎ (x < a)))
          → (AllByRecursion (λ y. a + 1 ≤ y) xs → ((s : ℕ) → a + 1 ≤ s → has s xs ≡ false → f s ≡ None) → ((s : ℕ) → a + 1 + n ≤ s → f s ≡ None)
          → filter_map f xs ≡ filter_map f (range_with_len (a + 1) n))
          → (AllByRecursion (λ y. a + 1 ≤ y) (x ∷ xs) → ((s : ℕ) → a + 1 ≤ s → has s (x ∷ xs) ≡ false → f s ≡ None) → ((s : ℕ) → a + 1 + n ≤ s → f s ≡ None)
          → filter_map f (x ∷ xs) ≡ filter_map f (range_with_len (a + 1) n))
          → filter_map f (x ∷ xs) ≡ cons_option (f a) (filter_map f (range_with_len (a + 1) n))
      by_order (inl same) rest whole =
          (λ i. cons_option (f (sym same i)) (filter_map f xs))
          ∙ ap (cons_option (f a))
          (rest (subst (λ k. AllByRecursion (λ y. k + 1 ≤ y) xs) (sym same) (from_above x xs rises.0))
          (λ s h none. out s (omega arith) (ap (λ (b : Bool). b || has s xs) (other_number x s (omega arith)) ∙ none))
          (λ s h. past s (omega arith)))
      by_order (inr (inl lt)) rest whole =
          whole ((omega arith), higher a x xs lt rises.0) (λ s h none. out s (omega arith) none) (λ s h. past s (omega arith))
          ∙ sym (none_at a (filter_map f (range_with_len (a + 1) n))
          (out a (omega arith) (ap (λ (b : Bool). b || has a xs) (not_first a x lt) ∙ none_up_to x a xs rises.0 (omega arith))))
      by_order (inr (inr gt)) rest whole = absurd (let low = le.0 in omega arith)

-- ---- the slots of one event

pub slots_are : (h : List Event) (e : Event) (dropped_by touched rising : List ℕ) (before after : ℕ → Option Link) → dropped_by ≡ dropped h e
    → ((s : ℕ) → before s ≡ installed h s) → ((s : ℕ) → after s ≡ installed (h ++ e ∷ []) s)
    → ((s : ℕ) → has s touched ≡ false → (has s dropped_by ≡ false) × (installs s e ≡ false))
    → AreTouched touched rising
    → filter_map (λ s. option_map (λ slot. (s, slot)) (change (before s) (after s))) rising ≡ slots_changed h e
slots_are h e dropped_by touched rising before after same_dropped is_before is_after outside are =
    (λ i. filter_map (λ s. option_map (λ slot. (s, slot)) (change (is_before s i) (is_after s i))) rising)
    ∙ over_range slot (length (world_after (h ++ e ∷ [])).places) 0 rising are.rises (all_low rising)
    (λ s le none. no_slot s (untouched_change s (outside s (sym (are.same s) ∙ none))))
    (λ s le. no_slot s (unrequested_change s le))
  where
    slot : ℕ → Option (ℕ × Option Link)
    slot s = option_map (λ slot. (s, slot)) (change (installed h s) (installed (h ++ e ∷ []) s))

    no_slot : (s : ℕ) → change (installed h s) (installed (h ++ e ∷ []) s) ≡ None → slot s ≡ None
    no_slot s is = ap (λ (o : Option (Option Link)). option_map (λ slot. (s, slot)) o) is

    all_low : (xs : List ℕ) → AllByRecursion (λ x. 0 ≤ x) xs
    all_low [] = tt
    all_low (x ∷ xs) = (omega arith, all_low xs)

    untouched_change : (s : ℕ) → (has s dropped_by ≡ false) × (installs s e ≡ false) → change (installed h s) (installed (h ++ e ∷ []) s) ≡ None
    untouched_change s parts =
        ap (change (installed h s)) (untouched h e s parts.1 (ap (has s) (sym same_dropped) ∙ parts.0)) ∙ change_none (installed h s)

    unrequested_change : (s : ℕ) → 0 + length (world_after (h ++ e ∷ [])).places ≤ s → change (installed h s) (installed (h ++ e ∷ []) s) ≡ None
    unrequested_change s le =
        let grown = places_grow h e in
        (λ i. change (unrequested h s (omega arith) i) (unrequested (h ++ e ∷ []) s (omega arith) i))
