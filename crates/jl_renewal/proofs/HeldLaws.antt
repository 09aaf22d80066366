-- Which call sites and switch points stay, as the code finds it: a call site that stays marks those that its target invokes.
use Rattle.std.specs.Prelude.{◌≡◌, ℕ, zero, suc, ◌+◌, ◌<◌, ◌≤◌, Bool, true, false, ◌&&◌, ◌||◌, List, [], ◌∷◌, ◌++◌, map, filter_map, drop, length}
use Rattle.std.specs.Prelude.{get_or, slice_get, slice_set, Option, Some, None, option_map, option_and_then, option_to_list, is_none, if◌then◌else◌}
use Rattle.std.specs.Bool.{then_some}
use Rattle.std.specs.List.{list_any, range_with_len}
use Rattle.std.proofs.Common.{refl, sym, ap, ap₂, ◌∙◌, arith, append-nil, append_assoc, ltb-true, drop_of_length-le}
use Rattle.std.proofs.lemmas.Bool.{or_from, ne_eqb}
use Rattle.std.proofs.lemmas.List.{get_or_at}
use lib.Seq.{drop-nil}
use Rattle.std.proofs.lemmas.List.FromFn.{map-range_with_len_more, length-map-range_with_len, get_or-map-range_with_len, fill_by_all}
use Rattle.std.proofs.lemmas.Option.{same_Some}
use Rattle.jl_types.specs.Values.Target.{Target, Method, Guard, Invoker}
use Rattle.jl_types.specs.Values.World.{CallSite, unreleased, is_missing}
use Rattle.jl_types.specs.Events.Retirement.{has_target}
use Rattle.jl_types.proofs.Bools.{or_none, first_test, second_test}
use Rattle.jl_types.proofs.Lists.{element_at, left_at}
use Rattle.jl_callsites.specs.Known.{is_known, all_known}
use Rattle.jl_callsites.proofs.Known.{known_at}
use Rattle.jl_renewal.specs.Numbers.{staying}
use Rattle.jl_renewal.specs.Staying.{invokes, guards_by, with_first, staying_from}
use Rattle.jl_renewal.specs.Marks.{marked, flagged_target}
use Rattle.jl_renewal.proofs.ReleasedRows.{row_at, not_missing}
use Rattle.jl_renewal.proofs.MarkLaws.{unchanged, changed_after, changed_map, mark_next, mark_end}

-- a target invokes call sites with smaller numbers
invokes_earlier : (points c d : ℕ) (t : Target) → is_known points c t ≡ true → c ≤ d → invokes d t ≡ false
invokes_earlier points c d (Method m) known le = refl
invokes_earlier points c d (Guard p first fallback) known le =
    let parts = second_test _ _ known in
    or_from (invokes d first) (invokes d fallback)
    (invokes_earlier points c d first (first_test _ _ parts) le)
    (invokes_earlier points c d fallback (second_test _ _ parts) le)
invokes_earlier points c d (Invoker e) known le = let lt = ltb-true e c known in ne_eqb e d (λ same. omega (arith, lt, le, same))

-- an element in the middle is another one
set_middle : (front rest : List Bool) (a b : Bool) (k : ℕ) → length front ≡ k → slice_set (front ++ a ∷ rest) k b ≡ front ++ b ∷ rest
set_middle [] rest a b zero long = refl
set_middle [] rest a b (suc k) long = cc
set_middle (x ∷ front) rest a b zero long = cc
set_middle (x ∷ front) rest a b (suc k) long = ap (λ (bs : List Bool). x ∷ bs) (set_middle front rest a b k (omega (arith, long)))

module _ (held : ℕ → Bool) (sites : List (Option CallSite)) where
  -- it is held, or one that stays invokes it, from number c on
  abbrev stays_by : ℕ → ℕ → Bool
  stays_by c d = held d || list_any (has_target (invokes d)) (staying (staying_from held c (drop c sites)) (drop c sites))

  -- from number c on, which stay; below it, which stay by those
  abbrev pub stays_after : ℕ → List Bool
  stays_after c = map (stays_by c) (range_with_len 0 c) ++ staying_from held c (drop c sites)

  -- the same, if these are the call sites from number c on
  abbrev stays_with : ℕ → List (Option CallSite) → List Bool
  stays_with c later =
      map (λ d. held d || list_any (has_target (invokes d)) (staying (staying_from held c later) later)) (range_with_len 0 c)
      ++ staying_from held c later

  -- past the last call site, those that are held
  after_all : stays_after (length sites) ≡ map held (range_with_len 0 (length sites))
  after_all =
      ap (stays_with count) (drop_of_length-le sites (omega arith))
      ∙ (append-nil _ ∙ ap (λ (f : ℕ → Bool). map f (range_with_len 0 count)) (λ i d. or_none (held d) i))
    where
      count : ℕ
      count = length sites

  module _ (c : ℕ) where
    abbrev after : List Bool
    after = staying_from held (c + 1) (drop (c + 1) sites)

    abbrev before : List Bool
    before = map (stays_by (c + 1)) (range_with_len 0 c)

    -- the flags from number c + 1 on, with the one at c
    parted : stays_after (c + 1) ≡ before ++ stays_by (c + 1) c ∷ after
    parted =
        ap (λ flags. flags ++ after) (map-range_with_len_more (stays_by (c + 1)) 0 c c (omega arith))
        ∙ append_assoc before (stays_by (c + 1) c ∷ []) after

    flag_of_next : get_or (stays_after (c + 1)) c false ≡ stays_by (c + 1) c
    flag_of_next =
        ap (λ flags. get_or flags c false) parted
        ∙ get_or_at before (stays_by (c + 1) c) after false c (length-map-range_with_len (stays_by (c + 1)) 0 c)

    -- where the next one is released, its flag is taken back
    next_released : drop c sites ≡ None ∷ drop (c + 1) sites → slice_set (stays_after (c + 1)) c false ≡ stays_after c
    next_released left =
        ap (λ flags. slice_set flags c false) parted
        ∙ (set_middle before after (stays_by (c + 1) c) false c (length-map-range_with_len (stays_by (c + 1)) 0 c)
        ∙ sym (ap (stays_with c) left))

    module _ (site : CallSite) (left : drop c sites ≡ Some site ∷ drop (c + 1) sites) where
      abbrev below : Bool → ℕ → Bool
      below one d = held d || list_any (has_target (invokes d)) (staying (one ∷ after) (Some site ∷ drop (c + 1) sites))

      -- the flags after number c, by the one at c
      joined : stays_after c ≡ map (below (stays_by (c + 1) c)) (range_with_len 0 c) ++ stays_by (c + 1) c ∷ after
      joined = ap (stays_with c) left

      -- where the next one goes, nothing changes
      next_goes : stays_by (c + 1) c ≡ false → stays_after (c + 1) ≡ stays_after c
      next_goes goes =
          parted
          ∙ (ap (λ one. before ++ one ∷ after) goes
          ∙ sym (joined ∙ ap (λ one. map (below one) (range_with_len 0 c) ++ one ∷ after) goes))

      -- where it stays, those that its target invokes stay, too
      next_stays : (points : ℕ) → stays_by (c + 1) c ≡ true → is_known points c site.target ≡ true
          → marked (λ d. invokes d site.target) (stays_after (c + 1)) ≡ stays_after c
      next_stays points stays known =
          ap (marked (λ d. invokes d site.target)) (parted ∙ ap (λ one. before ++ one ∷ after) stays)
          ∙ (changed_after mark 0 before (true ∷ after)
          ∙ (ap₂ (λ xs ys. xs ++ ys)
          (changed_map mark (stays_by (c + 1)) 0 c ∙ ap (λ (f : ℕ → Bool). map f (range_with_len 0 c)) (λ i d.
          either_way (held d) (list_any (has_target (invokes d)) (staying after (drop (c + 1) sites))) (invokes d site.target) i))
          (unchanged mark (0 + length before) (true ∷ after) (λ k flag le.
          ap (λ invoked. flag || invoked)
          (invokes_earlier points c k site.target known (omega (arith, le, length-map-range_with_len (stays_by (c + 1)) 0 c)))
          ∙ or_none flag))
          ∙ sym (joined ∙ ap (λ one. map (below one) (range_with_len 0 c) ++ one ∷ after) stays)))
        where
          mark : ℕ → Bool → Bool
          mark k flag = flag || invokes k site.target

          either_way : (x y z : Bool) → ((x || y) || z) ≡ (x || (z || y))
          either_way true y z = refl
          either_way false true true = refl
          either_way false true false = refl
          either_way false false true = refl
          either_way false false false = refl

  -- ---- a turn, by the target of the call site, if its flag is set

  -- the flags once that of a released call site is taken back
  abbrev taken_back : ℕ → List Bool → List Bool
  taken_back c flags = if is_missing sites c then slice_set flags c false else flags

  not_taken : (c : ℕ) (site : CallSite) (flags : List Bool) → unreleased sites c ≡ Some site → taken_back c flags ≡ flags
  not_taken c site flags there = ap (λ (b : Bool). if b then slice_set flags c false else flags) (not_missing sites c site there)

  target_is : (c : ℕ) (site : CallSite) (flags : List Bool) → unreleased sites c ≡ Some site → flags ≡ stays_after (c + 1)
      → flagged_target flags sites c ≡ then_some (stays_by (c + 1) c) site.target
  target_is c site flags there now =
      ap (option_and_then (λ (site : CallSite). then_some (get_or flags c false) site.target)) there
      ∙ ap (λ flag. then_some flag site.target) (ap (λ fs. get_or fs c false) now ∙ flag_of_next c)

  -- a call site that stays marks those that its target invokes
  pub turn_stays : (points c : ℕ) (t : Target) (flags between new : List Bool) → all_known points 0 sites ≡ true → flags ≡ stays_after (c + 1)
      → between ≡ taken_back c flags → flagged_target between sites c ≡ Some t → new ≡ marked (λ d. invokes d t) between → new ≡ stays_after c
  turn_stays points c t flags between new known now takes is marks = by_site (unreleased sites c) refl is
    where
      by_site : (o : Option CallSite) → unreleased sites c ≡ o
          → option_and_then (λ (site : CallSite). then_some (get_or between c false) site.target) o ≡ Some t → new ≡ stays_after c
      by_site None there some = cc
      by_site (Some site) there some =
          let current = takes ∙ (not_taken c site flags there ∙ now) in
          let own = same_target (stays_by (c + 1) c) site.target (sym (target_is c site between there current) ∙ is) in
          marks
          ∙ (ap₂ (λ u (fs : List Bool). marked (λ d. invokes d u) fs) (sym own.1) current
          ∙ next_stays c site (left_at sites c (Some site) (row_at sites c site there)) points own.0 (known_at points sites c site there known))
        where
          same_target : (b : Bool) (u : Target) → then_some b u ≡ Some t → (b ≡ true) × (u ≡ t)
          same_target true u e = (refl, same_Some u t e)
          same_target false u e = cc

  -- one that goes marks none
  pub turn_goes : (c : ℕ) (flags between : List Bool) → c < length sites → flags ≡ stays_after (c + 1) → between ≡ taken_back c flags
      → flagged_target between sites c ≡ None → between ≡ stays_after c
  turn_goes c flags between lt now takes is = let row = element_at sites c lt in by_row row.0 row.1
    where
      not_there : (b : Bool) (u : Target) → then_some b u ≡ None → b ≡ false
      not_there true u e = cc
      not_there false u e = refl

      by_row : (row : Option CallSite) → slice_get sites c ≡ Some row → between ≡ stays_after c
      by_row None at =
          takes
          ∙ (ap (λ (b : Bool). if b then slice_set flags c false else flags) (ap (λ o. is_none (option_and_then (λ row. row) o)) at)
          ∙ (ap (λ (fs : List Bool). slice_set fs c false) now ∙ next_released c (left_at sites c None at)))
      by_row (Some site) at =
          let there : unreleased sites c ≡ Some site = ap (option_and_then (λ row. row)) at in
          let current = takes ∙ (not_taken c site flags there ∙ now) in
          current ∙ next_goes c site (left_at sites c (Some site) at)
          (not_there (stays_by (c + 1) c) site.target (sym (target_is c site between there current) ∙ is))

-- ---- from flags by number

-- where the same are held, but for those that are released, the same stay
same_held : (f g : ℕ → Bool) (c : ℕ) (sites : List (Option CallSite))
    → ((i k : ℕ) → c + i ≡ k → i < length sites → is_missing sites i ≡ false → f k ≡ g k)
    → staying_from f c sites ≡ staying_from g c sites
same_held f g c [] same = refl
same_held f g c (None ∷ later) same =
    ap (λ (stays : List Bool). false ∷ stays)
    (same_held f g (c + 1) later (λ i k e lt there. same (suc i) k (omega (arith, e)) (omega (arith, lt)) there))
same_held f g c (Some site ∷ later) same =
    ap₂ (λ held stays. with_first held c later stays) (same zero c (omega arith) (omega arith) refl)
    (same_held f g (c + 1) later (λ i k e lt there. same (suc i) k (omega (arith, e)) (omega (arith, lt)) there))

pub by_flags : (wanted held : ℕ → Bool) (sites : List (Option CallSite)) → ((k : ℕ) → is_missing sites k ≡ false → wanted k ≡ held k)
    → staying_from (λ c. get_or (map wanted (range_with_len 0 (length sites))) c false) 0 sites ≡ staying_from held 0 sites
by_flags wanted held sites same =
    same_held (λ c. get_or (map wanted (range_with_len 0 (length sites))) c false) held 0 sites
    (λ i k e lt there.
    let at : i ≡ k = omega (arith, e) in
    get_or-map-range_with_len wanted 0 (length sites) k k false (omega (arith, lt, at)) (omega arith)
    ∙ same k (ap (is_missing sites) (sym at) ∙ there))

pub flags_at_first : (flags : List Bool) (sites : List (Option CallSite)) → length flags ≡ length sites
    → flags ≡ stays_after (λ c. get_or flags c false) sites (length sites)
flags_at_first flags sites long =
    fill_by_all (λ c. get_or flags c false) flags (length sites) false long (λ k lt. refl)
    ∙ sym (after_all (λ c. get_or flags c false) sites)

-- flags that are kept where a test passes
pub those_kept : (flags : List Bool) (wanted test : ℕ → Bool) (count : ℕ) → flags ≡ map wanted (range_with_len 0 count)
    → map (λ k. test k && get_or flags k false) (range_with_len 0 count) ≡ map (λ k. test k && wanted k) (range_with_len 0 count)
those_kept flags wanted test count are =
    fill_by_all (λ k. test k && wanted k) (map both (range_with_len 0 count)) count false (length-map-range_with_len both 0 count)
    (λ k lt. get_or-map-range_with_len both 0 count k k false lt (omega arith)
    ∙ ap (λ (b : Bool). test k && b) (ap (λ (fs : List Bool). get_or fs k false) are
    ∙ get_or-map-range_with_len wanted 0 count k k false lt (omega arith)))
  where
    both : ℕ → Bool
    both k = test k && get_or flags k false

-- ---- switch points

-- the targets of these call sites, but for those that are released
abbrev targets_of : List (Option CallSite) → List Target
targets_of rows = filter_map (option_map (λ site. site.target)) rows

-- the targets of those that stay from number k on
abbrev targets_left : List Bool → List (Option CallSite) → ℕ → List Target
targets_left stays sites k = targets_of (staying (drop k stays) (drop k sites))

-- none stays of no call sites
none_of : (flags : List Bool) → targets_of (staying flags []) ≡ []
none_of [] = refl
none_of (flag ∷ flags) = refl

none_left_of : (stays : List Bool) (k : ℕ) → targets_left stays [] k ≡ []
none_left_of stays k = ap (λ (sites : List (Option CallSite)). targets_of (staying (drop k stays) sites)) (drop-nil k) ∙ none_of (drop k stays)

-- and none where no flag is left
none_without : (sites : List (Option CallSite)) (k : ℕ) → targets_left [] sites k ≡ []
none_without sites k = ap (λ (flags : List Bool). targets_of (staying flags (drop k sites))) (drop-nil k)

none_flagged : (sites : List (Option CallSite)) (k : ℕ) → flagged_target [] sites k ≡ None
none_flagged sites k = by_site (unreleased sites k)
  where
    by_site : (o : Option CallSite) → option_and_then (λ (site : CallSite). then_some (get_or [] k false) site.target) o ≡ None
    by_site None = refl
    by_site (Some site) = refl

by_number : (stays : List Bool) (sites : List (Option CallSite)) (k : ℕ)
    → targets_left stays sites k ≡ option_to_list (flagged_target stays sites k) ++ targets_left stays sites (suc k)
by_number [] sites k =
    none_without sites k
    ∙ sym (ap₂ (λ o (ts : List Target). option_to_list o ++ ts) (none_flagged sites k) (none_without sites (suc k)))
by_number (stay ∷ stays) [] k = none_left_of (stay ∷ stays) k ∙ sym (none_left_of (stay ∷ stays) (suc k))
by_number (true ∷ stays) (None ∷ sites) zero = refl
by_number (true ∷ stays) (Some site ∷ sites) zero = refl
by_number (false ∷ stays) (None ∷ sites) zero = refl
by_number (false ∷ stays) (Some site ∷ sites) zero = refl
by_number (stay ∷ stays) (site ∷ sites) (suc k) = by_number stays sites k

-- the next one's, and those of the others
next_left : (stays : List Bool) (sites : List (Option CallSite)) (k : ℕ)
    → targets_left stays sites k ≡ option_to_list (flagged_target stays sites k) ++ targets_left stays sites (k + 1)
next_left stays sites k =
    let up : suc k ≡ k + 1 = omega arith in
    by_number stays sites k ∙ ap (λ n. option_to_list (flagged_target stays sites k) ++ targets_left stays sites n) up

-- those by which one of the targets from number k on guards are set
abbrev pub guarded_from : List Bool → List (Option CallSite) → ℕ → List Bool → List Bool
guarded_from stays sites k kept = marked (λ p. list_any (guards_by p) (targets_left stays sites k)) kept

module _ (stays : List Bool) (sites : List (Option CallSite)) (k : ℕ) (kept : List Bool) where
  -- one that stays marks those by which its target guards
  pub guards_next : (t : Target) (marked_now : List Bool) → flagged_target stays sites k ≡ Some t → marked_now ≡ marked (λ p. guards_by p t) kept
      → guarded_from stays sites (k + 1) marked_now ≡ guarded_from stays sites k kept
  guards_next t marked_now is marks =
      mark_next guards_by (targets_left stays sites k) kept t (targets_left stays sites (k + 1)) marked_now
      (next_left stays sites k ∙ ap (λ o. option_to_list o ++ targets_left stays sites (k + 1)) is) marks

  -- one that goes marks none
  pub guards_skip : flagged_target stays sites k ≡ None → guarded_from stays sites (k + 1) kept ≡ guarded_from stays sites k kept
  guards_skip is =
      ap (λ ts. marked (λ p. list_any (guards_by p) ts) kept)
      (sym (next_left stays sites k ∙ ap (λ o. option_to_list o ++ targets_left stays sites (k + 1)) is))

  -- past the last call site nothing is left to mark
  pub guards_end : length sites ≤ k → guarded_from stays sites k kept ≡ kept
  guards_end le =
      mark_end guards_by (targets_left stays sites k) kept
      (ap (λ (left : List (Option CallSite)). targets_of (staying (drop k stays) left)) (drop_of_length-le sites le) ∙ none_of (drop k stays))

any_target : (test : Target → Bool) (rows : List (Option CallSite)) → list_any test (targets_of rows) ≡ list_any (has_target test) rows
any_target test [] = refl
any_target test (None ∷ rows) = any_target test rows
any_target test (Some site ∷ rows) = ap (λ (b : Bool). test site.target || b) (any_target test rows)

pub guards_of_all : (stays : List Bool) (sites : List (Option CallSite)) (kept : List Bool)
    → guarded_from stays sites 0 kept ≡ marked (λ p. list_any (has_target (guards_by p)) (staying stays sites)) kept
guards_of_all stays sites kept =
    ap (λ (test : ℕ → Bool). marked test kept) (λ i p. any_target (guards_by p) (staying stays sites) i)
