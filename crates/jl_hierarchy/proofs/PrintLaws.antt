-- The place of a method by the sorted prints of all.
use Rattle.std.specs.Prelude.{◌≡◌, ℕ, zero, suc, ◌+◌, ◌<◌, ◌≤◌, Bool, true, false, not, ◌&&◌, ◌||◌, ◌==◌, cond, drop, List, ◌∷◌, [], length, get_or}
use Rattle.std.specs.Prelude.{slice_get, filter, find, position, option_map, Option, Some, None, is_some, ◌++◌}
use Rattle.std.specs.List.{position_from, list_any, AllWithin}
use Rattle.std.specs.List.Sorted.{IsNonDecreasingBy, IsStableByKey}
use Rattle.std.specs.Option.{option_map_or}
use Rattle.std.specs.Ordering.{nat_cmp, is_lt}
use Rattle.std.specs.Str.{bytes_eq}
use Rattle.std.proofs.lemmas.Bool.{both_ways}
use Rattle.std.proofs.lemmas.List.Folds.{list_any_at}
use Rattle.std.proofs.lemmas.Option.{same_Some, slice_get_within, slice_get-get_or}
use Rattle.std.proofs.Common.{Less, Equal, Greater, refl, ap, sym, ◌∙◌, subst, arith, append_assoc, append-nil, get_or-drop, ltb, le-ltb, ne_eqb}
use Rattle.std.proofs.Common.{eq-eqb, ltb-true, ltb-false, ap₂}
use Rattle.std.proofs.lemmas.List.{length-drop, get_or_default}
use Rattle.std.proofs.lemmas.Iterator.Adapters.{position_from-zero}
use Rattle.std.proofs.lemmas.Slice.Eq.{bytes_eq-Decides}
use Rattle.jl_names.proofs.Tests.{by_test}
use Rattle.jl_class.specs.Class.{Method}
use Rattle.jl_types.specs.Values.Members.{is_called}
use Rattle.jl_types.proofs.Lists.{left_at, none_left}
use Rattle.jl_hierarchy.specs.declared.row.Printed.{Printed}
use Rattle.jl_hierarchy.specs.Prints.{print_of, print_of_method, printed_from, has_print, AreSorted}
use Rattle.jl_hierarchy.specs.Redeclared.{has_method}

-- ---- the prints as they are made

-- one more
pub print_added : (made : List Printed) (ms : List Method) (n : ℕ) (m : Method) → slice_get ms n ≡ Some m
    → made ++ printed_from n (drop n ms) ≡ (made ++ record { print = print_of_method m; place = n } ∷ []) ++ printed_from (n + 1) (drop (n + 1) ms)
print_added made ms n m e =
    ap (λ (xs : List Method). made ++ printed_from n xs) (left_at ms n m e)
    ∙ sym (append_assoc made (record { print = print_of_method m; place = n } ∷ []) (printed_from (n + 1) (drop (n + 1) ms)))

pub all_printed : (made : List Printed) (ms : List Method) (n : ℕ) → slice_get ms n ≡ None → made ++ printed_from n (drop n ms) ≡ made
all_printed made ms n e = ap (λ (xs : List Method). made ++ printed_from n xs) (none_left ms n e) ∙ append-nil made

-- ---- the prints in order

answers_less : (a b : ℕ) → is_lt (nat_cmp a b) ≡ ltb a b
answers_less a b = by_tests (ltb a b) (a == b)
  where
    by_tests : (x y : Bool) → is_lt (cond x Less (cond y Equal Greater)) ≡ x
    by_tests true y = refl
    by_tests false true = refl
    by_tests false false = refl

-- numbers of which none is less are equal
ties_equal : (a b : ℕ) → (not (is_lt (nat_cmp a b)) && not (is_lt (nat_cmp b a))) ≡ (b == a)
ties_equal a b = by_test (ltb a b)
    (λ t. let lt = ltb-true a b t in sides true false false t (le-ltb b a (omega arith)) (ne_eqb b a (λ e. omega (arith, e))) refl)
    (λ f. let le = ltb-false a b f in by_test (ltb b a)
    (λ t. let lt = ltb-true b a t in sides false true false f t (ne_eqb b a (λ e. omega (arith, e))) refl)
    (λ g. let ge = ltb-false b a g in sides false false true f g (eq-eqb b a (omega arith)) refl))
  where
    sides : (x y z : Bool) → ltb a b ≡ x → ltb b a ≡ y → (b == a) ≡ z → (not x && not y) ≡ z
        → (not (is_lt (nat_cmp a b)) && not (is_lt (nat_cmp b a))) ≡ (b == a)
    sides x y z p q r s = ap₂ (λ (u v : Bool). not u && not v) (answers_less a b ∙ p) (answers_less b a ∙ q) ∙ s ∙ sym r

-- a stable sort by prints leaves those of one print as they were
pub same_of_print : (xs ys : List Printed) → IsStableByKey (λ (e : Printed). e.print) nat_cmp xs ys → (p : ℕ)
    → filter (has_print p) ys ≡ filter (has_print p) xs
same_of_print xs ys stable p =
    subst (λ (test : Printed → Bool). filter test ys ≡ filter test xs) (λ i e. ties_equal p e.print i) (stable (record { print = p; place = 0 }))

-- ---- the first element that passes two tests

module _ {X : Type 0} (q t : X → Bool) where
  found_in_filter : (xs : List X) → find (λ e. q e && t e) xs ≡ find t (filter q xs)
  found_in_filter [] = refl
  found_in_filter (x ∷ xs) = by_first (found_in_filter xs) (q x) (t x) refl
    where
      by_first : find (λ e. q e && t e) xs ≡ find t (filter q xs) → (a b : Bool) → t x ≡ b
          → cond (a && b) (Some x) (find (λ e. q e && t e) xs) ≡ find t (cond a (x ∷ filter q xs) (filter q xs))
      by_first rest true b e = ap₂ (λ (c : Bool) (o : Option X). cond c (Some x) o) (sym e) rest
      by_first rest false b e = rest

  -- none of those before the place passes the first one
  found_after : (n : ℕ) (xs : List X) → ((k : ℕ) (d : X) → k < n → k < length xs → q (get_or xs k d) ≡ false)
      → find (λ e. q e && t e) (drop n xs) ≡ find (λ e. q e && t e) xs
  found_after zero xs none = refl
  found_after (suc n) [] none = refl
  found_after (suc n) (x ∷ xs) none =
      found_after n xs (λ k d lt within. none (suc k) d (omega arith) (omega arith))
      ∙ sym (ap (λ (b : Bool). cond (b && t x) (Some x) (find (λ e. q e && t e) xs)) (none 0 x (omega arith) (omega arith)))

  -- none passes it
  none_found : (xs : List X) → ((k : ℕ) (d : X) → k < length xs → q (get_or xs k d) ≡ false) → find (λ e. q e && t e) xs ≡ None
  none_found [] none = refl
  none_found (x ∷ xs) none =
      ap (λ (b : Bool). cond (b && t x) (Some x) (find (λ e. q e && t e) xs)) (none 0 x (omega arith)) ∙ none_found xs (λ k d lt. none (suc k) d (omega arith))

-- ---- a method by its print

pub none_yet : (o : Option ℕ) → is_some o ≡ false → o ≡ None
none_yet None e = refl
none_yet (Some k) e = cc

-- a method of another print isn't called so
pub called_print : (name ty : List ℕ) (m : Method) → is_called name ty m ≡ true → print_of_method m ≡ print_of name ty
called_print name ty m e = by_parts (bytes_eq m.name name) (bytes_eq m.ty ty) refl refl e
  where
    by_parts : (a b : Bool) → bytes_eq m.name name ≡ a → bytes_eq m.ty ty ≡ b → (a && b) ≡ true → print_of_method m ≡ print_of name ty
    by_parts true true p q e =
        let names : m.name ≡ name = (bytes_eq-Decides m.name name).0 p in
        let types : m.ty ≡ ty = (bytes_eq-Decides m.ty ty).0 q in
        ap (λ (n : List ℕ). print_of n m.ty) names ∙ ap (print_of name) types
    by_parts true false p q e = cc
    by_parts false b p q e = cc

module _ (name ty : List ℕ) (ms : List Method) where
  -- the sought print
  abbrev sought : ℕ
  sought = print_of name ty

  abbrev called : Method → Bool
  called = is_called name ty

  -- whether the method at the entry's place has the texts
  abbrev has_texts : Printed → Bool
  has_texts e = option_map_or called (slice_get ms e.place) false

  abbrev passes : Printed → Bool
  passes e = has_print sought e && has_texts e

  abbrev places : Option Printed → Option ℕ
  places = option_map (λ (e : Printed). e.place)

  -- the place of the first entry that has the print, and whose method has the texts
  abbrev pub found : List Printed → Option ℕ
  found entries = places (find passes entries)

  -- whoever has the texts has the print
  both_tests : (m : Method) → ((print_of_method m == sought) && called m) ≡ called m
  both_tests m = by_called (called m) refl
    where
      by_called : (b : Bool) → called m ≡ b → ((print_of_method m == sought) && b) ≡ b
      by_called true e = ap (λ (c : Bool). c && true) (eq-eqb (print_of_method m) sought (called_print name ty m e))
      by_called false e = never (print_of_method m == sought)
        where
          never : (c : Bool) → (c && false) ≡ false
          never true = refl
          never false = refl

  -- what is found among the prints as they were made
  found_from : (n : ℕ) (xs : List Method) → ((k : ℕ) → slice_get ms (n + k) ≡ slice_get xs k) → found (printed_from n xs) ≡ position_from called n xs
  found_from n [] at = refl
  found_from n (x ∷ xs) at = by_first first_passes (found_from (n + 1) xs (λ k. ap (slice_get ms) (omega arith) ∙ at (suc k)))
    where
      first : Printed
      first = record { print = print_of_method x; place = n }

      first_passes : passes first ≡ called x
      first_passes =
          ap (λ (o : Option Method). has_print sought first && option_map_or called o false) (ap (slice_get ms) (omega arith) ∙ at 0) ∙ both_tests x

      at_first : (b : Bool) (o : Option Printed) → places (cond b (Some first) o) ≡ cond b (Some n) (places o)
      at_first true o = refl
      at_first false o = refl

      by_first : passes first ≡ called x → found (printed_from (n + 1) xs) ≡ position_from called (n + 1) xs
          → found (first ∷ printed_from (n + 1) xs) ≡ cond (called x) (Some n) (position_from called (n + 1) xs)
      by_first same rest =
          at_first (passes first) (find passes (printed_from (n + 1) xs)) ∙ ap₂ (λ (b : Bool) (o : Option ℕ). cond b (Some n) o) same rest

  -- what is found among the sorted prints
  pub found_sorted : (entries : List Printed) → AreSorted entries ms → found entries ≡ position called ms
  found_sorted entries are =
      let test = has_print sought in
      ap places (found_in_filter test has_texts entries ∙ ap (find has_texts) (are.1 sought) ∙ sym (found_in_filter test has_texts (printed_from 0 ms)))
      ∙ found_from 0 ms (λ k. ap (slice_get ms) (omega arith))
      ∙ sym (position_from-zero called ms)

  -- those below the print may be left out
  pub found_from_start : (entries : List Printed) (start : ℕ) → AllWithin (λ (e : Printed). e.print < sought) entries 0 start
      → found (drop start entries) ≡ found entries
  found_from_start entries start below = ap places (found_after (has_print sought) has_texts start entries others)
    where
      others : (k : ℕ) (d : Printed) → k < start → k < length entries → has_print sought (get_or entries k d) ≡ false
      others k d lt within = let less = below k d (omega arith) lt in ne_eqb (get_or entries k d).print sought (λ e. omega (arith, e, less))

  -- none is found from an entry of another print on, if none there is below the sought print
  pub none_after : (entries rest : List Printed) (start n : ℕ) (d : Printed) → IsNonDecreasingBy (λ (e : Printed). e.print) entries
      → AllWithin (λ (e : Printed). sought ≤ e.print) entries start (length entries) → rest ≡ drop start entries
      → n < length rest → ((get_or rest n d).print ≡ sought → ⊥) → None ≡ found (drop n rest)
  none_after entries rest start n d rise others is lt other = sym (ap places (none_found (has_print sought) has_texts (drop n rest) above))
    where
      in_rest : (k : ℕ) (e : Printed) → get_or rest k e ≡ get_or entries (start + k) e
      in_rest k e = ap (λ (xs : List Printed). get_or xs k e) is ∙ get_or-drop start entries k e

      above : (k : ℕ) (e : Printed) → k < length (drop n rest) → has_print sought (get_or (drop n rest) k e) ≡ false
      above k e within =
          let left = ap length is ∙ length-drop start entries in
          let more = length-drop n rest in
          let least = others (start + n) d (omega arith) (omega (arith, left, lt)) in
          let rises = rise (start + n) (start + (n + k)) d (omega arith) (omega (arith, left, more, within)) in
          let first = ap (λ (x : Printed). x.print) (in_rest n d) in
          let other_default = get_or_default entries (start + (n + k)) e d (omega (arith, left, more, within)) in
          let here = ap (λ (x : Printed). x.print) (get_or-drop n rest k e ∙ in_rest (n + k) e ∙ other_default) in
          ne_eqb (get_or (drop n rest) k e).print sought (λ same. other (omega (arith, least, rises, first, here, same)))

-- ---- whether a method has a print

module _ (p : ℕ) where
  abbrev not_nil : List Printed → Bool
  not_nil [] = false
  not_nil (e ∷ es) = true

  some_left : (entries : List Printed) → list_any (has_print p) entries ≡ not_nil (filter (has_print p) entries)
  some_left [] = refl
  some_left (e ∷ es) = by_first (has_print p e) (some_left es)
    where
      by_first : (b : Bool) → list_any (has_print p) es ≡ not_nil (filter (has_print p) es)
          → (b || list_any (has_print p) es) ≡ not_nil (cond b (e ∷ filter (has_print p) es) (filter (has_print p) es))
      by_first true rest = refl
      by_first false rest = rest

  any_printed : (n : ℕ) (ms : List Method) → list_any (has_print p) (printed_from n ms) ≡ has_method p ms
  any_printed n [] = refl
  any_printed n (m ∷ ms) = ap (λ (b : Bool). (print_of_method m == p) || b) (any_printed (n + 1) ms)

  -- among the sorted prints
  pub any_sorted : (entries : List Printed) (ms : List Method) → AreSorted entries ms → list_any (has_print p) entries ≡ has_method p ms
  any_sorted entries ms are =
      some_left entries ∙ ap not_nil (are.1 p) ∙ sym (some_left (printed_from 0 ms)) ∙ any_printed 0 ms

  none_any : (entries : List Printed) → ((k : ℕ) (d : Printed) → k < length entries → has_print p (get_or entries k d) ≡ false)
      → list_any (has_print p) entries ≡ false
  none_any [] none = refl
  none_any (e ∷ es) none =
      ap (λ (b : Bool). b || list_any (has_print p) es) (none 0 e (omega arith)) ∙ none_any es (λ k d lt. none (suc k) d (omega arith))

  module _ (entries : List Printed) (rise : IsNonDecreasingBy (λ (e : Printed). e.print) entries) (start : ℕ)
      (below : AllWithin (λ (e : Printed). e.print < p) entries 0 start)
      (others : AllWithin (λ (e : Printed). p ≤ e.print) entries start (length entries)) where
    -- the first that isn't below the print has it
    pub print_there : (e : Printed) → slice_get entries start ≡ Some e → (e.print == p) ≡ list_any (has_print p) entries
    print_there e at = by_print (e.print == p) refl
      where
        within : start < length entries
        within = slice_get_within entries start e at

        here : (d : Printed) → get_or entries start d ≡ e
        here d = same_Some (get_or entries start d) e (sym (slice_get-get_or entries start d within) ∙ at)

        others_differ : (e.print == p) ≡ false → (k : ℕ) (d : Printed) → k < length entries → has_print p (get_or entries k d) ≡ false
        others_differ apart k d lt = by_test (ltb k start)
            (λ t. let less = below k d (omega arith) (ltb-true k start t) in ne_eqb (get_or entries k d).print p (λ e. omega (arith, e, less)))
            (λ f. let le = ltb-false k start f in
            let least = others start d (omega arith) within in
            let rises = rise start k d le lt in
            let first = ap (λ (x : Printed). x.print) (here d) in
            ne_eqb (get_or entries k d).print p (λ same. both_ways (e.print == p) apart (eq-eqb e.print p (omega (arith, least, rises, first, same)))))

        by_print : (b : Bool) → (e.print == p) ≡ b → b ≡ list_any (has_print p) entries
        by_print true is = sym (list_any_at (has_print p) entries start e within (ap (λ (x : Printed). x.print == p) (here e) ∙ is))
        by_print false apart = sym (none_any entries (others_differ apart))

    -- all are below it
    pub print_nowhere : length entries ≤ start → false ≡ list_any (has_print p) entries
    print_nowhere over = sym (none_any entries all_below)
      where
        all_below : (k : ℕ) (d : Printed) → k < length entries → has_print p (get_or entries k d) ≡ false
        all_below k d lt = let less = below k d (omega arith) (omega (arith, over)) in ne_eqb (get_or entries k d).print p (λ e. omega (arith, e, less))
