-- What is marked once a class is defined.
use Rattle.std.specs.Prelude.{◌≡◌, ℕ, zero, suc, ◌+◌, ◌<◌, ◌≤◌, ◌==◌, ◌||◌, Bool, true, false, List, [], ◌∷◌, ◌++◌, length, slice_get, Option}
use Rattle.std.specs.Prelude.{Some, None}
use Rattle.std.specs.List.{list_any, AllByRecursion}
use Rattle.std.specs.Option.{option_map_or}
use Rattle.std.proofs.Common.{refl, ap, sym, subst, ◌∙◌, arith, inl, inr}
use Rattle.std.proofs.lemmas.Bool.{or_cases, or_right, or_left, both_ways}
use Rattle.std.proofs.Math.Arith.{lt_of_le-ne}
use Rattle.std.proofs.lemmas.Bool.Decides.{Decides-eqb}
use Rattle.std.proofs.lemmas.List.Folds.{list_any-append}
use Rattle.std.proofs.lemmas.Option.{slice_get_within}
use Rattle.jl_class.specs.Flags.{has_flag, INTERFACE}
use Rattle.jl_types.specs.Values.World.{Class}
use Rattle.jl_types.specs.Values.Members.{is_interface}
use Rattle.jl_types.specs.Values.Ancestry.{IsAncestor, itself, over, superclasses_within, superclasses, is_ancestor, is_subclass, ancestors, AreOrdered}
use Rattle.jl_types.proofs.Ancestors.{superclass_below, superclasses_is, ancestor_decides}
use Rattle.jl_types.proofs.Grown.{above, among_ancestors, old_within}
use Rattle.jl_types.proofs.Lists.{before_end, at_end}
use Rattle.jl_types.proofs.Orders.{none_after}
use Rattle.jl_hierarchy.specs.Redeclared.{of_rows, Marked, is_marked, has_method, declares_print, sees_print, line_above, line_from}
use Rattle.jl_hierarchy.specs.Redeclared.{is_above, is_on, AreMarked, AreLines, IsIndexed, IsTold}

module _ (rows : List Class) (row : Class) (ordered : AreOrdered (rows ++ row ∷ [])) where
  abbrev n : ℕ
  n = length rows

  abbrev more : List Class
  more = rows ++ row ∷ []

  before : (c : ℕ) → c < n → slice_get more c ≡ slice_get rows c
  before c lt = before_end rows row c lt

  pub old_ordered : AreOrdered rows
  old_ordered c r e = ordered c r (before c (slice_get_within rows c r e) ∙ e)

  -- ---- the lines of those that were there

  line_row : (k c : ℕ) → ((s : ℕ) → s < n → superclasses_within k more s ≡ superclasses_within k rows s) → c < n
      → (r : Option Class) → slice_get rows c ≡ r
      → option_map_or (λ row. c ∷ option_map_or (superclasses_within k more) row.superclass []) r []
      ≡ option_map_or (λ row. c ∷ option_map_or (superclasses_within k rows) row.superclass []) r []
  line_row k c ih there None e = refl
  line_row k c ih there (Some r) e = ap (λ (xs : List ℕ). c ∷ xs) (by_superclass r.superclass refl)
    where
      by_superclass : (o : Option ℕ) → r.superclass ≡ o
          → option_map_or (superclasses_within k more) o [] ≡ option_map_or (superclasses_within k rows) o []
      by_superclass None is = refl
      by_superclass (Some s) is = let below = superclass_below rows old_ordered c r e s is in ih s (omega arith)

  line_within : (k c : ℕ) → c < n → superclasses_within k more c ≡ superclasses_within k rows c
  line_within zero c there = refl
  line_within (suc k) c there =
      ap (λ (r : Option Class). option_map_or (λ row. c ∷ option_map_or (superclasses_within k more) row.superclass []) r []) (before c there)
      ∙ line_row k c (λ s below. line_within k s below) there (slice_get rows c) refl

  pub line_stays : (c : ℕ) → c < n → superclasses (of_rows more) c ≡ superclasses (of_rows rows) c
  line_stays c there = line_within (c + 1) c there

  there_from : (k : ℕ) → ((c : ℕ) → AllByRecursion (λ x. x < n) (superclasses_within k rows c)) → (o : Option ℕ)
      → AllByRecursion (λ x. x < n) (option_map_or (superclasses_within k rows) o [])
  there_from k ih None = tt
  there_from k ih (Some s) = ih s

  there_row : (k c : ℕ) → ((c : ℕ) → AllByRecursion (λ x. x < n) (superclasses_within k rows c)) → (r : Option Class) → slice_get rows c ≡ r
      → AllByRecursion (λ x. x < n) (option_map_or (λ row. c ∷ option_map_or (superclasses_within k rows) row.superclass []) r [])
  there_row k c ih None e = tt
  there_row k c ih (Some r) e = (slice_get_within rows c r e, there_from k ih r.superclass)

  line_there : (k c : ℕ) → AllByRecursion (λ x. x < n) (superclasses_within k rows c)
  line_there zero c = tt
  line_there (suc k) c = there_row k c (line_there k) (slice_get rows c) refl

  declares_stays : (p c : ℕ) → c < n → declares_print (of_rows more) p c ≡ declares_print (of_rows rows) p c
  declares_stays p c there = λ i. has_method p (option_map_or (λ r. r.file.methods) (before c there i) [])

  any_stays : (p : ℕ) (xs : List ℕ) → AllByRecursion (λ x. x < n) xs → list_any (declares_print (of_rows more) p) xs ≡ list_any
      (declares_print (of_rows rows) p) xs
  any_stays p [] all = refl
  any_stays p (x ∷ xs) all = λ i. declares_stays p x all.0 i || any_stays p xs all.1 i

  sees_stays : (p c : ℕ) → c < n → sees_print (of_rows more) p c ≡ sees_print (of_rows rows) p c
  sees_stays p c there =
      ap (list_any (declares_print (of_rows more) p)) (line_stays c there) ∙ any_stays p (superclasses (of_rows rows) c) (line_there (c + 1) c)

  -- ---- the line above a class that was there, or above the new one

  above_stays : (x : ℕ) (r : Class) → slice_get more x ≡ Some r → line_above (of_rows more) r ≡ line_above (of_rows rows) r
  above_stays x r e = by_superclass r.superclass refl
    where
      by_superclass : (o : Option ℕ) → r.superclass ≡ o → line_from (of_rows more) o ≡ line_from (of_rows rows) o
      by_superclass None is = refl
      by_superclass (Some s) is =
          let below = superclass_below more ordered x r e s is in
          let last = none_after rows row r x e in
          line_stays s (omega arith)

  on_there : (s : ℕ) (xs : List ℕ) → AllByRecursion (λ x. x < n) xs → is_on s xs ≡ true → s < n
  on_there s [] all h = cc
  on_there s (x ∷ xs) all h = elim (or_cases (x == s) (is_on s xs) h) [
    | inl is ↦ subst (λ k. k < n) ((Decides-eqb x s).0 is) all.0
    | inr later ↦ on_there s xs all.1 later
  ]

  above_there : (s : ℕ) (o : Option ℕ) → is_on s (line_from (of_rows rows) o) ≡ true → s < n
  above_there s None h = cc
  above_there s (Some p) h = on_there s (superclasses (of_rows rows) p) (line_there (p + 1) p) h

  own_line : superclasses (of_rows more) n ≡ n ∷ line_above (of_rows rows) row
  own_line = superclasses_is (of_rows more) ordered n row (at_end rows row) ∙ ap (λ (xs : List ℕ). n ∷ xs) (above_stays n row (at_end rows row))

  module _ (marks new : Marked) (are_superclass_chains still_lines : Bool) (old : IsIndexed rows marks are_superclass_chains)
      (kept : (s p : ℕ) → is_marked marks s p ≡ true → is_marked new s p ≡ true)
      (told : (s p : ℕ) → has_method p row.file.methods ≡ true → is_on s (line_above (of_rows rows) row) ≡ true
      → sees_print (of_rows rows) p s ≡ true → IsTold (of_rows rows) p (is_marked new) s) where
    -- by the new class
    by_new : (s p d : ℕ) → d ≡ n → (d == s) ≡ false → is_subclass (of_rows more) d s ≡ true → declares_print (of_rows more) p d ≡ true
        → sees_print (of_rows more) p s ≡ true → is_marked new s p ≡ true
    by_new s p d is apart below declares sees_it =
        let either : ((n == s) || is_on s (line_above (of_rows rows) row)) ≡ true =
        ap (is_on s) (sym own_line) ∙ ap (λ (k : ℕ). is_subclass (of_rows more) k s) (sym is) ∙ below
        in
        let on : is_on s (line_above (of_rows rows) row) ≡ true =
        elim (or_cases (n == s) (is_on s (line_above (of_rows rows) row)) either) [
          | inl same ↦ absurd (both_ways (d == s) apart (ap (λ (k : ℕ). k == s) is ∙ same))
          | inr above ↦ above
        ]
        in
        let methods : has_method p row.file.methods ≡ true =
        ap (λ (r : Option Class). has_method p (option_map_or (λ c. c.file.methods) r [])) (sym (at_end rows row) ∙ ap (slice_get more) (sym is)) ∙ declares
        in
        let sees_old = sym (sees_stays p s (above_there s row.superclass on)) ∙ sees_it in
        elim (told s p methods on sees_old) [ inl marked ↦ marked | inr above ↦ kept s p (old.marked s p above sees_old) ]

    -- by one that was there
    by_old : (s p d : ℕ) → d < n → (d == s) ≡ false → is_subclass (of_rows more) d s ≡ true → declares_print (of_rows more) p d ≡ true
        → sees_print (of_rows more) p s ≡ true → is_marked new s p ≡ true
    by_old s p d there apart below declares sees_it =
        let below_old = ap (is_on s) (sym (line_stays d there)) ∙ below in
        let s_there = on_there s (superclasses (of_rows rows) d) (line_there (d + 1) d) below_old in
        kept s p (old.marked s p (d, apart, below_old, sym (declares_stays p d there) ∙ declares) (sym (sees_stays p s s_there) ∙ sees_it))

    marked_now : AreMarked more new
    marked_now s p (d, apart, below, declares) sees_it = by_row (slice_get more d) refl
      where
        by_row : (r : Option Class) → slice_get more d ≡ r → is_marked new s p ≡ true
        by_row None e =
            let none : declares_print (of_rows more) p d ≡ false = ap (λ (r : Option Class). has_method p (option_map_or (λ c. c.file.methods) r [])) e in
            absurd (both_ways (declares_print (of_rows more) p d) none declares)
        by_row (Some r) e = by_place (d == n) refl
          where
            by_place : (b : Bool) → (d == n) ≡ b → is_marked new s p ≡ true
            by_place true is = by_new s p d ((Decides-eqb d n).0 is) apart below declares sees_it
            by_place false other =
                by_old s p d (lt_of_le-ne (none_after rows row r d e) (λ same. both_ways (d == n) other ((Decides-eqb d n).1 same))) apart below declares
                sees_it

    module _ (proper : List ℕ) (listed : proper ++ n ∷ [] ≡ ancestors more n) (still : still_lines ≡ true → are_superclass_chains ≡ true)
        (line : still_lines ≡ true → (a : ℕ) → is_on a proper ≡ true → is_interface (of_rows rows) a ≡ false
        → is_above (of_rows rows) row a ≡ true) where
      from_above : still_lines ≡ true → (a : ℕ) → is_interface (of_rows rows) a ≡ false → (o : Option ℕ)
          → option_map_or (is_ancestor (of_rows rows) a) o false ≡ true → is_on a (line_from (of_rows rows) o) ≡ true
      from_above known a plain None h = cc
      from_above known a plain (Some s) h = old.lines (still known) s a h plain

      row_of : (a : ℕ) {x : ℕ} → IsAncestor more a x → (r : Class) × (slice_get more x ≡ Some r)
      row_of a (itself {row = r} e) = (r, e)
      row_of a (over {row = r} e m up) = (r, e)

      plain_before : (a : ℕ) → a < n → is_interface (of_rows more) a ≡ false → is_interface (of_rows rows) a ≡ false
      plain_before a lt plain = ap (λ (r : Option Class). option_map_or (λ c. has_flag c.file.flags INTERFACE) r false) (sym (before a lt)) ∙ plain

      of_new : still_lines ≡ true → (a : ℕ) → is_ancestor (of_rows more) a n ≡ true → a ≤ n → is_interface (of_rows more) a ≡ false
          → (b : Bool) → (n == a) ≡ b → is_subclass (of_rows more) n a ≡ true
      of_new known a up le plain true is = ap (is_on a) own_line ∙ or_left (n == a) (is_on a (line_above (of_rows rows) row)) is
      of_new known a up le plain false apart =
          let lt : a < n = lt_of_le-ne le (λ same. both_ways (n == a) apart ((Decides-eqb n a).1 (sym same))) in
          let among : (is_on a proper || is_on a (n ∷ [])) ≡ true =
          sym (list_any-append (λ k. k == a) proper (n ∷ [])) ∙ ap (is_on a) listed ∙ sym (among_ancestors (of_rows more) ordered a n) ∙ up
          in
          let on : is_on a proper ≡ true = elim (or_cases (is_on a proper) (is_on a (n ∷ [])) among) [
            | inl is ↦ is
            | inr last ↦ elim (or_cases (n == a) false last) [ inl is ↦ absurd (both_ways (n == a) apart is) | inr other ↦ cc ]
          ] in
          ap (is_on a) own_line ∙ or_right (n == a) (is_on a (line_above (of_rows rows) row))
          (from_above known a (plain_before a lt plain) row.superclass (line known a on (plain_before a lt plain)))

      of_old : still_lines ≡ true → (x a : ℕ) → x < n → is_ancestor (of_rows more) a x ≡ true → a ≤ x → is_interface (of_rows more) a ≡ false
          → is_subclass (of_rows more) x a ≡ true
      of_old known x a lt up le plain =
          ap (is_on a) (line_stays x lt)
          ∙ old.lines (still known) x a (sym (old_within rows old_ordered row a (x + 1) x lt) ∙ up) (plain_before a (omega arith) plain)

      lines_now : still_lines ≡ true → AreLines more
      lines_now known x a up plain =
          let ancestor = (ancestor_decides (of_rows more) ordered a x).0 up in
          let r = row_of a ancestor in
          by_place (above more ordered a ancestor) (none_after rows row r.0 x r.1) (x == n) refl
        where
          by_place : a ≤ x → x ≤ n → (b : Bool) → (x == n) ≡ b → is_subclass (of_rows more) x a ≡ true
          by_place le last true is =
              let same : x ≡ n = (Decides-eqb x n).0 is in
              ap (λ k. is_subclass (of_rows more) k a) same
              ∙ of_new known a (ap (is_ancestor (of_rows more) a) (sym same) ∙ up) (subst (λ k. a ≤ k) same le) plain (n == a) refl
          by_place le last false apart =
              of_old known x a (lt_of_le-ne last (λ same. both_ways (x == n) apart ((Decides-eqb x n).1 same))) up le plain

      pub indexed_now : IsIndexed more new still_lines
      indexed_now = record {
        marked = marked_now;
        lines = lines_now;
      }

-- more marks, and lines that may not be known any more
pub still_indexed : (rows : List Class) (marks new : Marked) (are_superclass_chains still_lines : Bool) → IsIndexed rows marks are_superclass_chains
    → ((s p : ℕ) → is_marked marks s p ≡ true → is_marked new s p ≡ true) → (still_lines ≡ true → are_superclass_chains ≡ true)
    → IsIndexed rows new still_lines
still_indexed rows marks new are_superclass_chains still_lines old kept still = record {
  marked = λ s p above seen. kept s p (old.marked s p above seen);
  lines = λ known. old.lines (still known);
}

-- of no class
pub none_indexed : IsIndexed [] ([], []) true
none_indexed = record {
  marked = λ s p above seen. no_method p (slice_get [] above.0) refl above.3;
  lines = λ known x a up plain. no_ancestor a ((ancestor_decides (of_rows []) (λ c r e. no_row c r e) a x).0 up);
}
  where
    no_method : {B : Type 0} (p : ℕ) (r : Option Class) → None ≡ r → has_method p (option_map_or (λ c. c.file.methods) r []) ≡ true → B
    no_method p None e h = cc
    no_method p (Some r) e h = cc

    no_row : {B : Type 0} (x : ℕ) (r : Class) → slice_get [] x ≡ Some r → B
    no_row x r e = cc

    no_ancestor : {B : Type 0} (a : ℕ) {x : ℕ} → IsAncestor [] a x → B
    no_ancestor a (itself {row = r} e) = no_row a r e
    no_ancestor a (over {x = x} {row = r} e m up) = no_row x r e
