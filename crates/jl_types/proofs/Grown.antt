-- What one class more leaves as it is: the ancestors of the others, and the receivers among them.
use Rattle.std.specs.Prelude.{◌≡◌, ℕ, zero, suc, ◌+◌, ◌<◌, ◌≤◌, ◌==◌, Bool, true, false, not, ◌||◌, ◌&&◌, List, [], ◌∷◌}
use Rattle.std.specs.Prelude.{◌++◌, length, filter, slice_get, Option, Some, None, if◌then◌else◌}
use Rattle.std.specs.List.{AllByRecursion, list_any, range_with_len}
use Rattle.std.specs.Option.{option_map_or}
use Rattle.std.specs.Bool.{one_answer}
use Rattle.std.proofs.Common.{refl, ap, sym, subst, ◌∙◌, arith, inl, inr, length-append}
use Rattle.std.proofs.lemmas.Bool.Decides.{Decides-eqb}
use Rattle.std.proofs.lemmas.List.Elements.{recursion_from_All, filter-append}
use Rattle.std.proofs.lemmas.Bool.{or_cases}
use Rattle.std.proofs.lemmas.Cmp.{nat_eq_equiv}
use Rattle.jl_class.specs.Class.{ClassFile}
use Rattle.jl_types.specs.Values.World.{Class, Classes}
use Rattle.jl_types.specs.Values.Members.{is_retired, is_concrete, is_concrete_row}
use Rattle.jl_types.specs.Values.Ancestry.{parents, AreOrdered, IsAncestor, itself, over, is_ancestor_within, is_ancestor, ancestors, receivers}
use Rattle.jl_types.specs.Events.Definitions.{class_made, defined}
use Rattle.jl_types.proofs.Bools.{any-filter, any-filter-at, any-range-from}
use Rattle.jl_types.proofs.Lists.{before_end, range_end}
use Rattle.jl_types.proofs.Ancestors.{any_alike, ancestor_decides}

-- ---- the list of ancestors

parent_below : (n p : ℕ) (ps : List ℕ) → AllByRecursion (λ q. q < n) ps → list_any (λ q. p == q) ps ≡ true → p < n
parent_below n p [] o h = cc
parent_below n p (q ∷ ps) o h = elim (or_cases (p == q) (list_any (λ q. p == q) ps) h) [
  | inl is ↦ subst (λ k. k < n) (sym ((Decides-eqb p q).0 is)) o.0
  | inr more ↦ parent_below n p ps o.1 more
]

-- no ancestor comes after its descendant
pub above : (rows : List Class) (o : AreOrdered rows) (a : ℕ) {x : ℕ} → IsAncestor rows a x → a ≤ x
above rows o a (itself e) = omega arith
above rows o a (over {x = x} {p = p} {row = row} e m r) =
    let lt = parent_below x p (parents row) (recursion_from_All (λ q. q < x) (parents row) (o x row e)) m in
    let le = above rows o a r in
    omega arith

pub among_ancestors : (cs : Classes) → AreOrdered cs.rows → (a c : ℕ) → is_ancestor cs a c ≡ list_any (λ k. k == a) (ancestors cs.rows c)
among_ancestors cs o a c = one_answer (is_ancestor cs a c) (list_any (λ k. k == a) (ancestors cs.rows c)) (λ e. e, λ e. e) (listed, unlisted)
  where
    listed : list_any (λ k. k == a) (ancestors cs.rows c) ≡ true → is_ancestor cs a c ≡ true
    listed h =
        let r = any-filter (λ k. is_ancestor_within (c + 1) cs.rows k c) (λ k. k == a) (range_with_len 0 (c + 1)) h in
        ap (λ k. is_ancestor_within (c + 1) cs.rows k c) (sym ((Decides-eqb r.item a).0 r.passes)) ∙ r.meets

    unlisted : is_ancestor cs a c ≡ true → list_any (λ k. k == a) (ancestors cs.rows c) ≡ true
    unlisted h =
        let le = above cs.rows o a ((ancestor_decides cs o a c).0 h) in
        any-filter-at (λ k. is_ancestor_within (c + 1) cs.rows k c) (λ k. k == a) a (range_with_len 0 (c + 1))
        (any-range-from (λ k. k == a) 0 (c + 1) a (omega arith) (omega arith) (nat_eq_equiv.refl a)) h (nat_eq_equiv.refl a)

-- ---- one class more

module _ (rows : List Class) (o : AreOrdered rows) (row : Class) where
  abbrev more : List Class
  more = rows ++ row ∷ []

  old_row : (a n c : ℕ) → ((p : ℕ) → p < length rows → is_ancestor_within n more a p ≡ is_ancestor_within n rows a p) → c < length rows
      → (r : Option Class) → slice_get rows c ≡ r
      → option_map_or (λ r. (a == c) || list_any (is_ancestor_within n more a) (parents r)) r false
      ≡ option_map_or (λ r. (a == c) || list_any (is_ancestor_within n rows a) (parents r)) r false
  old_row a n c ih lt None e = refl
  old_row a n c ih lt (Some r) e =
      ap (λ (b : Bool). (a == c) || b)
      (any_alike (is_ancestor_within n more a) (is_ancestor_within n rows a) c (λ p below. ih p (omega arith)) (parents r)
      (recursion_from_All (λ p. p < c) (parents r) (o c r e)))

  pub old_within : (a n c : ℕ) → c < length rows → is_ancestor_within n more a c ≡ is_ancestor_within n rows a c
  old_within a zero c lt = refl
  old_within a (suc n) c lt =
      ap (λ (r : Option Class). option_map_or (λ r. (a == c) || list_any (is_ancestor_within n more a) (parents r)) r false) (before_end rows row c lt)
      ∙ old_row a n c (λ p below. old_within a n p below) lt (slice_get rows c) refl

  pub old_ancestors : (c : ℕ) → c < length rows → ancestors more c ≡ ancestors rows c
  old_ancestors c lt = λ i. filter (λ a. old_within a (c + 1) c lt i) (range_with_len 0 (c + 1))

module _ (cs : Classes) (o : AreOrdered cs.rows) (loader : ℕ) (file : ClassFile) where
  abbrev new : Classes
  new = defined cs loader file

  abbrev passes : Classes → ℕ → ℕ → Bool
  passes k c x = is_concrete k x && is_ancestor k c x

  old_concrete : (x : ℕ) → x < length cs.rows → is_concrete new x ≡ is_concrete cs x
  old_concrete x lt = ap (λ (r : Option Class). option_map_or (λ row. not (is_retired cs row.loader)) r false && option_map_or is_concrete_row r false)
      (before_end cs.rows (class_made cs loader file) x lt)

  old_passes : (c x : ℕ) → x < length cs.rows → passes new c x ≡ passes cs c x
  old_passes c x lt = λ i. old_concrete x lt i && old_within cs.rows o (class_made cs loader file) c (x + 1) x lt i

  filter_old : (c a n : ℕ) → a + n ≤ length cs.rows → filter (passes new c) (range_with_len a n) ≡ filter (passes cs c) (range_with_len a n)
  filter_old c a zero h = refl
  filter_old c a (suc n) h =
      λ i. if old_passes c a (omega arith) i then a ∷ filter_old c (a + 1) n (omega arith) i else filter_old c (a + 1) n (omega arith) i

  pub receivers_after : (c : ℕ) → receivers new c ≡ receivers cs c ++ filter (passes new c) (length cs.rows ∷ [])
  receivers_after c =
      let n = length cs.rows in
      ap (λ k. filter (passes new c) (range_with_len 0 k)) (length-append cs.rows (class_made cs loader file ∷ []))
      ∙ ap (filter (passes new c)) (range_end 0 n)
      ∙ filter-append (passes new c) (range_with_len 0 n) ((0 + n) ∷ [])
      ∙ ap (λ (xs : List ℕ). xs ++ filter (passes new c) ((0 + n) ∷ [])) (filter_old c 0 n (omega arith))
      ∙ ap (λ k. receivers cs c ++ filter (passes new c) (k ∷ [])) (omega arith)
