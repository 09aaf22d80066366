-- What is above a class is the same under new numbers: superclasses, ancestors, superinterfaces.
use Rattle.std.specs.Prelude.{◌≡◌, ℕ, zero, suc, ◌+◌, ◌<◌, ◌≤◌, ◌==◌, ◌&&◌, ◌||◌, Bool, true, false, cond, not, List, [], ◌∷◌, ◌++◌, map, filter}
use Rattle.std.specs.Prelude.{All, slice_get, Option, Some, None, option_map, option_and_then, option_to_list}
use Rattle.std.specs.Bool.{one_answer}
use Rattle.std.specs.List.{AllByRecursion, list_any, range_with_len}
use Rattle.std.specs.Option.{option_map_or}
use Rattle.std.proofs.Common.{refl, sym, ap, subst, ◌∙◌, arith}
use Rattle.std.proofs.lemmas.Bool.{or_right}
use Rattle.std.proofs.lemmas.Bool.Decides.{Decides-eqb}
use Rattle.std.proofs.lemmas.Cmp.{nat_eq_equiv}
use Rattle.std.proofs.lemmas.List.Elements.{All-from_recursion, recursion_from_All, All-weaker, All-filter, filter_passes}
use Rattle.std.proofs.lemmas.Option.{same_Some, slice_get_within}
use Rattle.jl_types.specs.Values.World.{Class, Classes}
use Rattle.jl_types.specs.Values.Members.{is_present, is_interface}
use Rattle.jl_types.specs.Values.Ancestry.{parents, itself, over, superclass_of, superclasses, is_subclass, is_proper_subclass, is_ancestor}
use Rattle.jl_types.specs.Values.Ancestry.{is_proper_ancestor, ancestors, superinterfaces, AreOrdered}
use Rattle.jl_types.proofs.Ancestors.{ancestor_decides, above_is, superclasses_is}
use Rattle.jl_types.proofs.Bools.{any-filter, any-filter-at, any-map, any-range-from}
use Rattle.jl_types.proofs.Grown.{above}
use Rattle.jl_types.proofs.Lists.{element_at}
use Rattle.jl_hierarchy.specs.ForProofs.Kept.{Rises}
use Rattle.jl_hierarchy.proofs.Rising.{has, one_rising, filter_rises}
use Rattle.jl_renewal.specs.Numbers.{Numbers, renumbered}
use Rattle.jl_renewal.specs.Renewed.{renumbered_class}
use Rattle.jl_renewal.proofs.Alike.{Embeds}
use Rattle.jl_renewal.proofs.AlikeClasses.{present_row, number_alike, interface_alike}

-- ---- parents

-- what holds of all members that are below c, where all members are
all_members : (c : ℕ) (P : ℕ → Type 0) (ps : List ℕ) → AllByRecursion (λ p. p < c) ps → ((p : ℕ) → p < c → list_any (λ q. p == q) ps ≡ true → P p)
    → AllByRecursion (λ p. (p < c) × P p) ps
all_members c P [] low h = tt
all_members c P (p ∷ ps) low h = (
  (low.0, h p low.0 (ap (λ (b : Bool). b || list_any (λ q. p == q) ps) (nat_eq_equiv.refl p))),
  all_members c P ps low.1 (λ q lt among. h q lt (or_right (q == p) (list_any (λ k. q == k) ps) among)),
)

-- what holds of all parents holds of the superclass
superclass_so : (P : ℕ → Type 0) (o : Option ℕ) (ps : List ℕ) (s : ℕ) → o ≡ Some s → AllByRecursion P (option_to_list o ++ ps) → P s
superclass_so P None ps s is h = cc
superclass_so P (Some q) ps s is h = subst P (same_Some q s is) h.0

module _ (n : Numbers) (cs ds : Classes) (e : Embeds n cs ds) where
  abbrev ren : ℕ → ℕ
  ren c = renumbered n.classes c

  abbrev Present : ℕ → Type 0
  Present c = is_present cs c ≡ true

  -- the parents of a class that is present come before it, and are present
  parents_present : (c : ℕ) (row : Class) → Present c → slice_get cs.rows c ≡ Some row → AllByRecursion (λ p. (p < c) × Present p) (parents row)
  parents_present c row present is =
      all_members c Present (parents row) (recursion_from_All (λ p. p < c) (parents row) (e.ordered c row is))
      (λ p lt among.
      let within = slice_get_within cs.rows c row is in
      let r = element_at cs.rows p (omega (arith, lt, within)) in
      e.closed.ancestors p c ((ancestor_decides cs e.ordered p c).1 (over is among (itself r.1))) present)

  -- the parents under new numbers
  parents_renumbered : (row : Class) → parents (renumbered_class n row) ≡ map ren (parents row)
  parents_renumbered row = by_superclass row.superclass
    where
      by_superclass : (o : Option ℕ) → option_to_list (option_map ren o) ++ map ren row.interfaces ≡ map ren (option_to_list o ++ row.interfaces)
      by_superclass None = refl
      by_superclass (Some s) = refl

  -- the fresh classes' parents come before them
  pub fresh_ordered : AreOrdered ds.rows
  fresh_ordered = e.fresh_ordered

  -- ---- superclasses

  -- a superclass is the same
  pub superclass_alike : (c : ℕ) → Present c → superclass_of ds (ren c) ≡ option_map ren (superclass_of cs c)
  superclass_alike c present =
      let r = present_row cs c present in
      ap (λ (o : Option Class). option_and_then (λ row. row.superclass) o) (e.rows c r.0 present r.1)
      ∙ sym (ap (λ (o : Option Class). option_map ren (option_and_then (λ row. row.superclass) o)) r.1)

  -- it comes before the class, and is present
  superclass_before : (c d : ℕ) → Present c → superclass_of cs c ≡ Some d → (d < c) × Present d
  superclass_before c d present is =
      let r = present_row cs c present in
      superclass_so (λ p. (p < c) × Present p) r.0.superclass r.0.interfaces d
      (sym (ap (λ (o : Option Class). option_and_then (λ row. row.superclass) o) r.1) ∙ is)
      (parents_present c r.0 present r.1)

  pub superclass_present : (c d : ℕ) → Present c → superclass_of cs c ≡ Some d → Present d
  superclass_present c d present is = (superclass_before c d present is).1

  -- a class that is present, and its superclass's chain
  chain : (c : ℕ) → Present c → superclasses cs c ≡ c ∷ option_map_or (superclasses cs) (superclass_of cs c) []
  chain c present =
      let r = present_row cs c present in
      superclasses_is cs e.ordered c r.0 r.1
      ∙ sym (ap (λ (o : Option Class). c ∷ option_map_or (superclasses cs) (option_and_then (λ row. row.superclass) o) []) r.1)

  -- and the same of the fresh classes
  fresh_chain : (c : ℕ) → Present c → superclasses ds (ren c) ≡ ren c ∷ option_map_or (superclasses ds) (option_map ren (superclass_of cs c)) []
  fresh_chain c present =
      let r = present_row cs c present in
      superclasses_is ds fresh_ordered (ren c) (renumbered_class n r.0) (e.rows c r.0 present r.1)
      ∙ sym (ap (λ (o : Option Class). ren c ∷ option_map_or (superclasses ds) (option_map ren (option_and_then (λ row. row.superclass) o)) []) r.1)

  -- chains are alike where those of the superclass are
  next_alike : (o : Option ℕ) → ((s : ℕ) → o ≡ Some s → superclasses ds (ren s) ≡ map ren (superclasses cs s))
      → option_map_or (superclasses ds) (option_map ren o) [] ≡ map ren (option_map_or (superclasses cs) o [])
  next_alike None h = refl
  next_alike (Some s) h = h s refl

  -- the chain of a class below the bound
  upward_below : (bound c : ℕ) → c < bound → Present c → superclasses ds (ren c) ≡ map ren (superclasses cs c)
  upward_below zero c lt present = absurd (omega (arith, lt))
  upward_below (suc bound) c lt present =
      fresh_chain c present
      ∙ ap (λ (xs : List ℕ). ren c ∷ xs)
      (next_alike (superclass_of cs c)
      (λ s is. let b = superclass_before c s present is in upward_below bound s (let less = b.0 in omega (arith, lt, less)) b.1))
      ∙ sym (ap (map ren) (chain c present))

  -- the chain of superclasses is the same
  pub upward_alike : (c : ℕ) → Present c → superclasses ds (ren c) ≡ map ren (superclasses cs c)
  upward_alike c present = upward_below (c + 1) c (omega arith) present

  -- all are present where those of the superclass are
  next_present : (o : Option ℕ) → ((s : ℕ) → o ≡ Some s → AllByRecursion Present (superclasses cs s))
      → AllByRecursion Present (option_map_or (superclasses cs) o [])
  next_present None h = tt
  next_present (Some s) h = h s refl

  -- all superclasses of a class below the bound are present
  present_below : (bound c : ℕ) → c < bound → Present c → AllByRecursion Present (superclasses cs c)
  present_below zero c lt present = absurd (omega (arith, lt))
  present_below (suc bound) c lt present =
      subst (AllByRecursion Present) (sym (chain c present)) (
        present,
        next_present (superclass_of cs c)
            (λ s is. let b = superclass_before c s present is in present_below bound s (let less = b.0 in omega (arith, lt, less)) b.1),
      )

  -- all superclasses are present
  pub upward_present : (c : ℕ) → Present c → All Present (superclasses cs c)
  upward_present c present = All-from_recursion Present (superclasses cs c) (present_below (c + 1) c (omega arith) present)

  -- a class is among others where it is under new numbers
  among_alike : (d : ℕ) (xs : List ℕ) → Present d → AllByRecursion Present xs
      → list_any (λ k. k == ren d) (map ren xs) ≡ list_any (λ k. k == d) xs
  among_alike d [] present all = refl
  among_alike d (x ∷ xs) present all = λ i. number_alike n cs ds e x d all.0 present i || among_alike d xs present all.1 i

  -- subclasses are the same
  pub subclass_alike : (c d : ℕ) → Present c → Present d → is_subclass ds (ren c) (ren d) ≡ is_subclass cs c d
  subclass_alike c d pc pd =
      ap (list_any (λ k. k == ren d)) (upward_alike c pc) ∙ among_alike d (superclasses cs c) pd (present_below (c + 1) c (omega arith) pc)

  pub proper_subclass_alike : (c d : ℕ) → Present c → Present d → is_proper_subclass ds (ren c) (ren d) ≡ is_proper_subclass cs c d
  proper_subclass_alike c d pc pd = λ i. not (number_alike n cs ds e c d pc pd i) && subclass_alike c d pc pd i

  -- ---- ancestors

  -- some parent passes where one passes under new numbers
  any_alike : (f g : ℕ → Bool) (c : ℕ) (ps : List ℕ) → AllByRecursion (λ p. (p < c) × Present p) ps
      → ((p : ℕ) → p < c → Present p → f (ren p) ≡ g p) → list_any f (map ren ps) ≡ list_any g ps
  any_alike f g c [] all h = refl
  any_alike f g c (p ∷ ps) all h = λ i. h p all.0.0 all.0.1 i || any_alike f g c ps all.1 h i

  -- the ancestors of a class below the bound
  ancestor_below : (a bound x : ℕ) → x < bound → Present a → Present x → is_ancestor ds (ren a) (ren x) ≡ is_ancestor cs a x
  ancestor_below a zero x lt pa px = absurd (omega (arith, lt))
  ancestor_below a (suc bound) x lt pa px =
      let r = present_row cs x px in
      above_is ds.rows fresh_ordered (ren a) (ren x) (renumbered_class n r.0) (e.rows x r.0 px r.1)
      ∙ (ap (λ (ps : List ℕ). (ren a == ren x) || list_any (is_ancestor ds (ren a)) ps) (parents_renumbered r.0)
      ∙ ((λ i. number_alike n cs ds e a x pa px i
      || any_alike (is_ancestor ds (ren a)) (is_ancestor cs a) x (parents r.0) (parents_present x r.0 px r.1)
      (λ p less pp. ancestor_below a bound p (omega (arith, lt, less)) pa pp) i)
      ∙ sym (above_is cs.rows e.ordered a x r.0 r.1)))

  -- ancestors are the same
  pub ancestor_alike : (a x : ℕ) → Present a → Present x → is_ancestor ds (ren a) (ren x) ≡ is_ancestor cs a x
  ancestor_alike a x pa px = ancestor_below a (x + 1) x (omega arith) pa px

  pub proper_ancestor_alike : (a x : ℕ) → Present a → Present x → is_proper_ancestor ds (ren a) (ren x) ≡ is_proper_ancestor cs a x
  proper_ancestor_alike a x pa px = λ i. not (number_alike n cs ds e a x pa px i) && ancestor_alike a x pa px i

  -- ---- lists by rising number

  -- what is above a number is so under new ones
  above_renumbered : (x : ℕ) (ys : List ℕ) → Present x → AllByRecursion (λ y. x < y) ys → AllByRecursion Present ys
      → AllByRecursion (λ y. ren x < y) (map ren ys)
  above_renumbered x [] present up all = tt
  above_renumbered x (y ∷ ys) present up all = (e.rises x y present all.0 up.0, above_renumbered x ys present up.1 all.1)

  -- a rising list of what is present rises under new numbers
  rises_renumbered : (xs : List ℕ) → Rises xs → AllByRecursion Present xs → Rises (map ren xs)
  rises_renumbered [] up all = tt
  rises_renumbered (x ∷ xs) up all = (above_renumbered x xs all.0 up.0 all.1, rises_renumbered xs up.1 all.1)

  module _ (p q : ℕ → Bool) (m k : ℕ) (shown : (c : ℕ) → p c ≡ true → Present c) (same : (c : ℕ) → Present c → q (ren c) ≡ p c)
      (within : (c : ℕ) → p c ≡ true → ren c < k) (back : (j : ℕ) → q j ≡ true → (c : ℕ) × Present c × (ren c ≡ j) × (c < m)) where
    -- what passes is present
    kept_present : AllByRecursion Present (filter p (range_with_len 0 m))
    kept_present =
        recursion_from_All Present (filter p (range_with_len 0 m))
        (All-weaker (λ c. p c ≡ true) Present shown (filter p (range_with_len 0 m)) (filter_passes p (range_with_len 0 m)))

    -- what passes in the end has passed before
    onward : (j : ℕ) → has j (filter q (range_with_len 0 k)) ≡ true → has j (map ren (filter p (range_with_len 0 m))) ≡ true
    onward j h =
        let r = any-filter q (λ x. x == j) (range_with_len 0 k) h in
        let c = back j (ap q (sym ((Decides-eqb r.item j).0 r.passes)) ∙ r.meets) in
        let less = c.3 in
        any-map (λ x. x == j) ren (filter p (range_with_len 0 m))
        ∙ any-filter-at p (λ x. ren x == j) c.0 (range_with_len 0 m)
        (any-range-from (λ x. x == c.0) 0 m c.0 (omega arith) (omega (arith, less)) (nat_eq_equiv.refl c.0))
        (sym (same c.0 c.1) ∙ ap q (c.2 ∙ sym ((Decides-eqb r.item j).0 r.passes)) ∙ r.meets)
        ((Decides-eqb (ren c.0) j).1 c.2)

    -- and the other way
    backward : (j : ℕ) → has j (map ren (filter p (range_with_len 0 m))) ≡ true → has j (filter q (range_with_len 0 k)) ≡ true
    backward j h =
        let r = any-filter p (λ x. ren x == j) (range_with_len 0 m) (sym (any-map (λ x. x == j) ren (filter p (range_with_len 0 m))) ∙ h) in
        let less = within r.item r.meets in
        any-filter-at q (λ x. x == j) (ren r.item) (range_with_len 0 k)
        (any-range-from (λ x. x == ren r.item) 0 k (ren r.item) (omega arith) (omega (arith, less)) (nat_eq_equiv.refl (ren r.item)))
        (same r.item (shown r.item r.meets) ∙ r.meets) r.passes

    -- what passes of all that have numbers is the same under new ones
    pub filtered_alike : filter q (range_with_len 0 k) ≡ map ren (filter p (range_with_len 0 m))
    filtered_alike =
        one_rising (filter q (range_with_len 0 k)) (map ren (filter p (range_with_len 0 m))) (filter_rises q 0 k)
        (rises_renumbered (filter p (range_with_len 0 m)) (filter_rises p 0 m) kept_present)
        (λ j. one_answer (has j (filter q (range_with_len 0 k))) (has j (map ren (filter p (range_with_len 0 m)))) (λ h. h, λ h. h) (backward j, onward j))

  -- ancestors are present
  ancestor_present : (c : ℕ) → Present c → (a : ℕ) → is_ancestor cs a c ≡ true → Present a
  ancestor_present c present a up = e.closed.ancestors a c up present

  -- the list of ancestors is the same
  ancestors_alike : (c : ℕ) → Present c → ancestors ds.rows (ren c) ≡ map ren (ancestors cs.rows c)
  ancestors_alike c present =
      filtered_alike (λ a. is_ancestor cs a c) (λ a. is_ancestor ds a (ren c)) (c + 1) (ren c + 1) (ancestor_present c present)
      (λ a pa. ancestor_alike a c pa present)
      (λ a up. let le = before ds fresh_ordered (ren a) (ren c) (ancestor_alike a c (ancestor_present c present a up) present ∙ up) in omega (arith, le))
      (λ j up.
      let a = e.uppers j c present up in
      let old = before cs e.ordered a.0 c (sym (ancestor_alike a.0 c a.1 present) ∙ ap (λ (k : ℕ). is_ancestor ds k (ren c)) a.2 ∙ up) in
      (a.0, a.1, a.2, omega (arith, old)))
    where
      before : (ks : Classes) → AreOrdered ks.rows → (a x : ℕ) → is_ancestor ks a x ≡ true → a ≤ x
      before ks o a x up = above ks.rows o a ((ancestor_decides ks o a x).0 up)

  -- ---- superinterfaces

  -- what passes of those that are present is the same under new numbers
  filter_renumbered : (p q : ℕ → Bool) (xs : List ℕ) → AllByRecursion Present xs → ((c : ℕ) → Present c → q (ren c) ≡ p c)
      → filter q (map ren xs) ≡ map ren (filter p xs)
  filter_renumbered p q [] all same = refl
  filter_renumbered p q (x ∷ xs) all same =
      ap (λ (b : Bool). cond b (ren x ∷ filter q (map ren xs)) (filter q (map ren xs))) (same x all.0)
      ∙ by_test (p x) (filter_renumbered p q xs all.1 same)
    where
      by_test : (b : Bool) → filter q (map ren xs) ≡ map ren (filter p xs)
          → cond b (ren x ∷ filter q (map ren xs)) (filter q (map ren xs)) ≡ map ren (cond b (x ∷ filter p xs) (filter p xs))
      by_test true rest = ap (λ (ys : List ℕ). ren x ∷ ys) rest
      by_test false rest = rest

  -- all ancestors are present
  ancestors_present : (c : ℕ) → Present c → All Present (ancestors cs.rows c)
  ancestors_present c present =
      All-weaker (λ a. is_ancestor cs a c ≡ true) Present (ancestor_present c present) (ancestors cs.rows c)
      (filter_passes (λ a. is_ancestor cs a c) (range_with_len 0 (c + 1)))

  -- superinterfaces are the same
  pub above_alike : (c : ℕ) → Present c → superinterfaces ds (ren c) ≡ map ren (superinterfaces cs c)
  above_alike c present =
      ap (filter (λ k. is_interface ds k && not (k == ren c))) (ancestors_alike c present)
      ∙ filter_renumbered (λ k. is_interface cs k && not (k == c)) (λ k. is_interface ds k && not (k == ren c)) (ancestors cs.rows c)
      (recursion_from_All Present (ancestors cs.rows c) (ancestors_present c present))
      (λ k pk. λ i. interface_alike n cs ds e k pk i && not (number_alike n cs ds e k c pk present i))

  -- all superinterfaces are present
  pub above_present : (c : ℕ) → Present c → All Present (superinterfaces cs c)
  above_present c present = All-filter (λ k. is_interface cs k && not (k == c)) Present (ancestors cs.rows c) (ancestors_present c present)
