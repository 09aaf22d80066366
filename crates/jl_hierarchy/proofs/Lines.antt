-- What is said of each class on a line of superclasses, from the top down.
use Rattle.std.specs.Prelude.{◌≡◌, ℕ, zero, suc, ◌+◌, ◌<◌, ◌≤◌, ◌==◌, ◌||◌, length, Bool, true, false, ◌⊎◌, List, [], ◌∷◌, ◌++◌, take, get_or}
use Rattle.std.specs.Prelude.{slice_get, Option, Some, None, option_and_then, option_to_list, IfSome}
use Rattle.std.specs.List.{list_any}
use Rattle.std.specs.Option.{option_map_or}
use Rattle.std.proofs.Common.{refl, ap, sym, subst, ◌∙◌, arith, inl, inr}
use Rattle.std.proofs.lemmas.Bool.{or_cases, or_left, both_ways}
use Rattle.std.proofs.lemmas.Cmp.{nat_eq_equiv}
use Rattle.std.proofs.lemmas.Bool.Decides.{Decides-eqb}
use Rattle.std.proofs.lemmas.Option.{same_Some, slice_get_within, slice_get_cases, slice_get-get_or}
use Rattle.std.proofs.lemmas.List.{take_more, take_all}
use Rattle.std.proofs.lemmas.List.Folds.{list_any-append}
use Rattle.jl_class.specs.Class.{Method}
use Rattle.jl_types.specs.Values.World.{Class, Classes}
use Rattle.jl_types.specs.Values.Members.{is_interface}
use Rattle.jl_types.specs.Values.Ancestry.{IsAncestor, itself, over, parents, is_parent, is_ancestor, superclasses_within, superclasses}
use Rattle.jl_types.specs.Values.Ancestry.{superclass_of, is_subclass, AreOrdered}
use Rattle.jl_types.proofs.Ancestors.{superclasses_is, ancestor_decides, of_ancestors}
use Rattle.jl_hierarchy.proofs.Chains.{next_below, chain_above}
use Rattle.jl_hierarchy.specs.declared.marks.Mark.{Mark}
use Rattle.jl_hierarchy.specs.Prints.{print_of_method}
use Rattle.jl_hierarchy.specs.Redeclared.{has_method, declares_print, sees_print, tells, is_listed, is_on, is_above, line_from, line_above, AreLines, IsTold}
use Rattle.jl_hierarchy.proofs.MarkLaws.{mark_stays, mark_last, tells_itself}

module _ (cs : Classes) (o : AreOrdered cs.rows) (s : ℕ) where
  -- at the top of a line that holds s
  pub at_top : (c : ℕ) → superclass_of cs c ≡ None → is_subclass cs c s ≡ true → (c == s) ≡ true
  at_top c e h = by_row (slice_get cs.rows c) refl
    where
      by_superclass : (row : Class) → slice_get cs.rows c ≡ Some row → (p : Option ℕ) → row.superclass ≡ p → (c == s) ≡ true
      by_superclass row is None top =
          let line : superclasses cs c ≡ c ∷ [] = superclasses_is cs o c row is ∙ ap (λ (p : Option ℕ). c ∷ option_map_or (superclasses cs) p []) top in
          let one : ((c == s) || false) ≡ true = ap (list_any (λ k. k == s)) (sym line) ∙ h in
          elim (or_cases (c == s) false one) [ inl is ↦ is | inr other ↦ cc ]
      by_superclass row is (Some p) top =
          let next : superclass_of cs c ≡ Some p = ap (option_and_then (λ (r : Class). r.superclass)) is ∙ top in
          let other : Some p ≡ None = sym next ∙ e in cc

      by_row : (r : Option Class) → slice_get cs.rows c ≡ r → (c == s) ≡ true
      by_row None is =
          let fuel : c + 1 ≡ suc c = omega arith in
          let none : superclasses cs c ≡ [] = rw (fuel, is) refl in
          let other : false ≡ true = ap (list_any (λ k. k == s)) (sym none) ∙ h in cc
      by_row (Some row) is = by_superclass row is row.superclass refl

  -- below the top
  pub on_next : (c n : ℕ) → superclass_of cs c ≡ Some n → (c == s) ≡ false → is_subclass cs c s ≡ true → is_subclass cs n s ≡ true
  on_next c n e apart h =
      let either : ((c == s) || is_subclass cs n s) ≡ true = ap (list_any (λ k. k == s)) (sym (chain_above cs o c n e)) ∙ h in
      elim (or_cases (c == s) (is_subclass cs n s) either) [ inl is ↦ absurd (both_ways (c == s) apart is) | inr more ↦ more ]

  module _ (P : ℕ → Type 0) (base : P s)
      (step : (c n : ℕ) → superclass_of cs c ≡ Some n → (c == s) ≡ false → is_subclass cs c s ≡ true → P n → P c) where
    by_next : (c : ℕ) → ((n : ℕ) → n < c → is_subclass cs n s ≡ true → P n) → is_subclass cs c s ≡ true → (p : Option ℕ) → superclass_of cs c ≡ p
        → (c == s) ≡ false → P c
    by_next c ih h None e apart = absurd (both_ways (c == s) apart (at_top c e h))
    by_next c ih h (Some n) e apart = step c n e apart h (ih n (next_below cs o c n e) (on_next c n e apart h))

    by_here : (c : ℕ) → ((n : ℕ) → n < c → is_subclass cs n s ≡ true → P n) → is_subclass cs c s ≡ true → (b : Bool) → (c == s) ≡ b → P c
    by_here c ih h true is = subst P (sym ((Decides-eqb c s).0 is)) base
    by_here c ih h false apart = by_next c ih h (superclass_of cs c) refl apart

    within : (k c : ℕ) → c < k → is_subclass cs c s ≡ true → P c
    within zero c lt h = absurd (omega arith)
    within (suc k) c lt h = by_here c (λ n below on. within k n (omega arith) on) h (c == s) refl

    -- of each class whose line holds s
    pub down_line : (c : ℕ) → is_subclass cs c s ≡ true → P c
    down_line c h = within (c + 1) c (omega arith) h

-- ---- what a class and those above it declare

-- of a class that declares no method of the print, what it sees is what its superclass sees
pub seen_above : (cs : Classes) (o : AreOrdered cs.rows) (p at next : ℕ) → declares_print cs p at ≡ false → superclass_of cs at ≡ Some next
    → sees_print cs p at ≡ sees_print cs p next
seen_above cs o p at next none e =
    ap (list_any (declares_print cs p)) (chain_above cs o at next e) ∙ ap (λ (b : Bool). b || sees_print cs p next) none

-- the top sees what it declares
pub top_unseen : (cs : Classes) (o : AreOrdered cs.rows) (p at : ℕ) → superclass_of cs at ≡ None → declares_print cs p at ≡ false → sees_print cs p at ≡ false
top_unseen cs o p at top none = by_row (slice_get cs.rows at) refl
  where
    by_superclass : (row : Class) → slice_get cs.rows at ≡ Some row → (q : Option ℕ) → row.superclass ≡ q → sees_print cs p at ≡ false
    by_superclass row is None e =
        ap (list_any (declares_print cs p)) (superclasses_is cs o at row is ∙ ap (λ (q : Option ℕ). at ∷ option_map_or (superclasses cs) q []) e)
        ∙ ap (λ (b : Bool). b || false) none
    by_superclass row is (Some q) e =
        let next : superclass_of cs at ≡ Some q = ap (option_and_then (λ (r : Class). r.superclass)) is ∙ e in
        let other : Some q ≡ None = sym next ∙ top in cc

    by_row : (r : Option Class) → slice_get cs.rows at ≡ r → sees_print cs p at ≡ false
    by_row None is =
        let fuel : at + 1 ≡ suc at = omega arith in
        let line : superclasses cs at ≡ [] = rw (fuel, is) refl in
        ap (list_any (declares_print cs p)) line
    by_row (Some row) is = by_superclass row is row.superclass refl

-- ---- a walk upward that marks

-- of a class on the line from where the walk began: it is still to come, or is marked and sees what the walk's place sees
abbrev pub IsPassed : Classes → ℕ → List Mark → ℕ → ℕ → Type 0
IsPassed cs p marks at s = (is_subclass cs at s ≡ true) ⊎ ((is_listed marks s p ≡ true) × (sees_print cs p s ≡ sees_print cs p at))

module _ (cs : Classes) (o : AreOrdered cs.rows) (p : ℕ) where
  module _ (at s : ℕ) (found new : List Mark) (more : new ≡ found ++ record { class = at; print = p } ∷ []) where
    marked_at : (at == s) ≡ true → is_listed new s p ≡ true
    marked_at is =
        mark_last found new (record { class = at; print = p }) more s p
        (ap (λ (k : ℕ). tells s p (record { class = k; print = p })) ((Decides-eqb at s).0 is) ∙ tells_itself s p)

    still : is_listed found s p ≡ true → is_listed new s p ≡ true
    still = mark_stays found new (record { class = at; print = p }) more s p

    -- the walk's place declares one
    pub told_here : declares_print cs p at ≡ true → IsPassed cs p found at s → IsTold cs p (is_listed new) s
    told_here there (inr marked) = inl (still marked.0)
    told_here there (inl below) = by_here (at == s) refl
      where
        by_here : (b : Bool) → (at == s) ≡ b → IsTold cs p (is_listed new) s
        by_here true same = inl (marked_at same)
        by_here false apart = inr (at, apart, below, there)

    -- it doesn't, and has a superclass
    pub passes : (next : ℕ) → declares_print cs p at ≡ false → superclass_of cs at ≡ Some next → IsPassed cs p found at s → IsPassed cs p new next s
    passes next none e (inr marked) = inr (still marked.0, marked.1 ∙ seen_above cs o p at next none e)
    passes next none e (inl below) = by_here (at == s) refl
      where
        by_here : (b : Bool) → (at == s) ≡ b → IsPassed cs p new next s
        by_here true same = inr (marked_at same, ap (sees_print cs p) (sym ((Decides-eqb at s).0 same)) ∙ seen_above cs o p at next none e)
        by_here false apart = inl (on_next cs o s at next e apart below)

  -- it doesn't, and has none: what the line holds doesn't see it
  pub unseen : {A : Type 0} (found : List Mark) (at s : ℕ) → declares_print cs p at ≡ false → superclass_of cs at ≡ None → IsPassed cs p found at s
      → sees_print cs p s ≡ true → A
  unseen found at s none top (inl below) seen =
      absurd (both_ways (sees_print cs p at) (top_unseen cs o p at top none) (ap (sees_print cs p) ((Decides-eqb at s).0 (at_top cs o s at top below)) ∙ seen))
  unseen found at s none top (inr marked) seen = absurd (both_ways (sees_print cs p s) (marked.1 ∙ top_unseen cs o p at top none) seen)

-- ---- lines and ancestors

-- what stands on a line is an ancestor
line_within : (rows : List Class) (a k c : ℕ) → list_any (λ x. x == a) (superclasses_within k rows c) ≡ true → IsAncestor rows a c
line_within rows a zero c h = cc
line_within rows a (suc k) c h = by_row (λ s on. line_within rows a k s on) (slice_get rows c) refl h
  where
    by_superclass : ((s : ℕ) → list_any (λ x. x == a) (superclasses_within k rows s) ≡ true → IsAncestor rows a s)
        → (row : Class) → slice_get rows c ≡ Some row → (p : Option ℕ) → row.superclass ≡ p
        → list_any (λ x. x == a) (option_map_or (superclasses_within k rows) p []) ≡ true → IsAncestor rows a c
    by_superclass ih row e None is on = cc
    by_superclass ih row e (Some s) is on =
        let parent : is_parent row s ≡ true =
        ap (λ (p : Option ℕ). list_any (λ q. s == q) (option_to_list p ++ row.interfaces)) is
        ∙ or_left (s == s) (list_any (λ q. s == q) row.interfaces) (nat_eq_equiv.refl s)
        in
        over e parent (ih s on)

    by_row : ((s : ℕ) → list_any (λ x. x == a) (superclasses_within k rows s) ≡ true → IsAncestor rows a s)
        → (r : Option Class) → slice_get rows c ≡ r
        → list_any (λ x. x == a) (option_map_or (λ row. c ∷ option_map_or (superclasses_within k rows) row.superclass []) r []) ≡ true → IsAncestor rows a c
    by_row ih None e on = cc
    by_row ih (Some row) e on = elim (or_cases (c == a) (list_any (λ x. x == a) (option_map_or (superclasses_within k rows) row.superclass [])) on) [
      | inl same ↦
          let is : c ≡ a = (Decides-eqb c a).0 same in
          subst (IsAncestor rows a) (sym is) (itself (ap (slice_get rows) (sym is) ∙ e))
      | inr later ↦ by_superclass ih row e row.superclass refl later
    ]

pub line_ancestor : (cs : Classes) → AreOrdered cs.rows → (a c : ℕ) → is_subclass cs c a ≡ true → is_ancestor cs a c ≡ true
line_ancestor cs o a c h = (ancestor_decides cs o a c).1 (line_within cs.rows a (c + 1) c h)

-- what stands on the line above a class is an ancestor of a parent
pub line_parents : (cs : Classes) → AreOrdered cs.rows → (row : Class) (s : ℕ) → is_on s (line_above cs row) ≡ true
    → list_any (λ p. is_ancestor cs s p) (parents row) ≡ true
line_parents cs o row s h = by_superclass row.superclass refl
  where
    by_superclass : (p : Option ℕ) → row.superclass ≡ p → list_any (λ p. is_ancestor cs s p) (parents row) ≡ true
    by_superclass None is = let none : false ≡ true = sym (ap (λ (p : Option ℕ). is_on s (line_from cs p)) is) ∙ h in cc
    by_superclass (Some p) is =
        let on : is_subclass cs p s ≡ true = sym (ap (λ (q : Option ℕ). is_on s (line_from cs q)) is) ∙ h in
        ap (λ (q : Option ℕ). list_any (λ p. is_ancestor cs s p) (option_to_list q ++ row.interfaces)) is
        ∙ or_left (is_ancestor cs s p) (list_any (λ p. is_ancestor cs s p) row.interfaces) (line_ancestor cs o s p on)

-- ---- classes whose ancestors are superclasses

module _ (cs : Classes) (o : AreOrdered cs.rows) (row : Class) where
  above_through : (a s : ℕ) → is_ancestor cs a s ≡ true → is_above cs row s ≡ true → is_above cs row a ≡ true
  above_through a s up above = by_superclass row.superclass refl
    where
      by_superclass : (p : Option ℕ) → row.superclass ≡ p → is_above cs row a ≡ true
      by_superclass None is = let none : false ≡ true = sym (ap (λ (p : Option ℕ). option_map_or (is_ancestor cs s) p false) is) ∙ above in cc
      by_superclass (Some p) is =
          ap (λ (q : Option ℕ). option_map_or (is_ancestor cs a) q false) is
          ∙ of_ancestors cs o a s p up (sym (ap (λ (q : Option ℕ). option_map_or (is_ancestor cs s) q false) is) ∙ above)

  -- of an interface whose superclass is above
  pub above_by_interface : AreLines cs.rows → (i : ℕ) → is_interface cs i ≡ true → ((s : ℕ) → superclass_of cs i ≡ Some s → is_above cs row s ≡ true)
      → (a : ℕ) → is_ancestor cs a i ≡ true → is_interface cs a ≡ false → is_above cs row a ≡ true
  above_by_interface lines i interface upper a up plain = by_superclass (superclass_of cs i) refl
    where
      apart : (i == a) ≡ false
      apart = by_test (i == a) refl
        where
          by_test : (b : Bool) → (i == a) ≡ b → b ≡ false
          by_test true same = absurd (both_ways (is_interface cs a) plain (ap (is_interface cs) (sym ((Decides-eqb i a).0 same)) ∙ interface))
          by_test false other = refl

      by_superclass : (p : Option ℕ) → superclass_of cs i ≡ p → is_above cs row a ≡ true
      by_superclass None is = absurd (both_ways (i == a) apart (at_top cs o a i is (lines i a up plain)))
      by_superclass (Some s) is =
          above_through a s (line_ancestor cs o a s (on_next cs o a i s is apart (lines i a up plain))) (upper s is)

module _ (cs : Classes) (row : Class) where
  -- of all parents
  pub above_by_parents : (a : ℕ) → (list_any (λ p. is_ancestor cs a p) row.interfaces ≡ true → is_above cs row a ≡ true)
      → list_any (λ p. is_ancestor cs a p) (parents row) ≡ true → is_above cs row a ≡ true
  above_by_parents a others h = by_superclass row.superclass refl
    where
      by_superclass : (p : Option ℕ) → row.superclass ≡ p → is_above cs row a ≡ true
      by_superclass None is = others (sym (ap (λ (q : Option ℕ). list_any (λ p. is_ancestor cs a p) (option_to_list q ++ row.interfaces)) is) ∙ h)
      by_superclass (Some p) is =
          let either : (is_ancestor cs a p || list_any (λ p. is_ancestor cs a p) row.interfaces) ≡ true =
          sym (ap (λ (q : Option ℕ). list_any (λ p. is_ancestor cs a p) (option_to_list q ++ row.interfaces)) is) ∙ h
          in
          elim (or_cases (is_ancestor cs a p) (list_any (λ p. is_ancestor cs a p) row.interfaces) either) [
            | inl up ↦ ap (λ (q : Option ℕ). option_map_or (is_ancestor cs a) q false) is ∙ up
            | inr other ↦ others other
          ]

  -- one interface more
  pub above_more : (interfaces : List ℕ) (n interface a : ℕ) → n < length interfaces → get_or interfaces n interface ≡ interface
      → (list_any (λ p. is_ancestor cs a p) (take n interfaces) ≡ true → is_above cs row a ≡ true)
      → (is_ancestor cs a interface ≡ true → is_above cs row a ≡ true)
      → list_any (λ p. is_ancestor cs a p) (take (n + 1) interfaces) ≡ true → is_above cs row a ≡ true
  above_more interfaces n interface a lt is before here h =
      let either : (list_any (λ p. is_ancestor cs a p) (take n interfaces) || (is_ancestor cs a interface || false)) ≡ true =
      sym
      (ap (list_any (λ p. is_ancestor cs a p)) (take_more interfaces n interface lt)
      ∙ list_any-append (λ p. is_ancestor cs a p) (take n interfaces) (get_or interfaces n interface ∷ [])
      ∙ ap (λ (k : ℕ). list_any (λ p. is_ancestor cs a p) (take n interfaces) || (is_ancestor cs a k || false)) is)
      ∙ h
      in
      elim (or_cases (list_any (λ p. is_ancestor cs a p) (take n interfaces)) (is_ancestor cs a interface || false) either) [
        | inl earlier ↦ before earlier
        | inr last ↦ elim (or_cases (is_ancestor cs a interface) false last) [ inl up ↦ here up | inr other ↦ cc ]
      ]

-- what is told stays so
pub still_told : (cs : Classes) (p : ℕ) (found new : List Mark) → ((s p : ℕ) → is_listed found s p ≡ true → is_listed new s p ≡ true)
    → (s : ℕ) → IsTold cs p (is_listed found) s → IsTold cs p (is_listed new) s
still_told cs p found new kept s (inl marked) = inl (kept s p marked)
still_told cs p found new kept s (inr above) = inr above

-- ---- methods one after another

-- what these marks tell of a list of methods
abbrev pub AreTold : Classes → ℕ → List Mark → List Method → Type 0
AreTold cs superclass marks ms = (s p : ℕ) → has_method p ms ≡ true → is_subclass cs superclass s ≡ true → sees_print cs p s ≡ true
    → IsTold cs p (is_listed marks) s

-- one method more
pub told_more : (cs : Classes) (superclass : ℕ) (methods : List Method) (found new : List Mark) (place : ℕ) (method : Method) (print : ℕ)
    → slice_get methods place ≡ Some method → print ≡ print_of_method method
    → ((s p : ℕ) → is_listed found s p ≡ true → is_listed new s p ≡ true)
    → (o : Option ℕ) (left : ℕ) → o ≡ Some left
    → IfSome o (λ n. (s : ℕ) → is_subclass cs superclass s ≡ true → sees_print cs print s ≡ true → IsTold cs print (is_listed new) s)
    → AreTold cs superclass found (take place methods) → AreTold cs superclass new (take (place + 1) methods)
told_more cs superclass methods found new place method print here is kept None left none last before = cc
told_more cs superclass methods found new place method print here is kept (Some n) left some last before = told
  where
    told : AreTold cs superclass new (take (place + 1) methods)
    told s p h on seen =
        let within = slice_get_within methods place method here in
        let at : get_or methods place method ≡ method = same_Some (get_or methods place method) method (sym (slice_get-get_or methods place method within)
        ∙ here) in
        let split : (has_method p (take place methods) || ((print_of_method method == p) || false)) ≡ true =
        sym
        (ap (has_method p) (take_more methods place method within)
        ∙ list_any-append (λ m. print_of_method m == p) (take place methods) (get_or methods place method ∷ [])
        ∙ ap (λ (m : Method). has_method p (take place methods) || ((print_of_method m == p) || false)) at)
        ∙ h
        in
        elim (or_cases (has_method p (take place methods)) ((print_of_method method == p) || false) split) [
          | inl before_it ↦ still_told cs p found new kept s (before s p before_it on seen)
          | inr last_one ↦ elim (or_cases (print_of_method method == p) false last_one) [
            | inl same ↦
                let equal : print ≡ p = is ∙ (Decides-eqb (print_of_method method) p).0 same in
                subst (λ q. IsTold cs q (is_listed new) s) equal (last s on (ap (λ q. sees_print cs q s) equal ∙ seen))
            | inr other ↦ cc
          ]
        ]

pub told_all : (cs : Classes) (superclass : ℕ) (methods : List Method) (found : List Mark) (place : ℕ) → slice_get methods place ≡ None
    → AreTold cs superclass found (take place methods) → AreTold cs superclass found methods
told_all cs superclass methods found place end before =
    subst (AreTold cs superclass found) (take_all place methods over) before
  where
    over : length methods ≤ place
    over = elim ((slice_get_cases methods place).1) [
      | inl here ↦ let other : Some here.0 ≡ None = sym here.2 ∙ end in cc
      | inr past ↦ past.0
    ]
