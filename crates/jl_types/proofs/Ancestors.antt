-- The tests of ancestors and of superclasses say what they are to say, if parents come first.
use Rattle.std.specs.Prelude.{◌≡◌, ℕ, zero, suc, ◌+◌, ◌<◌, ◌≤◌, ◌==◌, Bool, true, false, ◌||◌, not, List, [], ◌∷◌, ◌++◌}
use Rattle.std.specs.Prelude.{slice_get, Option, Some, None, option_to_list, Decides}
use Rattle.std.specs.List.{AllByRecursion, list_any}
use Rattle.std.specs.Option.{option_map_or}
use Rattle.std.proofs.Common.{refl, ap, sym, subst, ◌∙◌, arith, add-one, inl, inr}
use Rattle.std.proofs.lemmas.Bool.Decides.{Decides-eqb}
use Rattle.std.proofs.lemmas.List.Elements.{recursion_from_All}
use Rattle.std.proofs.Math.Arith.{lt_of_le-ne}
use Rattle.std.proofs.lemmas.Bool.{or_right, or_cases, and_parts, both_ways}
use Rattle.std.proofs.lemmas.Cmp.{nat_eq_equiv}
use Rattle.std.proofs.lemmas.Option.{same_Some}
use Rattle.jl_types.specs.Values.World.{Class, Classes}
use Rattle.jl_types.specs.Values.Ancestry.{parents, IsAncestor, itself, over, is_ancestor_within, is_ancestor, superclasses_within, superclasses}
use Rattle.jl_types.specs.Values.Ancestry.{is_subclass, is_proper_subclass, AreOrdered}

-- ---- ancestors

-- two tests that agree below c agree on parents that come before it
pub any_alike : (f g : ℕ → Bool) (c : ℕ) → ((p : ℕ) → p < c → f p ≡ g p) → (ps : List ℕ) → AllByRecursion (λ p. p < c) ps → list_any f ps ≡ list_any g ps
any_alike f g c h [] o = refl
any_alike f g c h (p ∷ ps) o = λ i. h p o.0 i || any_alike f g c h ps o.1 i

-- the number p is among the list, and passes
record Member (f : ℕ → Bool) (ps : List ℕ) : Type 0 where
  number : ℕ
  among : list_any (λ q. number == q) ps ≡ true
  passes : f number ≡ true

member : (f : ℕ → Bool) (ps : List ℕ) → list_any f ps ≡ true → Member f ps
member f [] h = cc
member f (p ∷ ps) h = elim (or_cases (f p) (list_any f ps) h) [
  | inl is ↦ record { number = p; among = ap (λ (b : Bool). b || list_any (λ q. p == q) ps) (nat_eq_equiv.refl p); passes = is }
  | inr more ↦ after f p ps (member f ps more)
]
  where
    after : (f : ℕ → Bool) (p : ℕ) (ps : List ℕ) → Member f ps → Member f (p ∷ ps)
    after f p ps r = record { number = r.number; among = or_right (r.number == p) (list_any (λ q. r.number == q) ps) r.among; passes = r.passes }

any_of : (f : ℕ → Bool) (p : ℕ) (ps : List ℕ) → f p ≡ true → list_any (λ q. p == q) ps ≡ true → list_any f ps ≡ true
any_of f p [] h m = cc
any_of f p (q ∷ ps) h m = elim (or_cases (p == q) (list_any (λ q. p == q) ps) m) [
  | inl is ↦ ap (λ (b : Bool). b || list_any f ps) (ap f (sym ((Decides-eqb p q).0 is)) ∙ h)
  | inr more ↦ or_right (f q) (list_any f ps) (any_of f p ps h more)
]

module _ (rows : List Class) (a : ℕ) where
  here_or : (n x : ℕ) → ((p : ℕ) → is_ancestor_within n rows a p ≡ true → IsAncestor rows a p) → (row : Class) → slice_get rows x ≡ Some row
      → (b : Bool) → (a == x) ≡ b → (b || list_any (is_ancestor_within n rows a) (parents row)) ≡ true → IsAncestor rows a x
  here_or n x ih row e true is h =
      let same : a ≡ x = (Decides-eqb a x).0 is in
      subst (λ y. IsAncestor rows a y) same (itself (ap (slice_get rows) same ∙ e))
  here_or n x ih row e false is h =
      let r = member (is_ancestor_within n rows a) (parents row) h in
      over e r.among (ih r.number r.passes)

  at_row : (n x : ℕ) → ((p : ℕ) → is_ancestor_within n rows a p ≡ true → IsAncestor rows a p) → (row : Option Class) → slice_get rows x ≡ row
      → option_map_or (λ r. (a == x) || list_any (is_ancestor_within n rows a) (parents r)) row false ≡ true → IsAncestor rows a x
  at_row n x ih None e h = cc
  at_row n x ih (Some row) e h = here_or n x ih row e (a == x) refl h

  sound : (n x : ℕ) → is_ancestor_within n rows a x ≡ true → IsAncestor rows a x
  sound zero x h = cc
  sound (suc n) x h = at_row n x (sound n) (slice_get rows x) refl h

module _ (rows : List Class) (o : AreOrdered rows) (a : ℕ) where
  alike_at : (f g : ℕ → Bool) (c : ℕ) → ((p : ℕ) → p < c → f p ≡ g p) → (row : Option Class) → slice_get rows c ≡ row
      → option_map_or (λ r. (a == c) || list_any f (parents r)) row false ≡ option_map_or (λ r. (a == c) || list_any g (parents r)) row false
  alike_at f g c h None e = refl
  alike_at f g c h (Some row) e = ap (λ (b : Bool). (a == c) || b) (any_alike f g c h (parents row) (recursion_from_All (λ p. p < c) (parents row) (o c row e)))

  -- steps beyond the class's number change nothing
  enough : (n m c : ℕ) → c < n → c < m → is_ancestor_within n rows a c ≡ is_ancestor_within m rows a c
  enough zero m c h k = absurd (omega arith)
  enough (suc n) zero c h k = absurd (omega arith)
  enough (suc n) (suc m) c h k = alike_at (is_ancestor_within n rows a) (is_ancestor_within m rows a) c (λ p lt. enough n m p (omega arith) (omega arith))
      (slice_get rows c) refl

  -- a is an ancestor of c if it is c, or an ancestor of a parent of c
  pub above_is : (c : ℕ) (row : Class) → slice_get rows c ≡ Some row → is_ancestor_within (c + 1) rows a c ≡ ((a == c)
      || list_any (λ p. is_ancestor_within (p + 1) rows a p) (parents row))
  above_is c row e =
      rw (add-one c, e)
      (ap (λ (b : Bool). (a == c) || b)
      (any_alike (is_ancestor_within c rows a) (λ p. is_ancestor_within (p + 1) rows a p) c (λ p lt. enough c (p + 1) p lt (omega arith)) (parents row)
      (recursion_from_All (λ p. p < c) (parents row) (o c row e))))

  complete : {x : ℕ} → IsAncestor rows a x → is_ancestor_within (x + 1) rows a x ≡ true
  complete (itself {row = row} e) = above_is a row e ∙ ap (λ (b : Bool). b || list_any (λ p. is_ancestor_within (p + 1) rows a p) (parents row))
      (nat_eq_equiv.refl a)
  complete (over {x = x} {p = p} {row = row} e m r) =
      above_is x row e
      ∙ or_right (a == x) (list_any (λ p. is_ancestor_within (p + 1) rows a p) (parents row))
      (any_of (λ p. is_ancestor_within (p + 1) rows a p) p (parents row) (complete r) m)

pub ancestor_decides : (cs : Classes) → AreOrdered cs.rows → (a x : ℕ) → Decides (is_ancestor cs a x) (IsAncestor cs.rows a x)
ancestor_decides cs o a x = (sound cs.rows a (x + 1) x, complete cs.rows o a)

pub among_itself : (cs : Classes) (c : ℕ) (row : Class) → slice_get cs.rows c ≡ Some row → is_ancestor cs c c ≡ true
among_itself cs c row e = rw (add-one c, e, nat_eq_equiv.refl c) refl

onward : (rows : List Class) (a b : ℕ) → IsAncestor rows a b → {c : ℕ} → IsAncestor rows b c → IsAncestor rows a c
onward rows a b r (itself e) = r
onward rows a b r (over e m s) = over e m (onward rows a b r s)

pub of_ancestors : (cs : Classes) → AreOrdered cs.rows → (a b c : ℕ) → is_ancestor cs a b ≡ true → is_ancestor cs b c ≡ true → is_ancestor cs a c ≡ true
of_ancestors cs o a b c h k = (ancestor_decides cs o a c).1 (onward cs.rows a b ((ancestor_decides cs o a b).0 h) ((ancestor_decides cs o b c).0 k))

-- ---- superclasses

first_of_all : (P : ℕ → Type 0) (o : Option ℕ) (ps : List ℕ) (s : ℕ) → o ≡ Some s → AllByRecursion P (option_to_list o ++ ps) → P s
first_of_all P None ps s e h = cc
first_of_all P (Some q) ps s e h = subst P (same_Some q s e) h.0

module _ (rows : List Class) (o : AreOrdered rows) where
  pub superclass_below : (c : ℕ) (row : Class) → slice_get rows c ≡ Some row → (s : ℕ) → row.superclass ≡ Some s → s < c
  superclass_below c row e s is = first_of_all (λ p. p < c) row.superclass row.interfaces s is (recursion_from_All (λ p. p < c) (parents row) (o c row e))

  next_alike : (f g : ℕ → List ℕ) (c : ℕ) → ((p : ℕ) → p < c → f p ≡ g p) → (row : Class) → slice_get rows c ≡ Some row → (s : Option ℕ)
      → row.superclass ≡ s → option_map_or f s [] ≡ option_map_or g s []
  next_alike f g c h row e None is = refl
  next_alike f g c h row e (Some s) is = h s (superclass_below c row e s is)

  chain_at : (f g : ℕ → List ℕ) (c : ℕ) → ((p : ℕ) → p < c → f p ≡ g p) → (row : Option Class) → slice_get rows c ≡ row
      → option_map_or (λ r. c ∷ option_map_or f r.superclass []) row [] ≡ option_map_or (λ r. c ∷ option_map_or g r.superclass []) row []
  chain_at f g c h None e = refl
  chain_at f g c h (Some row) e = ap (λ (xs : List ℕ). c ∷ xs) (next_alike f g c h row e row.superclass refl)

  chain_enough : (n m c : ℕ) → c < n → c < m → superclasses_within n rows c ≡ superclasses_within m rows c
  chain_enough zero m c h k = absurd (omega arith)
  chain_enough (suc n) zero c h k = absurd (omega arith)
  chain_enough (suc n) (suc m) c h k = chain_at (superclasses_within n rows) (superclasses_within m rows) c
      (λ p lt. chain_enough n m p (omega arith) (omega arith)) (slice_get rows c) refl

  -- a class, and its superclass's chain
  pub chain_is : (c : ℕ) (row : Class) → slice_get rows c ≡ Some row → superclasses_within (c + 1) rows c ≡ c
      ∷ option_map_or (λ s. superclasses_within (s + 1) rows s) row.superclass []
  chain_is c row e =
      rw (add-one c, e)
      (ap (λ (xs : List ℕ). c ∷ xs)
      (next_alike (superclasses_within c rows) (λ s. superclasses_within (s + 1) rows s) c (λ p lt. chain_enough c (p + 1) p lt (omega arith)) row e
      row.superclass refl))

  above_next : (n c : ℕ) (y : ℕ) → ((p : ℕ) → list_any (λ k. k == y) (superclasses_within n rows p) ≡ true → y ≤ p) → (row : Class)
      → slice_get rows c ≡ Some row → (s : Option ℕ) → row.superclass ≡ s
      → list_any (λ k. k == y) (option_map_or (superclasses_within n rows) s []) ≡ true → y ≤ c
  above_next n c y ih row e None is h = cc
  above_next n c y ih row e (Some s) is h = let lt = superclass_below c row e s is in let le = ih s h in omega arith

  above_at : (n c : ℕ) (y : ℕ) → ((p : ℕ) → list_any (λ k. k == y) (superclasses_within n rows p) ≡ true → y ≤ p) → (row : Option Class)
      → slice_get rows c ≡ row → list_any (λ k. k == y) (option_map_or (λ r. c ∷ option_map_or (superclasses_within n rows) r.superclass []) row []) ≡ true
      → y ≤ c
  above_at n c y ih None e h = cc
  above_at n c y ih (Some row) e h = elim (or_cases (c == y) (list_any (λ k. k == y) (option_map_or (superclasses_within n rows) row.superclass [])) h) [
    | inl is ↦ (let same : c ≡ y = (Decides-eqb c y).0 is in omega arith)
    | inr more ↦ above_next n c y ih row e row.superclass refl more
  ]

  -- superclasses come first
  chain_below : (n c y : ℕ) → list_any (λ k. k == y) (superclasses_within n rows c) ≡ true → y ≤ c
  chain_below zero c y h = cc
  chain_below (suc n) c y h = above_at n c y (λ p k. chain_below n p y k) (slice_get rows c) refl h

pub subclass_above : (cs : Classes) → AreOrdered cs.rows → (x y : ℕ) → is_proper_subclass cs x y ≡ true → y < x
subclass_above cs o x y h =
    let both = and_parts (not (x == y)) (is_subclass cs x y) h in
    let le = chain_below cs.rows o (x + 1) x y both.1 in
    strict x y le both.0 (x == y) refl
  where
    strict : (x y : ℕ) → y ≤ x → not (x == y) ≡ true → (b : Bool) → (x == y) ≡ b → y < x
    strict x y le h true e = absurd (let k : not (x == y) ≡ false = ap not e in both_ways (not (x == y)) k h)
    strict x y le h false e = lt_of_le-ne le (λ same. both_ways (x == y) e ((Decides-eqb x y).1 (sym same)))

pub superclasses_is : (cs : Classes) → AreOrdered cs.rows → (c : ℕ) (row : Class) → slice_get cs.rows c ≡ Some row
    → superclasses cs c ≡ c ∷ option_map_or (superclasses cs) row.superclass []
superclasses_is cs o c row e = chain_is cs.rows o c row e
