-- The lists of receivers, as one of them is changed.
use Rattle.std.specs.Prelude.{◌≡◌, ℕ, zero, suc, ◌+◌, ◌<◌, ◌==◌, ◌||◌, Bool, true, false, if◌then◌else◌, List, [], ◌∷◌, ◌++◌, length, get_or}
use Rattle.std.specs.Prelude.{slice_set, take, drop}
use Rattle.std.specs.List.{list_any, AllByRecursion}
use Rattle.std.specs.Prelude.{Vec}
use Rattle.std.specs.declared.alloc.Global.{Global}
use Rattle.std.proofs.Common.{refl, ap, sym, subst, ◌∙◌, arith}
use Rattle.std.proofs.Math.Seq.{take-append_seam}
use Rattle.std.proofs.lemmas.Bool.Decides.{Decides-eqb}
use Rattle.std.proofs.lemmas.List.{take_more, get_or-set_same, get_or-set_other, map-set, length-set, length-map, map-append}
use Rattle.std.proofs.lemmas.List.Folds.{list_any-append}
use Rattle.std.proofs.lemmas.Bool.{both_ways}
use Rattle.std.proofs.lemmas.Cmp.{nat_eq_equiv}
use Rattle.jl_types.proofs.Bools.{or_none}
use Rattle.jl_hierarchy.proofs.Rising.{other_number, above_at}
use Rattle.jl_hierarchy.proofs.KeptLaws.{get_or-lists}
use Rattle.jl_hierarchy.specs.ForProofs.Kept.{HasRoom, HasRoomForOne, Rises, AreChanged, lists}

-- ---- one list is changed

-- the elements of all lists stay if those of the changed one do
pub same_lists : (below : List (Vec ℕ Global)) (i : ℕ) (d v : Vec ℕ Global) → v.items ≡ (get_or below i d).items
    → lists (slice_set below i v) ≡ lists below
same_lists [] i d v e = refl
same_lists (x ∷ below) zero d v e = ap (λ (l : List ℕ). l ∷ lists below) e
same_lists (x ∷ below) (suc i) d v e = ap (λ (ls : List (List ℕ)). x.items ∷ ls) (same_lists below i d v e)

-- the list at c has room, if it is the changed one and that has room, or if it is another and had room
pub room_set : (below : List (Vec ℕ Global)) (i c : ℕ) (v : Vec ℕ Global) → i < length below → ((i == c) ≡ true → HasRoomForOne v)
    → ((i == c) ≡ false → HasRoom below c) → HasRoom (slice_set below i v) c
room_set below i c v lt room old d = by_test (i == c) refl
  where
    by_test : (b : Bool) → (i == c) ≡ b → HasRoomForOne (get_or (slice_set below i v) c d)
    by_test true e =
        subst (λ k. HasRoomForOne (get_or (slice_set below i v) k d)) ((Decides-eqb i c).0 e)
        (subst (λ (w : Vec ℕ Global). HasRoomForOne w) (sym (get_or-set_same below i v d lt)) (room e))
    by_test false e = subst (λ (w : Vec ℕ Global). HasRoomForOne w)
        (sym (get_or-set_other below i c v d (λ same. both_ways (i == c) e ((Decides-eqb i c).1 (sym same))))) (old e d)

-- the lists that were written in place, and one after them
pub with_own : (n : ℕ) (old new : List (Vec ℕ Global)) (own : Vec ℕ Global) → length new ≡ n
    → lists (take n (new ++ drop (length new) old) ++ own ∷ []) ≡ lists new ++ own.items ∷ []
with_own n old new own e =
    ap (λ (vs : List (Vec ℕ Global)). lists (vs ++ own ∷ []))
    (ap (λ (k : ℕ). take k (new ++ drop (length new) old)) (sym e) ∙ take-append_seam new (drop (length new) old))
    ∙ map-append (λ (v : Vec ℕ Global). v.items) new (own ∷ [])

-- ---- one list more is changed

-- the list at c after the change
abbrev changed : List ℕ → (List ℕ → List ℕ) → List (List ℕ) → ℕ → List ℕ
changed classes f old c = if list_any (λ k. k == c) classes then f (get_or old c []) else get_or old c []

-- whether c is among the first n + 1 classes
has_more : (classes : List ℕ) (n c d : ℕ) → n < length classes
    → list_any (λ k. k == c) (take (n + 1) classes) ≡ (list_any (λ k. k == c) (take n classes) || (get_or classes n d == c))
has_more classes n c d lt =
    ap (list_any (λ k. k == c)) (take_more classes n d lt)
    ∙ list_any-append (λ k. k == c) (take n classes) (get_or classes n d ∷ [])
    ∙ ap (λ (b : Bool). list_any (λ k. k == c) (take n classes) || b) (or_none (get_or classes n d == c))

-- as many lists as vectors
pub as_many_lists : (vectors others : List (Vec ℕ Global)) → lists vectors ≡ lists others → length vectors ≡ length others
as_many_lists vectors others e =
    sym (length-map vectors (λ (u : Vec ℕ Global). u.items)) ∙ ap length e ∙ length-map others (λ (u : Vec ℕ Global). u.items)

pub same_default : {X : Type 0} (xs : List X) (i : ℕ) (d e : X) → i < length xs → get_or xs i d ≡ get_or xs i e
same_default [] i d e lt = absurd (omega arith)
same_default (x ∷ xs) zero d e lt = refl
same_default (x ∷ xs) (suc i) d e lt = same_default xs i d e (omega arith)

above_any : (x : ℕ) (xs : List ℕ) (j d : ℕ) → AllByRecursion (λ y. x < y) xs → j < length xs → x < get_or xs j d
above_any x xs j d h lt = subst (λ y. x < y) (same_default xs j 0 d lt) (above_at x xs j h lt)

-- earlier numbers of a rising list are less
pub rises_at : (xs : List ℕ) (i j d e : ℕ) → Rises xs → i < j → j < length xs → get_or xs i d < get_or xs j e
rises_at [] i j d e r lt within = absurd (omega arith)
rises_at (x ∷ xs) zero zero d e r lt within = absurd (omega arith)
rises_at (x ∷ xs) zero (suc j) d e r lt within = above_any x xs j e r.0 (omega arith)
rises_at (x ∷ xs) (suc i) zero d e r lt within = absurd (omega arith)
rises_at (x ∷ xs) (suc i) (suc j) d e r lt within = rises_at xs i j d e r.1 (omega arith) (omega arith)

-- a rising list has none of its numbers before its place
not_before : (classes : List ℕ) (n d : ℕ) → Rises classes → n < length classes
    → list_any (λ k. k == get_or classes n d) (take n classes) ≡ false
not_before [] n d r lt = absurd (omega arith)
not_before (x ∷ classes) zero d r lt = refl
not_before (x ∷ classes) (suc n) d r lt =
    ap (λ (b : Bool). b || list_any (λ k. k == get_or classes n d) (take n classes))
    (other_number x (get_or classes n d) (above_any x classes n d r.0 (omega arith)))
    ∙ not_before classes n d r.1 (omega arith)

module _ (classes : List ℕ) (f : List ℕ → List ℕ) (old : List (List ℕ)) (below : List (Vec ℕ Global)) (n d : ℕ) (r : Rises classes) (lt : n < length classes)
    (h : AreChanged (take n classes) f old (lists below)) (v : Vec ℕ Global) (w : Vec ℕ Global)
    (there : get_or classes n d < length below) (e : v.items ≡ f (get_or below (get_or classes n d) w).items) where
  abbrev at : ℕ
  at = get_or classes n d

  lists_set : lists (slice_set below at v) ≡ slice_set (lists below) at v.items
  lists_set = map-set (λ (u : Vec ℕ Global). u.items) below at v

  abbrev with : Bool → ℕ → List ℕ
  with b c = if b then f (get_or old c []) else get_or old c []

  there_too : at < length (lists below)
  there_too = let m = length-map below (λ (u : Vec ℕ Global). u.items) in omega arith

  at_place : get_or (lists (slice_set below at v)) at [] ≡ changed (take (n + 1) classes) f old at
  at_place =
      ap (λ (ls : List (List ℕ)). get_or ls at []) lists_set
      ∙ get_or-set_same (lists below) at v.items [] there_too
      ∙ e
      ∙ ap f (sym (get_or-lists below at w) ∙ same_default (lists below) at w.items [] there_too ∙ h.each at
      ∙ ap (λ b. with b at) (not_before classes n d r lt))
      ∙ sym (ap (λ b. with b at) (has_more classes n at d lt ∙ ap (λ b. b || (at == at)) (not_before classes n d r lt) ∙ nat_eq_equiv.refl at))

  here : (c : ℕ) → (at == c) ≡ true → get_or (lists (slice_set below at v)) c [] ≡ changed (take (n + 1) classes) f old c
  here c is = subst (λ k. get_or (lists (slice_set below at v)) k [] ≡ changed (take (n + 1) classes) f old k) ((Decides-eqb at c).0 is) at_place

  elsewhere : (c : ℕ) → (at == c) ≡ false → get_or (lists (slice_set below at v)) c [] ≡ changed (take (n + 1) classes) f old c
  elsewhere c is =
      ap (λ (ls : List (List ℕ)). get_or ls c []) lists_set
      ∙ get_or-set_other (lists below) at c v.items [] (λ same. both_ways (at == c) is ((Decides-eqb at c).1 (sym same)))
      ∙ h.each c
      ∙ sym (ap (λ b. with b c) (has_more classes n c d lt ∙ ap (λ b. list_any (λ k. k == c) (take n classes) || b) is
      ∙ or_none (list_any (λ k. k == c) (take n classes))))

  pub changed_more : AreChanged (take (n + 1) classes) f old (lists (slice_set below at v))
  changed_more = record { many = ap length lists_set ∙ length-set (lists below) at v.items ∙ h.many; each = λ c. by_test c (at == c) refl }
    where
      by_test : (c : ℕ) (b : Bool) → (at == c) ≡ b → get_or (lists (slice_set below at v)) c [] ≡ changed (take (n + 1) classes) f old c
      by_test c true is = here c is
      by_test c false is = elsewhere c is
