-- Where a place stands once it was added.
use Rattle.std.specs.Prelude.{◌≡◌, ℕ, zero, suc, ◌+◌, ◌&&◌, ◌||◌, Bool, true, false, List, [], ◌∷◌, ◌++◌, length, replicate, get_or, position}
use Rattle.std.specs.Prelude.{Option, Some, None, option_map, if◌then◌else◌}
use Rattle.std.specs.List.{list_any, IsDistinct}
use Rattle.std.proofs.Common.{refl, ap, sym, subst, ◌∙◌, arith}
use Rattle.std.proofs.lemmas.Bool.{both_ways}
use Rattle.std.proofs.lemmas.Bool.Decides.{Decides-eqb}
use Rattle.std.proofs.lemmas.Map.Keys.{IsDistinct-push}
use Rattle.std.proofs.lemmas.List.{length-replicate}
use Rattle.std.specs.Cmp.{IsEquivalence}
use Rattle.jl_types.specs.declared.ids.Place.{Place}
use Rattle.jl_types.specs.Events.Verdict.{same_place}
use Rattle.jl_types.proofs.Firsts.{first_here, first_later, no_later}
use Rattle.jl_types.proofs.Places.{same_so}
use Rattle.jl_places.specs.ForProofs.Parts.{ByClass, part_of, number_in, number_at, AreFound}

-- ---- one place

both_so : {a b : Bool} → a ≡ true → b ≡ true → (a && b) ≡ true
both_so {a} {b} e f = ap (λ (d : Bool). d && b) e ∙ f

-- ---- the first place that passes

-- one that passes comes last
last_passes : (test : Place → Bool) (p : Place) (xs : List Place) → position test xs ≡ None → test p ≡ true
    → position test (xs ++ p ∷ []) ≡ Some (length xs)
last_passes test p [] none is = first_here test p [] is
last_passes test p (x ∷ xs) none is = by_test (test x) refl (λ rest. last_passes test p xs rest is)
  where
    by_test : (b : Bool) → test x ≡ b → (position test xs ≡ None → position test (xs ++ p ∷ []) ≡ Some (length xs))
        → position test (x ∷ xs ++ p ∷ []) ≡ Some (suc (length xs))
    by_test true e ih = let first = first_here test x xs e in cc (first, none)
    by_test false e ih =
        first_later test x (xs ++ p ∷ []) e
        ∙ ap (option_map (λ n. n + 1)) (ih (no_later (position test xs) (sym (first_later test x xs e) ∙ none)))
        ∙ ap Some (omega arith)

-- one that doesn't pass comes last
last_fails : (test : Place → Bool) (p : Place) (xs : List Place) → test p ≡ false → position test (xs ++ p ∷ []) ≡ position test xs
last_fails test p [] e = first_later test p [] e
last_fails test p (x ∷ xs) e = by_test (test x) refl (last_fails test p xs e)
  where
    by_test : (b : Bool) → test x ≡ b → position test (xs ++ p ∷ []) ≡ position test xs → position test (x ∷ xs ++ p ∷ []) ≡ position test (x ∷ xs)
    by_test true is ih = first_here test x (xs ++ p ∷ []) is ∙ sym (first_here test x xs is)
    by_test false is ih = first_later test x (xs ++ p ∷ []) is ∙ ap (option_map (λ n. n + 1)) ih ∙ sym (first_later test x xs is)

-- whether one passes
pub some_among : (test : Place → Bool) (xs : List Place) (s : ℕ) → position test xs ≡ Some s → list_any test xs ≡ true
some_among test [] s e = cc
some_among test (x ∷ xs) s e = by_test (test x) refl (position test xs) refl (some_among test xs)
  where
    by_test : (b : Bool) → test x ≡ b → (o : Option ℕ) → position test xs ≡ o → ((n : ℕ) → position test xs ≡ Some n → list_any test xs ≡ true)
        → list_any test (x ∷ xs) ≡ true
    by_test true is o at ih = ap (λ (b : Bool). b || list_any test xs) is
    by_test false is None at ih = let later = first_later test x xs is ∙ ap (option_map (λ n. n + 1)) at in cc (later, e)
    by_test false is (Some n) at ih = ap (λ (b : Bool). b || list_any test xs) is ∙ ih n at

pub none_among : (test : Place → Bool) (xs : List Place) → position test xs ≡ None → list_any test xs ≡ false
none_among test [] e = refl
none_among test (x ∷ xs) e = by_test (test x) refl (none_among test xs)
  where
    by_test : (b : Bool) → test x ≡ b → (position test xs ≡ None → list_any test xs ≡ false) → list_any test (x ∷ xs) ≡ false
    by_test true is ih = let first = first_here test x xs is in cc (first, e)
    by_test false is ih =
        ap (λ (b : Bool). b || list_any test xs) is ∙ ih (no_later (position test xs) (sym (first_later test x xs is) ∙ e))

-- ---- equal places

same_itself : (p : Place) → same_place p p ≡ true
same_itself p =
    both_so ((Decides-eqb p.class p.class).1 refl) (both_so ((Decides-eqb p.method p.method).1 refl) ((Decides-eqb p.pc p.pc).1 refl))

same_back : (p q : Place) → same_place p q ≡ true → same_place q p ≡ true
same_back p q e = ap (λ (r : Place). same_place q r) (same_so p q e) ∙ same_itself q

either_way : (p q : Place) → same_place p q ≡ same_place q p
either_way p q = by_tests (same_place p q) (same_place q p) refl refl
  where
    by_tests : (b d : Bool) → same_place p q ≡ b → same_place q p ≡ d → same_place p q ≡ same_place q p
    by_tests true d e f = e ∙ sym (same_back p q e)
    by_tests false true e f = absurd (both_ways (same_place p q) e (same_back q p f))
    by_tests false false e f = e ∙ sym f

same_all : (p q r : Place) → same_place p q ≡ true → same_place p r ≡ same_place q r
same_all p q r e = ap (λ (s : Place). same_place s r) (same_so p q e)

equals : IsEquivalence same_place
equals = record { refl = same_itself; symm = either_way; congr = same_all }

-- ---- the parts

in_copies : {A : Type 0} (n i : ℕ) (x : A) → get_or (replicate n x) i x ≡ x
in_copies zero i x = refl
in_copies (suc n) zero x = refl
in_copies (suc n) (suc i) x = in_copies n i x

found_of_none : (n : ℕ) → n ≡ 1024 → AreFound (replicate n []) []
unfolding IsDistinct
found_of_none n is = record {
  many = length-replicate n [] ∙ is;
  numbers = λ p. ap (λ (part : ByClass). number_in part p) (in_copies n (part_of p) []);
  apart = tt;
}

pub found_first : (n : ℕ) (parts : List ByClass) (part : ByClass) (listed : List Place) → n ≡ 1024 → parts ≡ replicate n part
    → part ≡ [] → listed ≡ [] → AreFound parts listed
found_first n parts part listed is made empty none =
    subst (λ xs. AreFound xs listed) (sym (made ∙ ap (replicate n) empty)) (subst (AreFound (replicate n [])) (sym none) (found_of_none n is))

pub found_of_more : (parts new : List ByClass) (listed : List Place) (p : Place) → AreFound parts listed → length new ≡ 1024
    → position (same_place p) listed ≡ None → ((q : Place) → number_at new q ≡ (if same_place p q then Some (length listed) else number_at parts q))
    → AreFound new (listed ++ p ∷ [])
found_of_more parts new listed p found many fresh is = record {
  many = many;
  numbers = λ q. is q ∙ by_test q (same_place p q) refl;
  apart = IsDistinct-push equals listed p found.apart (none_among (same_place p) listed fresh);
}
  where
    by_test : (q : Place) → (b : Bool) → same_place p q ≡ b
        → (if b then Some (length listed) else number_at parts q) ≡ position (same_place q) (listed ++ p ∷ [])
    by_test q true e =
        sym (last_passes (same_place q) p listed (ap (λ r. position (same_place r) listed) (sym (same_so p q e)) ∙ fresh) (same_back p q e))
    by_test q false e = found.numbers q ∙ sym (last_fails (same_place q) p listed (either_way q p ∙ e))
