-- Flags that are set, or taken back, by their numbers.
use Rattle.std.specs.Prelude.{◌≡◌, ℕ, zero, suc, ◌+◌, ◌≤◌, ◌==◌, Bool, true, false, not, ◌&&◌, ◌||◌, List, [], ◌∷◌, ◌++◌, map, length, take, drop}
use Rattle.std.specs.Prelude.{replicate, slice_set}
use Rattle.std.specs.Prelude.{◌<◌, get_or, if◌then◌else◌}
use Rattle.std.specs.List.{list_any, range_with_len}
use Rattle.std.proofs.Common.{refl, sym, ap, ap₂, ◌∙◌, arith, drop_of_length-le, take_all}
use Rattle.std.proofs.lemmas.List.{take-append-le}
use Rattle.std.proofs.lemmas.Bool.{and_right, eq-eqb, ne_eqb}
use Rattle.jl_types.proofs.Lists.{rest_at}
use Rattle.jl_renewal.specs.Staying.{is_among}
use Rattle.jl_renewal.specs.Marks.{changed_from, marked, cleared}

-- ---- any change

-- two changes are one
changed_twice : (f g : ℕ → Bool → Bool) (n : ℕ) (flags : List Bool)
    → changed_from g n (changed_from f n flags) ≡ changed_from (λ k flag. g k (f k flag)) n flags
changed_twice f g n [] = refl
changed_twice f g n (b ∷ flags) = ap (λ bs. g n (f n b) ∷ bs) (changed_twice f g (n + 1) flags)

-- changes that are alike
changed_alike : (f g : ℕ → Bool → Bool) → ((k : ℕ) (b : Bool) → f k b ≡ g k b) → (n : ℕ) (flags : List Bool)
    → changed_from f n flags ≡ changed_from g n flags
changed_alike f g alike n [] = refl
changed_alike f g alike n (b ∷ flags) = ap₂ (λ c bs. c ∷ bs) (alike n b) (changed_alike f g alike (n + 1) flags)

-- what changes none from here on
pub unchanged : (f : ℕ → Bool → Bool) (n : ℕ) (flags : List Bool) → ((k : ℕ) (b : Bool) → n ≤ k → f k b ≡ b) → changed_from f n flags ≡ flags
unchanged f n [] same = refl
unchanged f n (b ∷ flags) same = ap₂ (λ c bs. c ∷ bs) (same n b (omega arith)) (unchanged f (n + 1) flags (λ k b le. same k b (omega (arith, le))))

pub changed_after : (f : ℕ → Bool → Bool) (n : ℕ) (front back : List Bool)
    → changed_from f n (front ++ back) ≡ changed_from f n front ++ changed_from f (n + length front) back
changed_after f n [] back = ap (λ k. changed_from f k back) (omega arith)
changed_after f n (b ∷ front) back =
    ap (λ bs. f n b ∷ bs) (changed_after f (n + 1) front back
    ∙ ap (λ k. changed_from f (n + 1) front ++ changed_from f k back) (omega arith))

pub changed_map : (f : ℕ → Bool → Bool) (flag : ℕ → Bool) (n count : ℕ)
    → changed_from f n (map flag (range_with_len n count)) ≡ map (λ k. f k (flag k)) (range_with_len n count)
changed_map f flag n zero = refl
changed_map f flag n (suc count) = ap (λ bs. f n (flag n) ∷ bs) (changed_map f flag (n + 1) count)

-- one flag by its number
one_changed : (value : Bool) (n d j : ℕ) (flags : List Bool) → n + d ≡ j
    → slice_set flags d value ≡ changed_from (λ k flag. if j == k then value else flag) n flags
one_changed value n d j [] e = refl
one_changed value n zero j (b ∷ flags) e =
    ap₂ (λ (c : Bool) bs. c ∷ bs) (sym (ap (λ t. if t then value else b) (eq-eqb j n (omega (arith, e)))))
    (sym (unchanged (λ k flag. if j == k then value else flag) (n + 1) flags
    (λ k flag le. ap (λ t. if t then value else flag) (ne_eqb j k (λ same. omega (arith, e, le, same))))))
one_changed value n (suc d) j (b ∷ flags) e =
    ap₂ (λ (c : Bool) bs. c ∷ bs) (sym (ap (λ t. if t then value else b) (ne_eqb j n (λ same. omega (arith, e, same)))))
    (one_changed value (n + 1) d j flags (omega (arith, e)))

-- ---- flags that are set

pub marked_one : (d : ℕ) (flags : List Bool) → slice_set flags d true ≡ marked (λ k. d == k) flags
marked_one d flags =
    one_changed true 0 d d flags (omega arith)
    ∙ changed_alike (λ k flag. if d == k then true else flag) (λ k flag. flag || (d == k)) (λ k flag. by_test (d == k) flag) 0 flags
  where
    by_test : (test flag : Bool) → (if test then true else flag) ≡ (flag || test)
    by_test true true = refl
    by_test true false = refl
    by_test false true = refl
    by_test false false = refl

marked_twice : (p q : ℕ → Bool) (flags : List Bool) → marked q (marked p flags) ≡ marked (λ k. p k || q k) flags
marked_twice p q flags =
    changed_twice (λ k flag. flag || p k) (λ k flag. flag || q k) 0 flags
    ∙ changed_alike (λ k flag. (flag || p k) || q k) (λ k flag. flag || (p k || q k)) (λ k flag. together flag (p k) (q k)) 0 flags
  where
    together : (a b c : Bool) → ((a || b) || c) ≡ (a || (b || c))
    together true b c = refl
    together false b c = refl

pub marked_both : (p q : ℕ → Bool) (old between new : List Bool) → between ≡ marked p old → new ≡ marked q between → new ≡ marked (λ k. p k || q k) old
marked_both p q old between new first second = second ∙ (ap (marked q) first ∙ marked_twice p q old)

pub marked_none : (flags : List Bool) → marked (λ k. false) flags ≡ flags
marked_none flags = unchanged (λ k flag. flag || false) 0 flags (λ k flag le. or_none flag)
  where
    or_none : (b : Bool) → (b || false) ≡ b
    or_none true = refl
    or_none false = refl

marked_alike : (p q : ℕ → Bool) (flags : List Bool) → ((k : ℕ) → p k ≡ q k) → marked p flags ≡ marked q flags
marked_alike p q flags alike = ap (λ (test : ℕ → Bool). marked test flags) (λ i k. alike k i)

-- one flag, if this holds
pub marked_if : (d : ℕ) (b : Bool) (flags : List Bool) → b ≡ true → slice_set flags d true ≡ marked (λ k. (d == k) && b) flags
marked_if d b flags is = marked_one d flags ∙ marked_alike (λ k. d == k) (λ k. (d == k) && b) flags (λ k. holds (d == k))
  where
    holds : (x : Bool) → x ≡ (x && b)
    holds true = sym is
    holds false = refl

pub marked_unless : (d : ℕ) (b : Bool) (flags : List Bool) → b ≡ false → flags ≡ marked (λ k. (d == k) && b) flags
marked_unless d b flags is = sym (marked_alike (λ k. (d == k) && b) (λ k. false) flags (λ k. and_right (d == k) b is) ∙ marked_none flags)

-- ---- flags that are taken back

cleared_one : (d : ℕ) (flags : List Bool) → slice_set flags d false ≡ cleared (λ k. d == k) flags
cleared_one d flags =
    one_changed false 0 d d flags (omega arith)
    ∙ changed_alike (λ k flag. if d == k then false else flag) (λ k flag. flag && not (d == k)) (λ k flag. by_test (d == k) flag) 0 flags
  where
    by_test : (test flag : Bool) → (if test then false else flag) ≡ (flag && not test)
    by_test true true = refl
    by_test true false = refl
    by_test false true = refl
    by_test false false = refl

cleared_twice : (p q : ℕ → Bool) (flags : List Bool) → cleared q (cleared p flags) ≡ cleared (λ k. p k || q k) flags
cleared_twice p q flags =
    changed_twice (λ k flag. flag && not (p k)) (λ k flag. flag && not (q k)) 0 flags
    ∙ changed_alike (λ k flag. (flag && not (p k)) && not (q k)) (λ k flag. flag && not (p k || q k)) (λ k flag. together flag (p k) (q k)) 0 flags
  where
    together : (a b c : Bool) → ((a && not b) && not c) ≡ (a && not (b || c))
    together true true c = refl
    together true false c = refl
    together false b c = refl

cleared_none : (flags : List Bool) → cleared (λ k. false) flags ≡ flags
cleared_none flags = unchanged (λ k flag. flag && not false) 0 flags (λ k flag le. and_true flag)
  where
    and_true : (b : Bool) → (b && not false) ≡ b
    and_true true = refl
    and_true false = refl

-- ---- one after another

module _ (numbers : List ℕ) (k : ℕ) where
  -- the next of those that are left is taken back, and then the others
  pub clear_next : (x : ℕ) (flags cleared_now : List Bool) → k < length numbers → x ≡ get_or numbers k x → cleared_now ≡ slice_set flags x false
      → cleared (is_among (drop (k + 1) numbers)) cleared_now ≡ cleared (is_among (drop k numbers)) flags
  clear_next x flags cleared_now lt is one =
      ap (cleared (is_among (drop (k + 1) numbers))) (one ∙ cleared_one x flags)
      ∙ (cleared_twice (λ n. x == n) (is_among (drop (k + 1) numbers)) flags
      ∙ ap (λ left. cleared (is_among left) flags) (sym (rest_at numbers k x lt is)))

  pub clear_end : (flags : List Bool) → length numbers ≤ k → cleared (is_among (drop k numbers)) flags ≡ flags
  clear_end flags le = ap (λ left. cleared (is_among left) flags) (drop_of_length-le numbers le) ∙ cleared_none flags

module _ {X : Type 0} (test : ℕ → X → Bool) (left : List X) (flags : List Bool) where
  -- those of the next one are set, and then those of the others
  pub mark_next : (x : X) (rest : List X) (marked_now : List Bool) → left ≡ x ∷ rest → marked_now ≡ marked (λ n. test n x) flags
      → marked (λ n. list_any (test n) rest) marked_now ≡ marked (λ n. list_any (test n) left) flags
  mark_next x rest marked_now is one =
      ap (marked (λ n. list_any (test n) rest)) one
      ∙ (marked_twice (λ n. test n x) (λ n. list_any (test n) rest) flags
      ∙ ap (λ (xs : List X). marked (λ n. list_any (test n) xs) flags) (sym is))

  pub mark_end : left ≡ [] → marked (λ n. list_any (test n) left) flags ≡ flags
  mark_end none = ap (λ (xs : List X). marked (λ n. list_any (test n) xs) flags) none ∙ marked_none flags

-- ---- from flags that are all set

pub all_but : (p q : ℕ → Bool) (count : ℕ) → marked q (cleared p (replicate count true)) ≡ map (λ k. not (p k) || q k) (range_with_len 0 count)
all_but p q count =
    ap (λ flags. marked q (cleared p flags)) (all_set 0 count)
    ∙ (ap (marked q) (changed_map (λ k flag. flag && not (p k)) (λ k. true) 0 count)
    ∙ changed_map (λ k flag. flag || q k) (λ k. not (p k)) 0 count)
  where
    all_set : (n count : ℕ) → replicate count true ≡ map (λ k. true) (range_with_len n count)
    all_set n zero = refl
    all_set n (suc count) = ap (λ flags. true ∷ flags) (all_set (n + 1) count)

-- a vector's items after a change of its slice
pub whole_slice : {X : Type 0} (len : ℕ) (new rest : List X) → length new ≡ len → take len (new ++ rest) ≡ new
whole_slice len new rest whole = take-append-le len new rest (omega (arith, whole)) ∙ take_all len new (omega (arith, whole))
