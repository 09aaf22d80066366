-- The footprints by number, one after another, and groups.
use Rattle.std.specs.Prelude.{◌≡◌, ℕ, ◌+◌, ◌<◌, ◌++◌, ◌==◌, ◌||◌, not, nat_lt, ◌^◌, Bool, true, false, cond, List, [], ◌∷◌, take, Option, Some, None}
use Rattle.std.specs.Prelude.{Result, Ok, Err, OnOk, if◌then◌else◌, slice_get}
use Rattle.std.specs.List.{list_any}
use Rattle.std.proofs.Common.{refl, ap, sym, ◌∙◌, arith}
use Rattle.std.proofs.lemmas.Bool.{ltb-false, ltb-true, both_ways}
use Rattle.std.proofs.lemmas.Bool.Decides.{Decides-eqb}
use Rattle.std.proofs.lemmas.Option.{slice_get_within, get_or_from_slice_get}
use Rattle.std.proofs.lemmas.List.{take_more}
use Rattle.std.proofs.lemmas.List.Folds.{list_any-append}
use Rattle.std.proofs.Math.Arith.{lt_of_le-ne}
use Rattle.jl_types.proofs.BySite.{Rises, same_there, other_there, none_below, wider as wider_above}
use Rattle.jl_numbered.specs.Numbers.{entries_from}
use Rattle.jl_deps.specs.declared.form.Rests.{Rests}
use Rattle.jl_deps.specs.Indexes.{rests_at}
use Rattle.jl_deps.specs.ForProofs.Lists.{AreBelow}

-- ---- number by number

-- n is the first number from that one on that has a value
pub record IsNext (entries : List (ℕ × Rests)) (from n : ℕ) (r : Rests) : Type 0 where
  pub from_on : nat_lt n from ≡ false
  pub value : rests_at entries n ≡ Some r
  pub none_between : (s : ℕ) → nat_lt s from ≡ false → s < n → rests_at entries s ≡ None

pub next_is : (entries : List (ℕ × Rests)) (from n : ℕ) (r : Rests) (more : List (ℕ × Rests)) → Rises entries
    → entries_from from entries ≡ (n, r) ∷ more → IsNext entries from n r
next_is [] from n r more rises e = cc
next_is (row ∷ rows) from n r more rises e = by_order (nat_lt row.0 from) refl e (next_is rows from n r more rises.1)
  where
    head_of : List (ℕ × Rests) → ℕ × Rests
    head_of [] = row
    head_of (x ∷ xs) = x

    by_order : (b : Bool) → nat_lt row.0 from ≡ b → cond (not b) (row ∷ entries_from from rows) (entries_from from rows) ≡ (n, r) ∷ more
        → (entries_from from rows ≡ (n, r) ∷ more → IsNext rows from n r) → IsNext (row ∷ rows) from n r
    by_order true below e rest =
        let next = rest e in
        let other : (s : ℕ) → nat_lt s from ≡ false → ¬ (row.0 ≡ s) =
        λ s above same. both_ways (nat_lt s from) above (ap (λ (k : ℕ). nat_lt k from) (sym same) ∙ below) in
        record {
          from_on = next.from_on;
          value = other_there row.0 n row.1 rows (other n next.from_on) ∙ next.value;
          none_between = λ s above lt. other_there row.0 s row.1 rows (other s above) ∙ next.none_between s above lt;
        }
    by_order false above e rest =
        let same : row ≡ (n, r) = ap head_of e in
        let number : row.0 ≡ n = ap (λ (p : ℕ × Rests). p.0) same in
        record {
          from_on = ap (λ (k : ℕ). nat_lt k from) (sym number) ∙ above;
          value =
              ap (rests_at (row ∷ rows)) (sym number) ∙ same_there row.0 row.1 rows ∙ ap (λ (p : ℕ × Rests). Some p.1) same;
          none_between = λ s up lt.
              let below : s < row.0 = omega (arith, number, lt) in
              none_below s (row ∷ rows) (below, wider_above s row.0 rows below rises.0);
        }

pub no_next : (entries : List (ℕ × Rests)) (from : ℕ) → entries_from from entries ≡ [] → (s : ℕ) → nat_lt s from ≡ false
    → rests_at entries s ≡ None
no_next [] from e s above = refl
no_next (row ∷ rows) from e s above = by_order (nat_lt row.0 from) refl e (no_next rows from)
  where
    by_order : (b : Bool) → nat_lt row.0 from ≡ b → cond (not b) (row ∷ entries_from from rows) (entries_from from rows) ≡ []
        → (entries_from from rows ≡ [] → (s : ℕ) → nat_lt s from ≡ false → rests_at rows s ≡ None) → rests_at (row ∷ rows) s ≡ None
    by_order true below e rest =
        other_there row.0 s row.1 rows (λ same. both_ways (nat_lt s from) above (ap (λ (k : ℕ). nat_lt k from) (sym same) ∙ below))
        ∙ rest e s above
    by_order false above e rest = cc

-- one number more
pub number_more : (entries : List (ℕ × Rests)) (from n : ℕ) (r : Rests) (next now : Option Rests) (s : ℕ) → IsNext entries from n r
    → next ≡ (if n == s then Some r else now) → now ≡ (if nat_lt s from then rests_at entries s else None)
    → next ≡ (if nat_lt s (n + 1) then rests_at entries s else None)
number_more entries from n r next now s is last before = last ∙ by_number (n == s) refl
  where
    up : nat_lt s (n + 1) ≡ true → (if true then rests_at entries s else None) ≡ (if nat_lt s (n + 1) then rests_at entries s else None)
    up e = ap (λ (b : Bool). if b then rests_at entries s else None) (sym e)

    below : s < n + 1 → nat_lt s (n + 1) ≡ true
    below lt = by_test (nat_lt s (n + 1)) refl
      where
        by_test : (b : Bool) → nat_lt s (n + 1) ≡ b → b ≡ true
        by_test true e = refl
        by_test false e = absurd (let le = ltb-false s (n + 1) e in omega (arith, le, lt))

    by_order : (b d : Bool) → nat_lt s from ≡ b → nat_lt s (n + 1) ≡ d → ¬ (n ≡ s)
        → (if b then rests_at entries s else None) ≡ (if d then rests_at entries s else None)
    by_order true true e f other = refl
    by_order true false e f other = absurd (let lt = ltb-true s from e in let le = ltb-false n from is.from_on in let over = ltb-false s (n + 1) f in
        omega (arith, lt, le, over))
    by_order false true e f other = sym (is.none_between s e (let lt = ltb-true s (n + 1) f in lt_of n s lt other))
      where
        lt_of : (n s : ℕ) → s < n + 1 → ¬ (n ≡ s) → s < n
        lt_of n s lt other = lt_of_le-ne (omega (arith, lt)) (λ same. other (sym same))
    by_order false false e f other = refl

    by_number : (b : Bool) → (n == s) ≡ b → (if b then Some r else now) ≡ (if nat_lt s (n + 1) then rests_at entries s else None)
    by_number true e =
        let same = (Decides-eqb n s).0 e in
        sym is.value ∙ ap (rests_at entries) same ∙ up (below (omega (arith, same)))
    by_number false e = before ∙ by_order (nat_lt s from) (nat_lt s (n + 1)) refl refl (λ same. both_ways (n == s) e ((Decides-eqb n s).1 same))

pub all_numbers : (entries : List (ℕ × Rests)) (from : ℕ) (now : Option Rests) (s : ℕ) → entries_from from entries ≡ []
    → now ≡ (if nat_lt s from then rests_at entries s else None) → now ≡ rests_at entries s
all_numbers entries from now s e before = before ∙ by_order (nat_lt s from) refl
  where
    by_order : (b : Bool) → nat_lt s from ≡ b → (if b then rests_at entries s else None) ≡ rests_at entries s
    by_order true is = refl
    by_order false is = sym (no_next entries from e s is)

-- ---- numbers below 2^32

pub put_below : (old new : List (ℕ × Rests)) (site : ℕ) (r : Rests) → site < 2 ^ 32
    → ((s : ℕ) → rests_at new s ≡ (if site == s then Some r else rests_at old s)) → AreBelow old → AreBelow new
put_below old new site r low puts below s above = puts s ∙ by_site (site == s) refl
  where
    by_site : (b : Bool) → (site == s) ≡ b → (if b then Some r else rests_at old s) ≡ None
    by_site true is = absurd (let same = (Decides-eqb site s).0 is in let le = ltb-false s (2 ^ 32) above in omega (arith, low, same, le))
    by_site false is = below s above

-- a number that has a value is below 2^32
pub is_below : (entries : List (ℕ × Rests)) (n : ℕ) (r : Rests) → AreBelow entries → rests_at entries n ≡ Some r → n < 2 ^ 32
is_below entries n r below at = by_order (nat_lt n (2 ^ 32)) refl
  where
    by_order : (b : Bool) → nat_lt n (2 ^ 32) ≡ b → n < 2 ^ 32
    by_order true e = ltb-true n (2 ^ 32) e
    by_order false e = absurd (no_value (sym at ∙ below n e))
      where
        no_value : Some r ≡ None → ⊥
        no_value e = cc

-- ---- group by group

pub any_next : {A : Type 0} (p : A → Bool) (xs : List A) (n : ℕ) (x : A) (next now old : Bool) → Some x ≡ slice_get xs n → next ≡ (now || p x)
    → now ≡ (old || list_any p (take n xs)) → next ≡ (old || list_any p (take (n + 1) xs))
any_next {A} p xs n x next now old at step before =
    step ∙ ap (λ (b : Bool). b || p x) before ∙ grouped old (list_any p (take n xs)) (p x)
    ∙ ap (λ (b : Bool). old || b)
    (sym (ap (list_any p) more ∙ list_any-append p (take n xs) (x ∷ []) ∙ ap (λ (b : Bool). list_any p (take n xs) || b) (alone (p x))))
  where
    more : take (n + 1) xs ≡ take n xs ++ x ∷ []
    more = take_more xs n x (slice_get_within xs n x (sym at)) ∙ ap (λ (e : A). take n xs ++ e ∷ []) (get_or_from_slice_get xs n x x (sym at))

    grouped : (a b d : Bool) → ((a || b) || d) ≡ (a || (b || d))
    grouped true b d = refl
    grouped false b d = refl

    alone : (b : Bool) → (b || false) ≡ b
    alone true = refl
    alone false = refl

pub wider : (a b d : Bool) → (a ≡ true → b ≡ true) → (a || d) ≡ true → (b || d) ≡ true
wider true b d on h = ap (λ (c : Bool). c || d) (on refl)
wider false true d on h = refl
wider false false d on h = h

pub any_among : {A : Type 0} (p : A → Bool) (xs : List A) (n : ℕ) (x : A) (next now old : Bool) → Some x ≡ slice_get xs n
    → (next ≡ true → (now || p x) ≡ true) → (now ≡ true → (old || list_any p (take n xs)) ≡ true)
    → next ≡ true → (old || list_any p (take (n + 1) xs)) ≡ true
any_among p xs n x next now old at step before h =
    let front = old || list_any p (take n xs) in
    sym (any_next p xs n x (front || p x) front old at refl refl) ∙ wider now front (p x) before (step h)

-- ---- a clause on a result

pub on_ok : {X E P Q : Type 0} → (P → Q) → (r : Result X E) → OnOk r P → OnOk r Q
on_ok f (Ok x) h = f h
on_ok f (Err e) h = tt
