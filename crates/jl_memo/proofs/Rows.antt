-- What is remembered once a row was put.
use Rattle.std.specs.Prelude.{◌≡◌, ◌≢◌, ◌⊎◌, ℕ, ◌+◌, ◌*◌, ◌/◌, ◌%◌, ◌^◌, ◌<◌, ◌≤◌, ◌==◌, ◌&&◌, Bool, true, false, List, length, get_or}
use Rattle.std.specs.Prelude.{Option, Some, None, if◌then◌else◌}
use Rattle.std.specs.Option.{option_or}
use Rattle.std.proofs.Common.{refl, ap, sym, ◌∙◌, arith, inl, inr}
use Rattle.std.proofs.Math.Nat.{mod-lt, mod-le, div-lt_iff_lt-mul, mul-le-mul_right}
use Rattle.std.proofs.lemmas.Bool.{and_parts, and_from, both_ways, cases_lt}
use Rattle.std.proofs.lemmas.Bool.Decides.{Decides-eqb}
use Rattle.std.proofs.lemmas.Cmp.{nat_eq_equiv}
use Rattle.std.proofs.lemmas.List.{get_or-set_same, get_or-set_other, set_past, length-set}
use Rattle.jl_types.specs.declared.answer.Outcome.{Outcome}
use Rattle.jl_memo.specs.declared.set.Row.{Row}
use Rattle.jl_memo.specs.declared.set.Set.{Set}
use Rattle.jl_memo.specs.Memos.{is_of, outcome_in, in_set, no_rows, with_row, place_of, remembered, put}

-- ---- places

-- a place is among so many, if there are any
within : (m n : ℕ) → m < 2 ^ 64 → 1 ≤ n → ((m / 4294967296) * n) % 2 ^ 64 / 4294967296 < n
within m n few some =
    let high : m / 4294967296 < 4294967296 = (div-lt_iff_lt-mul {k = 4294967296} {x = m} {y = 4294967296} (omega arith)).1 (omega (arith, few)) in
    let times : (m / 4294967296) * n ≤ 4294967295 * n = below (m / 4294967296) n high in
    (div-lt_iff_lt-mul {k = 4294967296} {x = ((m / 4294967296) * n) % 2 ^ 64} {y = n} (omega arith)).1
    (omega (arith, mod-le ((m / 4294967296) * n) (2 ^ 64), times, some))
  where
    below : (k n : ℕ) → k < 4294967296 → k * n ≤ 4294967295 * n
    below k n few = mul-le-mul_right n (omega (arith, few))

pub place_within : (n s x : ℕ) → 1 ≤ n → place_of n s x < n
place_within n s x some =
    within (((s * 4294967296 + x) * 11400714819323198485) % 2 ^ 64) n (mod-lt ((s * 4294967296 + x) * 11400714819323198485) {m = 2 ^ 64} (omega arith)) some

-- ---- one set

same_parts : (a b c d : ℕ) → ((a == b) && (c == d)) ≡ true → (a ≡ b) × (c ≡ d)
same_parts a b c d h = let parts = and_parts (a == b) (c == d) h in ((Decides-eqb a b).0 parts.0, (Decides-eqb c d).0 parts.1)

itself : (row : Row) → ((row.site == row.site) && (row.class == row.class)) ≡ true
itself row = and_from (row.site == row.site) (row.class == row.class) (nat_eq_equiv.refl row.site) (nat_eq_equiv.refl row.class)

newest : (set : Set) (row : Row) (b : Bool)
    → in_set (if b then record { newer = Some row; older = set.older } else record { newer = Some row; older = set.newer }) row.site row.class
    ≡ Some row.outcome
newest set row true = ap (λ (t : Bool). option_or (if t then Some row.outcome else None) (outcome_in set.older row.site row.class)) (itself row)
newest set row false = ap (λ (t : Bool). option_or (if t then Some row.outcome else None) (outcome_in set.newer row.site row.class)) (itself row)

in_put : (set : Set) (row : Row) → in_set (with_row set row) row.site row.class ≡ Some row.outcome
in_put set row = newest set row (is_of set.newer row.site row.class)

module _ (set : Set) (row : Row) (s x : ℕ) (o : Outcome) where
  abbrev IsOfRow : Type 0
  IsOfRow = (s ≡ row.site) × (x ≡ row.class) × (o ≡ row.outcome)

  -- a row of other calls says nothing of these
  of_others : (newer : Option Row) → is_of newer row.site row.class ≡ true → ((row.site == s) && (row.class == x)) ≡ false → outcome_in newer s x ≡ None
  of_others None of other = refl
  of_others (Some r) of other =
      let same = same_parts r.site row.site r.class row.class of in
      ap (λ (b : Bool). if b then Some r.outcome else None) ((λ i. (same.0 i == s) && (same.1 i == x)) ∙ other)

  by_row : (older : Option Row) (b : Bool) → ((row.site == s) && (row.class == x)) ≡ b
      → option_or (if b then Some row.outcome else None) (outcome_in older s x) ≡ Some o
      → (((row.site == s) && (row.class == x)) ≡ false → outcome_in older s x ≡ Some o → in_set set s x ≡ Some o)
      → (in_set set s x ≡ Some o) ⊎ IsOfRow
  by_row older true is e before =
      let same = same_parts row.site s row.class x is in
      let answer : row.outcome ≡ o = cc e in
      inr (sym same.0, sym same.1, sym answer)
  by_row older false is e before = inl (before is e)

  by_newer : (b : Bool) → is_of set.newer row.site row.class ≡ b
      → in_set (if b then record { newer = Some row; older = set.older } else record { newer = Some row; older = set.newer }) s x ≡ Some o
      → (in_set set s x ≡ Some o) ⊎ IsOfRow
  by_newer true of e =
      by_row set.older ((row.site == s) && (row.class == x)) refl e
      (λ other h. ap (λ (n : Option Outcome). option_or n (outcome_in set.older s x)) (of_others set.newer of other) ∙ h)
  by_newer false of e =
      by_row set.newer ((row.site == s) && (row.class == x)) refl e
      (λ other h. ap (λ (n : Option Outcome). option_or n (outcome_in set.older s x)) h)

  in_others : in_set (with_row set row) s x ≡ Some o → (in_set set s x ≡ Some o) ⊎ IsOfRow
  in_others e = by_newer (is_of set.newer row.site row.class) refl e

-- ---- all sets

module _ (sets : List Set) (row : Row) where
  abbrev at : ℕ
  at = place_of (length sets) row.site row.class

  abbrev made : Set
  made = with_row (get_or sets at no_rows) row

  same_length : length (put sets row) ≡ length sets
  same_length = length-set sets at made

  pub put_is_there : 1 ≤ length sets → remembered (put sets row) row.site row.class ≡ Some row.outcome
  put_is_there some =
      ap (λ (n : ℕ). in_set (get_or (put sets row) (place_of n row.site row.class) no_rows) row.site row.class) same_length
      ∙ ap (λ (set : Set). in_set set row.site row.class) (get_or-set_same sets at made no_rows (place_within (length sets) row.site row.class some))
      ∙ in_put (get_or sets at no_rows) row

  module _ (s x : ℕ) (o : Outcome) where
    abbrev place : ℕ
    place = place_of (length sets) s x

    abbrev Before : Type 0
    Before = (remembered sets s x ≡ Some o) ⊎ ((s ≡ row.site) × (x ≡ row.class) × (o ≡ row.outcome))

    in_other_set : place ≢ at → in_set (get_or (put sets row) place no_rows) s x ≡ Some o → Before
    in_other_set other e = inl (sym (ap (λ (set : Set). in_set set s x) (get_or-set_other sets at place made no_rows other)) ∙ e)

    in_same_set : place ≡ at → (at < length sets) ⊎ (length sets ≤ at) → in_set (get_or (put sets row) place no_rows) s x ≡ Some o → Before
    in_same_set same (inl few) e =
        let found : in_set made s x ≡ Some o =
        sym (ap (λ (set : Set). in_set set s x) (ap (λ (k : ℕ). get_or (put sets row) k no_rows) same ∙ get_or-set_same sets at made no_rows few)) ∙ e in
        elim (in_others (get_or sets at no_rows) row s x o found) [
          | inl before ↦ inl (ap (λ (k : ℕ). in_set (get_or sets k no_rows) s x) same ∙ before)
          | inr of ↦ inr of
        ]
    in_same_set same (inr past) e = inl (sym (ap (λ (all : List Set). in_set (get_or all place no_rows) s x) (set_past sets at made past)) ∙ e)

    pub others_were_there : remembered (put sets row) s x ≡ Some o → Before
    others_were_there e = by_place (place == at) refl
      where
        found : in_set (get_or (put sets row) place no_rows) s x ≡ Some o
        found = sym (ap (λ (n : ℕ). in_set (get_or (put sets row) (place_of n s x) no_rows) s x) same_length) ∙ e

        by_place : (b : Bool) → (place == at) ≡ b → Before
        by_place true is = in_same_set ((Decides-eqb place at).0 is) (cases_lt at (length sets)) found
        by_place false is = in_other_set (λ same. both_ways (place == at) is ((Decides-eqb place at).1 same)) found
