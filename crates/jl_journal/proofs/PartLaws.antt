-- The laws of a journal's parts.
use Rattle.std.specs.Prelude.{◌≡◌, ◌≤◌, ◌<◌, ◌+◌, ◌-◌, ℕ, Bool, List, [], ◌∷◌, ◌++◌, length, take, drop, filter, slice_get}
use Rattle.std.proofs.Common.{ap, sym, inl, inr, ◌∙◌, arith, length-append, length-drop}
use Rattle.std.proofs.Math.Nat.{lt_of_not-le, eq-or-lt_of_le}
use Rattle.std.proofs.lemmas.List.{take-append-le, take-append-drop, length-take-le, drop-drop}
use Rattle.std.proofs.lemmas.Option.{slice_get_past}
use Rattle.std.proofs.lemmas.List.Elements.{filter-append}
use Rattle.jl_journal.specs.ForProofs.Parts.{AreParts}
use Rattle.jl_journal.proofs.ListLaws.{drop_front, get_rest, get_from, filter_again, few_left, take_front}

module _ {X : Type 0} {keeps : X → Bool} {past elements : List X} {noted count : ℕ} (k : AreParts keeps past elements noted count) where
  -- how many there are
  pub counts : count ≡ length (past ++ drop noted elements)
  counts =
      let e = length-append past (drop noted elements) in
      let d = length-drop noted elements in
      omega (arith, k.counted, k.within, e, d)

  -- there is an element that is not past, if there is any
  pub has_last : 0 < count → noted < length elements
  has_last some = lt_of_not-le (λ le. let none = k.last le in omega (arith, none, le, k.counted, some))

  -- the last element, by its place
  pub is_last : (place : ℕ) → place < count → count ≤ place + 1 → slice_get elements (length elements - 1) ≡ slice_get (past ++ drop noted elements) place
  is_last place below above =
      let some = has_last (omega (arith, below)) in
      let same : noted + (place - length past) ≡ length elements - 1 = omega (arith, k.counted, below, above, some) in
      sym (get_rest past (drop noted elements) place (omega (arith, k.counted, below, above, some))
      ∙ get_from elements noted (place - length past) ∙ ap (slice_get elements) same)

  pub last_there : slice_get elements (length elements - 1) ≡ slice_get (past ++ drop noted elements) (count - 1)
  last_there = elim (eq-or-lt_of_le {n = 0} {m = count} (omega arith)) [
    | inl none ↦
        let gone : length past ≡ 0 = omega (arith, none, k.counted, k.within) in
        let none_kept = few_left keeps past in
        let front = ap length k.front in
        let noted_long = length-take-le noted elements k.within in
        let long = counts in
        slice_get_past elements (length elements - 1) (omega (arith, none, k.counted, gone, none_kept, front, noted_long))
        ∙ sym (slice_get_past (past ++ drop noted elements) (count - 1) (omega (arith, long, none)))
    | inr some ↦ is_last (count - 1) (omega (arith, some)) (omega arith)
  ]

  -- from a place on that is not past
  pub from_later : (place at : ℕ) → length past ≤ place → at + length past ≡ noted + place → drop at elements ≡ drop place (past ++ drop noted elements)
  from_later place at le is =
      let same : at ≡ noted + (place - length past) = omega (arith, le, is) in
      sym (drop_front past (drop noted elements) place le ∙ drop-drop (place - length past) noted elements ∙ ap (λ n. drop n elements) (sym same))

  -- what is there
  pub there : elements ≡ filter keeps past ++ drop noted elements
  there = sym (take-append-drop noted elements) ∙ ap (λ ys. ys ++ drop noted elements) k.front

  module _ (first : List X) (x : X) (parts : elements ≡ first ++ x ∷ []) where
    -- the last element is not past
    pub fits : noted ≤ length first
    fits =
        let long = ap length parts ∙ length-append first (x ∷ []) in
        let some : noted < length elements =
        lt_of_not-le (λ le.
        let none = k.last le in
        let none_kept = few_left keeps past in
        let front = ap length k.front in
        let noted_long = length-take-le noted elements k.within in
        omega (arith, none, none_kept, front, noted_long, le, long)) in
        omega (arith, long, some)

    front_of : take noted first ≡ filter keeps past
    front_of = sym (take-append-le noted first (x ∷ []) fits) ∙ ap (take noted) (sym parts) ∙ k.front

    -- what is noted passes
    pub passed : take noted first ≡ filter keeps (take noted first)
    passed = front_of ∙ sym (filter_again keeps past) ∙ ap (filter keeps) (sym front_of)

    left : filter keeps first ≡ filter keeps (past ++ drop noted first)
    left =
        ap (filter keeps) (sym (take-append-drop noted first)) ∙ filter-append keeps (take noted first) (drop noted first)
        ∙ ap (λ ys. ys ++ filter keeps (drop noted first)) (sym passed ∙ front_of) ∙ sym (filter-append keeps past (drop noted first))

    -- all but the last one is past
    pub forgotten : AreParts keeps (past ++ drop noted first) (filter keeps first ++ x ∷ []) (length (filter keeps first)) count
    forgotten =
        let long = ap length parts ∙ length-append first (x ∷ []) in
        let long_past = length-append past (drop noted first) in
        let later = length-drop noted first in
        let left_long = length-append (filter keeps first) (x ∷ []) in
        let fit = fits in
        record {
          within = omega (arith, left_long);
          front = take_front (filter keeps first) (x ∷ []) ∙ left;
          counted = omega (arith, k.counted, long, long_past, later, left_long, fit);
          last = λ le. absurd (omega (arith, left_long, le));
        }
