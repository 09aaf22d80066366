-- The place of an element.
use Rattle.std.specs.Prelude.{◌≡◌, ℕ, zero, suc, ◌+◌, ◌*◌, ◌<◌, ◌≤◌, List, [], ◌∷◌, ◌++◌, length, slice_get, Some, None}
use Rattle.std.proofs.Common.{refl, ap, ◌∙◌, arith, length-append, append_assoc}
use Rattle.std.proofs.lemmas.Option.{same_Some}
use Rattle.jl_pages.specs.ForProofs.Pages.{elements, AreFull}

past : {A : Type 0} (xs : List A) (i : ℕ) → slice_get xs i ≡ None → length xs ≤ i
past [] i is = omega arith
past (x ∷ xs) zero is = cc
past (x ∷ xs) (suc i) is = let le = past xs i is in omega (arith, le)

module _ {T : Type 0} where
  pub in_front : (xs ys : List T) (i : ℕ) → i < length xs → slice_get (xs ++ ys) i ≡ slice_get xs i
  in_front [] ys i few = absurd (omega (arith, few))
  in_front (x ∷ xs) ys zero few = refl
  in_front (x ∷ xs) ys (suc i) few = in_front xs ys i (omega (arith, few))

  pub after : (xs ys : List T) (i n : ℕ) → i ≡ length xs + n → slice_get (xs ++ ys) i ≡ slice_get ys n
  after [] ys i n is = ap (slice_get ys) (omega (arith, is))
  after (x ∷ xs) ys zero n is = absurd (omega (arith, is))
  after (x ∷ xs) ys (suc i) n is = after xs ys i n (omega (arith, is))

  many : (pages : List (List T)) → AreFull pages → length (elements pages) ≡ 64 * length pages
  many [] full = refl
  many (page ∷ pages) full =
      let rest = many pages full.1 in
      omega (arith, length-append page (elements pages), full.0, rest)

  -- in a full page
  pub at_page : (pages : List (List T)) (last page : List T) (q i r : ℕ) → AreFull pages → slice_get pages q ≡ Some page → i ≡ 64 * q + r → r < 64
      → slice_get (elements pages ++ last) i ≡ slice_get page r
  at_page [] last page q i r full at is few = cc
  at_page (first ∷ pages) last page zero i r full at is few =
      in_front (first ++ elements pages) last i (omega (arith, length-append first (elements pages), full.0, is, few))
      ∙ in_front first (elements pages) i (omega (arith, full.0, is, few))
      ∙ (λ k. slice_get (same_Some first page at k) (same_place k))
    where
      same_place : i ≡ r
      same_place = omega (arith, is)
  at_page (first ∷ pages) last page (suc q) i r full at is few =
      ap (λ (xs : List T). slice_get xs i) (append_assoc first (elements pages) last)
      ∙ after first (elements pages ++ last) i (64 * q + r) (omega (arith, full.0, is))
      ∙ at_page pages last page q (64 * q + r) r full.1 at refl few

  -- no full page is at its place
  pub before : (pages : List (List T)) (q i r : ℕ) → AreFull pages → slice_get pages q ≡ None → 64 * q + r ≡ i → length (elements pages) ≤ i
  before pages q i r full none is =
      let le = past pages q none in
      let all = many pages full in
      omega (arith, le, all, is)
