-- Bytes in a buffer, of which the first are filled.
use Rattle.std.proofs.Common.{◌≡◌, ℕ, ◌+◌, ◌-◌, ◌≤◌, List, ◌++◌, length, take, drop, sym, ◌∙◌, ap}
use Rattle.std.proofs.Common.{zero-add, arith, length-drop, append_assoc, take-take}
use Rattle.std.proofs.Math.Seq.{paste, take-append-add}
use Rattle.std.proofs.lemmas.List.{drop-take, take-append-le}
use Rattle.std.proofs.lemmas.List.Edits.{take-paste}

-- what is left after count bytes, moved to the front
moved : (xs : List ℕ) (count n : ℕ) → count + n ≤ length xs
    → take n (paste xs 0 (drop count xs) n) ≡ drop count (take (count + n) xs)
moved xs count n held =
    let room : n ≤ length (drop count xs) = grind (arith, length-drop) in
    ap (λ k. take k (paste xs 0 (drop count xs) n)) (sym (zero-add n))
    ∙ (take-paste xs 0 (drop count xs) n (omega arith) room
    ∙ sym (drop-take count n xs))

pub kept : (xs : List ℕ) (filled count : ℕ) → count ≤ filled → filled ≤ length xs
    → take (filled - count) (paste xs 0 (drop count xs) (filled - count)) ≡ drop count (take filled xs)
kept xs filled count within held =
    let n : ℕ = filled - count in
    let whole : count + n ≡ filled = omega arith in
    moved xs count n (omega arith) ∙ ap (λ k. drop count (take k xs)) whole

-- what stands at the front of a buffer after a piece was read to follow what was filled
filled_more : (front buffer later : List ℕ) (filled count : ℕ) → length front ≡ filled → count ≤ length buffer
    → take (filled + count) (front ++ (buffer ++ later)) ≡ front ++ take count buffer
filled_more front buffer later filled count is held =
    ap (λ k. take (k + count) (front ++ (buffer ++ later))) (sym is)
    ∙ (take-append-add front (buffer ++ later) count
    ∙ ap (λ l. front ++ l) (take-append-le count buffer later held))

-- what stands at the front, if the whole is cut to a length that holds it
pub filled_within : (front buffer later more : List ℕ) (filled count len : ℕ) → length front ≡ filled
    → count ≤ length buffer → filled + count ≤ len
    → take (filled + count) (take len ((front ++ (buffer ++ later)) ++ more)) ≡ front ++ take count buffer
filled_within front buffer later more filled count len is held room =
    take-take (filled + count) len _ room
    ∙ (ap (take (filled + count)) (append_assoc front (buffer ++ later) more ∙ ap (λ l. front ++ l)
    (append_assoc buffer later more))
    ∙ filled_more front buffer (later ++ more) filled count is held)
