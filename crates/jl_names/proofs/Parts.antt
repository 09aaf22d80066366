-- Parts of a text that is itself a part of a block.
use Rattle.std.proofs.Common.{◌≡◌, ◌∙◌, sym, ap, ℕ, ◌+◌, ◌-◌, ◌≤◌, List, take, drop, length, arith}
use Rattle.std.proofs.lemmas.List.{drop-drop, drop-take, length-drop, length-take-le, take-take}

-- so long is a part that stands within its block
pub length_of_part : (block : List ℕ) (at len : ℕ) → at + len ≤ length block → length (take len (drop at block)) ≡ len
length_of_part block at len held = length-take-le len (drop at block) (omega (arith, length-drop at block))

-- what a part has after its first bytes
pub rest_of_part : (block : List ℕ) (at len count : ℕ) → count ≤ len
    → take (len - count) (drop (at + count) block) ≡ drop count (take len (drop at block))
rest_of_part block at len count held =
    let whole : count + (len - count) ≡ len = omega arith in
    sym (ap (λ k. drop count (take k (drop at block))) (sym whole)
    ∙ (drop-take count (len - count) (drop at block) ∙ ap (take (len - count)) (drop-drop count at block)))

-- a part of a part
pub part_of_part : (block : List ℕ) (at len from count : ℕ) → from + count ≤ len
    → take count (drop (at + from) block) ≡ take count (drop from (take len (drop at block)))
part_of_part block at len from count held =
    sym (ap (take count) (sym (rest_of_part block at len from (omega arith)))
    ∙ take-take count (len - from) (drop (at + from) block) (omega arith))
