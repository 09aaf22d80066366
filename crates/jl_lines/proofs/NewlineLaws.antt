-- Where the first newline stands.
use Rattle.std.proofs.Common.{◌≡◌, ◌∙◌, sym, ap, subst, refl, ℕ, zero, suc, ◌+◌, ◌-◌, ◌<◌, ◌≤◌}
use Rattle.std.proofs.Common.{◌==◌, Bool, List, [], ◌∷◌, ◌++◌, length, take, drop, true, false}
use Rattle.std.proofs.Common.{append_assoc, take-append-drop, length-drop, arith}
use Rattle.std.proofs.Math.Seq.{take-add, drop-drop}
use Rattle.std.proofs.lemmas.List.{take_rest}
use Rattle.std.proofs.lemmas.Bool.{eqb-true}
use Rattle.memchr.specs.Find.{Nowhere, NoneBefore, Passes, is_byte}
use Rattle.jl_lines.specs.Lines.{newline, NoNewline}
use Rattle.jl_lines.specs.ForProofs.Progress.{IsFirstNewline}
use Rattle.jl_lines.proofs.LineLaws.{all_append}

not_true : (b : Bool) → ¬ (b ≡ true) → b ≡ false
not_true true h = absurd (h refl)
not_true false h = refl

none_from : (xs : List ℕ) → ((k : ℕ) → k < length xs → ¬ Passes (is_byte newline) xs k) → NoNewline xs
none_from [] h = tt
none_from (x ∷ xs) h = (not_true (x == newline) (h 0 (omega arith)), none_from xs (λ k lt. h (suc k) (omega arith)))

found_at : (xs : List ℕ) (at : ℕ) → at < length xs → ((k : ℕ) → k < at → ¬ Passes (is_byte newline) xs k)
    → Passes (is_byte newline) xs at
    → NoNewline (take at xs) × (xs ≡ take at xs ++ newline ∷ drop (at + 1) xs)
found_at [] at lt h here = absurd (omega arith)
found_at (x ∷ xs) zero lt h here = (tt, ap (λ n. n ∷ xs) (eqb-true x newline here))
found_at (x ∷ xs) (suc at) lt h here =
    let more = found_at xs at (omega arith) (λ k less. h (suc k) (omega arith)) here in
    let next : suc at + 1 ≡ suc (at + 1) = omega arith in (
      (not_true (x == newline) (h 0 (omega arith)), more.0),
      ap (λ (l : List ℕ). x ∷ l) (more.1 ∙ ap (λ n. take at xs ++ newline ∷ drop n (x ∷ xs)) (sym next)),
    )

-- a range up to the end is what is left
pub to_end : (n : ℕ) (text : List ℕ) → take (length text - n) (drop n text) ≡ drop n text
to_end n text = take_rest text n

-- none was found after a beginning that has none
pub none_after : (text : List ℕ) (n : ℕ) → NoNewline (take n text)
    → Nowhere (Passes (is_byte newline) (drop n text)) 0 (length (drop n text)) → NoNewline text
none_after text n front later =
    subst NoNewline (take-append-drop n text)
    (all_append (λ (b : ℕ). (b == newline) ≡ false) (take n text) (drop n text) front
    (none_from (drop n text) (λ k lt. later k (omega arith) lt)))

add_assoc-is : (n at : ℕ) → n + (at + 1) ≡ n + at + 1
add_assoc-is n at = omega arith

-- one was found after a beginning that has none
pub found_after : (text : List ℕ) (n at : ℕ) → n ≤ length text → NoNewline (take n text)
    → NoneBefore (Passes (is_byte newline) (drop n text)) 0 (length (drop n text)) at
    → Passes (is_byte newline) (drop n text) at → IsFirstNewline text (n + at)
found_after text n at held front before here =
    let found = found_at (drop n text) at before.high (λ k lt. before.before k (omega arith) lt) here in
    let taken : take (n + at) text ≡ take n text ++ take at (drop n text) = take-add n at text in
    let dropped : drop (at + 1) (drop n text) ≡ drop (n + at + 1) text =
    drop-drop (at + 1) n text ∙ ap (λ k. drop k text) (add_assoc-is n at) in
    record {
      within = omega (arith, before.high, length-drop n text);
      before = subst NoNewline (sym taken)
          (all_append (λ (b : ℕ). (b == newline) ≡ false) (take n text) (take at (drop n text)) front found.0);
      split = sym (take-append-drop n text) ∙ (ap (λ (l : List ℕ). take n text ++ l) found.1
          ∙ (sym (append_assoc (take n text) (take at (drop n text)) (newline ∷ drop (at + 1) (drop n text)))
          ∙ (ap (λ (l : List ℕ). l ++ newline ∷ drop (at + 1) (drop n text)) (sym taken)
          ∙ ap (λ (l : List ℕ). take (n + at) text ++ newline ∷ l) dropped)));
    }
