-- The words of a text, one after another.
use Rattle.std.proofs.Common.{◌≡◌, ℕ, zero, suc, ◌<◌, ◌≤◌, List, length, drop, arith, true, false}
use Rattle.std.specs.Prelude.{nat_lt}
use Rattle.std.proofs.lemmas.Bool.Decides.{nat_tests}
use Rattle.std.proofs.lemmas.List.{length-drop}
use Rattle.byteorder.specs.Endian.{big_number}
use Rattle.jl_names.specs.ForProofs.Prints.{print_step, last_word, print_words}

-- some turns that are enough make the print that all of them make
abbrev pub Comes : ℕ → List ℕ → ℕ → Type 0
Comes print text total = (turns : ℕ) × (length text ≤ turns) × (print_words turns print text ≡ total)

long : (text : List ℕ) → 8 ≤ length text → nat_lt (length text) 8 ≡ false
long text h = grind (arith, nat_tests)

short : (text : List ℕ) → length text < 8 → nat_lt (length text) 8 ≡ true
short text h = grind (arith, nat_tests)

pub word_more : (print : ℕ) (text : List ℕ) (total : ℕ) → 8 ≤ length text → Comes print text total
    → Comes (print_step print (big_number 8 text)) (drop 8 text) total
unfolding print_words
word_more print text total h (zero, fits, e) = absurd (omega arith)
word_more print text total h (suc turns, fits, e) = (turns, omega (arith, length-drop 8 text), rw (long text h) at e)

pub words_done : (print : ℕ) (text : List ℕ) (total : ℕ) → length text < 8 → Comes print text total
    → print_step print (last_word text) ≡ total
unfolding print_words
words_done print text total h (zero, fits, e) = e
words_done print text total h (suc turns, fits, e) = rw (short text h) at e
