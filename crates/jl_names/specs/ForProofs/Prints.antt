-- Prints of texts, by which texts are known to be different. Only equal texts need equal prints.
use Rattle.std.specs.Prelude.{ℕ, zero, suc, ◌*◌, ◌/◌, ◌%◌, ◌^◌, nat_lt, if◌then◌else◌, List, length, drop, fold, bit_xor}
use Rattle.byteorder.specs.Endian.{big_number}

-- with its upper half on its lower one
abbrev pub folded : ℕ → ℕ
folded n = bit_xor n (n / 2 ^ 32)

-- what a word makes of a print
abbrev pub print_step : ℕ → ℕ → ℕ
print_step print word = folded ((bit_xor print word * 0x9e3779b97f4a7c15) % 2 ^ 64)

-- the word of fewer than eight bytes
abbrev pub last_word : List ℕ → ℕ
last_word bytes = fold (λ word byte. bit_xor (word * 256 % 2 ^ 64) byte) 0 bytes

-- what the words of a text make of a print, eight bytes each but the last; the number counts turns
unfoldable pub print_words : ℕ → ℕ → List ℕ → ℕ
print_words zero print text = print_step print (last_word text)
print_words (suc turns) print text =
    if nat_lt (length text) 8 then print_step print (last_word text)
    else print_words turns (print_step print (big_number 8 text)) (drop 8 text)

-- what a text makes of a print
unfoldable pub print_from : ℕ → List ℕ → ℕ
print_from print text = print_words (length text) print text
