use Rattle.std.proofs.Common.{◌≡◌, ◌∙◌, ◌+◌, sym, ap, rules, refl, false, map, string_bytes, drop, codes, ℕ, List, ◌∷◌, Global}
use Rattle.std.specs.Prelude.{String}
use Rattle.std.specs.Str.{bytes_eq}
use Rattle.std.proofs.lemmas.List.{drop_more}
use Rattle.jl_words.specs.Help.{has_flag}
use Rattle.jl_words.proofs.help.has_flag.Goals as goal

goes_on : (word : List ℕ) (rest : List (List ℕ)) → bytes_eq word (codes "--") ≡ false → bytes_eq word (codes "--help") ≡ false
    → bytes_eq word (codes "-h") ≡ false → has_flag (word ∷ rest) ≡ has_flag rest
goes_on word rest a b c = rw (a, b, c) refl

pub loop-word-preserved : goal.loop-word-preserved
loop-word-preserved c =
    let word = c.word-item.result in
    let words = c.args.words.now in
    let later = drop (c.loop-word.word-index + 1) words in
    sym (goes_on (string_bytes word) (map string_bytes later) (search rules) (search rules) (search rules))
    ∙ ap (λ (x : String Global). has_flag (map string_bytes (x ∷ later))) c.word-item.is
    ∙ ap (λ (left : List (String Global)). has_flag (map string_bytes left)) (sym (drop_more words c.loop-word.word-index word c.loop-word-test.true))
    ∙ c.loop-word.invariant
