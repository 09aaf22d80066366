-- Words that ask for lines or for a farm ask for no help.
use Rattle.std.proofs.Common.{◌≡◌, ◌∙◌, ◌⊎◌, inl, inr, sym, ap, refl, List, [], ◌∷◌, ◌++◌, false, None, codes}
use Rattle.std.specs.Str.Parse.{starts_with_minus}
use Rattle.clap.specs.Walk.{Text}
use Rattle.jl_names.proofs.Tests.{by_test}
use Rattle.jl_words.specs.declared.words.Words.{Words}
use Rattle.jl_words.specs.declared.words.Words.TheVariants.{Lines, Farm}
use Rattle.jl_words.specs.declared.words.Mode.{Mode}
use Rattle.jl_words.specs.declared.words.Mode.TheVariants.{Scan, Sketch, Run}
use Rattle.jl_words.specs.Words.{IsEnd, AskFor, word_of}
use Rattle.jl_words.specs.Help.{has_flag, help_asked}
use Rattle.jl_words.proofs.CountLaws.{IsCount, no_minus, number}

lines_want_none : (mode : Mode) (name : Text) (end : List Text) → IsEnd end → help_asked (name ∷ word_of mode ∷ end) ≡ None
lines_want_none Scan name end (inl e) = ap (λ (words : List Text). help_asked (name ∷ codes "scan" ∷ words)) e
lines_want_none Scan name end (inr e) = ap (λ (words : List Text). help_asked (name ∷ codes "scan" ∷ words)) e
lines_want_none Sketch name end (inl e) = ap (λ (words : List Text). help_asked (name ∷ codes "sketch" ∷ words)) e
lines_want_none Sketch name end (inr e) = ap (λ (words : List Text). help_asked (name ∷ codes "sketch" ∷ words)) e
lines_want_none Run name end (inl e) = ap (λ (words : List Text). help_asked (name ∷ codes "run" ∷ words)) e
lines_want_none Run name end (inr e) = ap (λ (words : List Text). help_asked (name ∷ codes "run" ∷ words)) e

-- what begins without a minus is no flag
no_flag : (text : Text) (rest : List Text) → starts_with_minus text ≡ false → has_flag (text ∷ rest) ≡ has_flag rest
no_flag [] rest e = refl
no_flag (x ∷ xs) rest e = rw e refl

no_flag_at_end : (end : List Text) → IsEnd end → has_flag end ≡ false
no_flag_at_end end (inl e) = ap has_flag e
no_flag_at_end end (inr e) = ap has_flag e

no_flag_after : (text : Text) (end : List Text) → IsCount text → IsEnd end → has_flag (text ∷ end) ≡ false
no_flag_after text end is_count is_end = by_test (starts_with_minus text)
    (λ e. absurd (no_minus text is_count e))
    (λ e. no_flag text end e ∙ no_flag_at_end end is_end)

farm_wants_none : (name text : Text) (option end : List Text) → IsCount text → IsEnd end
    → (option ≡ codes "--workers" ∷ text ∷ []) ⊎ (option ≡ (codes "--workers=" ++ text) ∷ [])
    → help_asked (name ∷ codes "farm" ∷ option ++ end) ≡ None
farm_wants_none name text option end is_count is_end (inl e) =
    ap (λ (words : List Text). help_asked (name ∷ codes "farm" ∷ words ++ end)) e ∙ rw (no_flag_after text end is_count is_end) refl
farm_wants_none name text option end is_count is_end (inr e) =
    ap (λ (words : List Text). help_asked (name ∷ codes "farm" ∷ words ++ end)) e ∙ rw (no_flag_at_end end is_end) refl

pub wants_none : (asked : Words) (words : List Text) → AskFor asked words → help_asked words ≡ None
wants_none (Lines mode) words p =
    ap help_asked (p.3 ∙ ap (λ (option : List Text). p.0 ∷ word_of mode ∷ option ++ p.2) p.4) ∙ lines_want_none mode p.0 p.2 p.5
wants_none (Farm count) words p =
    let text = p.4.0 in
    let same : number text ≡ count = sym p.4.1.1 in
    let is_count : IsCount text = (p.4.1.0, rw same p.4.2, rw same p.4.3) in
    ap help_asked p.3 ∙ farm_wants_none p.0 text p.1 p.2 is_count p.5 p.4.4
