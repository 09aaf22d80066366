-- Worked rows, by computation.
use Rattle.std.proofs.Common.{◌≡◌, [], ◌∷◌, refl}
use Rattle.std.specs.Prelude.{codes}
use Rattle.hex.proofs.OnLiterals.{hex_on_literals}
use Rattle.serde_json.proofs.OnLiterals.{serde_json_on_literals}
use Rattle.jl_words.specs.declared.words.Mode.TheVariants.{Scan}
use Rattle.jl_lines.specs.Lines.{lines_of, ended}
use Rattle.jl_session.specs.Jsons.{bad_command}
use Rattle.jl_cli.specs.Modes.{IsAnswer}
use Rattle.jl_lines.specs.Answers.{AreAnswers}
use Rattle.jl_session.specs.Sessions.{Session}

-- a newline at the end ends no further line
lines_three : lines_of (codes "ab\n\nc") ≡ codes "ab" ∷ [] ∷ codes "c" ∷ []
unfolding lines_of
lines_three = refl

lines_ended : lines_of (codes "ab\n") ≡ codes "ab" ∷ []
unfolding lines_of
lines_ended = refl

lines_none : lines_of [] ≡ []
unfolding lines_of
lines_none = refl

-- two lines that are answered by the mode alone
two_answers : (session : Session)
    → AreAnswers (IsAnswer Scan) session ([] ∷ codes "0g" ∷ []) (codes "{\"error\":\"BadCommand\"}\n{\"error\":\"BadCommand\"}\n") session
unfolding hex_on_literals serde_json_on_literals
two_answers session =
    let said = codes "{\"error\":\"BadCommand\"}" in
    let bad : IsAnswer Scan session [] said session = ((bad_command, refl, refl), refl) in
    (said, ended said, session, bad, refl, (said, [], session, ((bad_command, refl, refl), refl), refl, (refl, refl)))
