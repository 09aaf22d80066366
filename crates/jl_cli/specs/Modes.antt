-- What a line of each mode is answered.
use Rattle.std.specs.Prelude.{◌≡◌, ℕ, List}
use Rattle.jl_words.specs.declared.words.Mode.{Mode}
use Rattle.jl_words.specs.declared.words.Mode.TheVariants.{Scan, Sketch, Run}
use Rattle.jl_session.specs.Jsons.{IsTextOf}
use Rattle.jl_session.specs.Scans.{IsScanAnswer}
use Rattle.jl_session.specs.Sketches.{IsSketchAnswer}
use Rattle.jl_session.specs.Sessions.{Session, IsSessionAnswer}

-- the text that a line is answered, and the session afterwards, which changes in the mode run alone
abbrev pub IsAnswer : Mode → Session → List ℕ → List ℕ → Session → Type 0
IsAnswer Scan old line text new = IsTextOf (IsScanAnswer line) text × (new ≡ old)
IsAnswer Sketch old line text new = IsSketchAnswer line text × (new ≡ old)
IsAnswer Run old line text new = IsTextOf (λ answer. IsSessionAnswer old line answer new) text
