use Rattle.std.proofs.Common.{◌≡◌, ◌≢◌, ◌∙◌, sym, ap, subst, refl, ℕ, suc, ◌==◌, true, false, List, []}
use Rattle.std.proofs.Common.{◌∷◌, ◌++◌, length, arith}
use Rattle.std.specs.Io.KnownBytes.{Appends}
use Rattle.std.proofs.lemmas.Bool.{eqb-true}
use Rattle.std.specs.Io.KnownBytes.{Keeps}
use Rattle.std.proofs.KnownBytes.{Keeps-refl}
use Rattle.jl_lines.specs.declared.line_fault.LineFault.TheVariants.{TooLong, Device, Memory}
use Rattle.jl_lines.specs.Lines.{lines_of, ended}
use Rattle.jl_lines.specs.Answers.{AreAnswers, LacksFirst}
use Rattle.jl_lines.proofs.FaultLaws.{exactly}
use Rattle.jl_lines.proofs.LineLaws.{answers_last, answers_empty, lacks_last}
use Rattle.jl_lines.proofs.lines.answer_rest.Goals as goal
use Rattle.jl_lines.proofs.lines.answer_rest.Goals.{then-not-is_empty+in_ok-answer, else-not-is_empty}

some_there : (xs : List ℕ) → false ≡ (length xs == 0) → ¬ (xs ≡ [])
some_there [] told = absurd cc
some_there (x ∷ xs) told = λ e. absurd cc

zero-is-not-suc : (n : ℕ) → suc n ≡ 0 → ⊥
zero-is-not-suc n e = absurd (omega (arith, e))

none_there : (xs : List ℕ) → true ≡ (length xs == 0) → xs ≡ []
none_there [] told = refl
none_there (x ∷ xs) told = absurd (zero-is-not-suc (length xs) (eqb-true (suc (length xs)) 0 (sym told)))

pub returns-clause-answered : goal.returns-clause-answered
returns-clause-answered g c = elim c.if-not-is_empty.branch [
  | then-not-is_empty+in_ok-answer w ↦
      let a = w.in_ok-answer.ensures.ok in (
        ended a.0,
        subst (λ s. AreAnswers g.A.Answer.says c.args.session.now (lines_of c.args.rest.now) (ended a.0) s)
            (sym w.session-is)
            (answers_last g.A.Answer.says c.args.session.now _ c.args.rest.now a.0
            (some_there c.args.rest.now w.if-not-is_empty.ensures) c.requires.one a.1),
        subst (Appends (g.W.Sink.contents c.args.writer.now) (g.W.Sink.contents c.write_to.new.writer))
            (ap (λ x. x.text.items) w.answers-is
            ∙ (a.2 ∙ ap (λ (l : List ℕ). l ++ ended a.0) c.requires.empty)) c.in_ok-write_to.ensures.written,
      )
  | else-not-is_empty w ↦ (
    [],
    answers_empty g.A.Answer.says c.args.session.now _ c.args.rest.now
        (none_there c.args.rest.now w.if-not-is_empty.ensures) w.session-is,
    subst (Appends (g.W.Sink.contents c.args.writer.now) (g.W.Sink.contents c.write_to.new.writer))
        (ap (λ x. x.text.items) w.answers-is ∙ c.requires.empty) c.in_ok-write_to.ensures.written,
  )
]

pub returns-in_err-answer-clause-whole : goal.returns-in_err-answer-clause-whole
returns-in_err-answer-clause-whole g c =
    exactly c.from_residual.result Memory
    (λ f. f ≢ Device → Keeps (g.W.Sink.contents c.args.writer.now) (g.W.Sink.contents c.args.writer.now) × (f ≢ TooLong)
    × LacksFirst g.A.Answer.says c.args.session.now (lines_of c.args.rest.now) c.answer.new.session)
    c.from_residual.ensures.1
    (λ _. (
      Keeps-refl (g.W.Sink.contents c.args.writer.now),
      (λ e. absurd cc),
      lacks_last g.A.Answer.says c.args.session.now c.answer.new.session c.args.rest.now
          (some_there c.args.rest.now c.if-not-is_empty.ensures) c.requires.one c.in_err-answer.ensures.lacks,
    ))
