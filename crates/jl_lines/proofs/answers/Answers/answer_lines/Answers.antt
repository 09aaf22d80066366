use Rattle.std.proofs.Common.{◌≡◌, ◌∙◌, sym, ap, subst, length, length-append, arith}
use Rattle.jl_lines.specs.Lines.{NoNewline}
use Rattle.jl_lines.proofs.LineLaws.{gathers_none, gathers_more, gathers_stop, held_line, match_err}
use Rattle.jl_lines.proofs.answers.Answers.answer_lines.Goals as goal

pub loop-line-init : goal.loop-line-init
loop-line-init g c = record {
  within = c.requires.within;
  short = omega arith;
  none = c.requires.none;
  gathered = gathers_none g.A.Answer.says c.args.session.now c.args.text.now c.args.self.now.text.items;
}

pub loop-line-preserved : goal.loop-line-preserved
loop-line-preserved g c =
    let gathered = c.loop-line.invariant.gathered in
    let line = held_line _ _ _ c.in-Some.ensures.1 (omega arith) c.in-Some.ensures.0 in
    let answer = c.in_ok-answer.ensures.ok in
    record {
      within = omega arith;
      short = omega (arith, line.1, c.loop-line.invariant.short);
      none = tt;
      gathered = gathers_more _ _ c.answer.new.session _ _ _ _ c.in-Some.line.now c.in-Some.later.now answer.0 gathered.0
          (gathered.1 ∙ c.in-Some.ensures.1) line.0
          (subst (λ s. g.A.Answer.says s c.in-Some.line.now answer.0 c.answer.new.session) gathered.2 answer.1) answer.2;
    }

pub returns-clause-gathered : goal.returns-clause-gathered
returns-clause-gathered g c =
    let gathered = c.loop-line.invariant.gathered.0 in
    let left = c.loop-line.invariant.gathered.1 in (
      gathered,
      (
        omega (arith, ap length gathered.split, length-append gathered.done gathered.left, ap length left),
        subst NoNewline (sym left) c.in_default.ensures,
        c.loop-line.invariant.gathered.2,
      ),
    )

pub returns-in_err-answer-clause-gathered : goal.returns-in_err-answer-clause-gathered
returns-in_err-answer-clause-gathered g c =
    let known = c.loop-line.invariant.gathered in
    let stop = gathers_stop _ _ c.loop-line.session c.answer.new.session _ _ _ _ _ c.in-Some.line.now c.in-Some.later.now
    known.0 known.1 c.in-Some.ensures.1 c.in-Some.ensures.0 known.2
    c.in_err-answer.ensures.err c.in_err-answer.ensures.lacks in (
      stop.0,
      match_err (λ used. (used ≡ length stop.0.done) × NoNewline stop.0.left × (c.answer.new.session ≡ stop.0.last)) _
          c.from_residual.result c.from_residual.ensures.1 stop.1,
    )
