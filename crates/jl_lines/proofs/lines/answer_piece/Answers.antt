use Rattle.std.proofs.Common.{◌≡◌, ◌≢◌, [], ◌∙◌, sym, ap, subst, length, length-append, arith}
use Rattle.jl_lines.specs.declared.line_fault.LineFault.TheVariants.{Device, Memory}
use Rattle.jl_lines.specs.Lines.{NoNewline}
use Rattle.jl_lines.specs.ForProofs.Progress.{Writes, StopsBy}
use Rattle.jl_lines.proofs.LineLaws.{writes, left_after, lacks_at}
use Rattle.jl_lines.proofs.FaultLaws.{exactly}
use Rattle.jl_lines.proofs.lines.answer_piece.Goals as goal

pub returns-then-is_full-clause-whole : goal.returns-then-is_full-clause-whole
returns-then-is_full-clause-whole g c = λ other.
    let gathered = c.in_ok-used.ensures.gathered in
    let w = writes _ _ c.args.input.now _ _ _ _ _ gathered.0 c.as_slice.ensures.value c.requires.empty
    c.in_ok-write_to.ensures.written in
    let full : length c.args.input.now ≡ 2100001 = c.is_full.ensures.0 c.if-is_full.true in (
      w.0,
      (
        record {
          one = subst NoNewline (sym w.1) gathered.1.1;
          long = omega (
            arith,
            full,
            ap length w.0.split,
            length-append w.0.done w.0.left,
            ap length w.2,
            gathered.1.0,
            c.if-used-eq0.true,
          );
        },
        gathered.1.2 ∙ sym w.3,
      ),
      c.in_ok-write_to.ensures.none,
    )

pub returns-clause-answered : goal.returns-clause-answered
returns-clause-answered g c =
    let gathered = c.in_ok-used.ensures.gathered in
    let w = writes _ _ c.args.input.now _ _ _ _ _ gathered.0 c.as_slice.ensures.value c.requires.empty
    c.in_ok-write_to.ensures.written in (
      w.0,
      c.discard.ensures ∙ left_after c.args.input.now w.0.done w.0.left c.in_ok-used.used w.0.split
          (gathered.1.0 ∙ ap length (sym w.2)),
      subst NoNewline (sym w.1) gathered.1.1,
      gathered.1.2 ∙ sym w.3,
    )

pub returns-in_err-used-clause-whole : goal.returns-in_err-used-clause-whole
returns-in_err-used-clause-whole g c =
    let gathered = c.in_err-used.ensures.gathered in
    let w = writes _ _ c.args.input.now _ _ _ _ _ gathered.0 c.as_slice.ensures.value c.requires.empty
    c.in_ok-write_to.ensures.written in
    exactly c.from_residual-in_err-used.result Memory
    (λ f. f ≢ Device
    → (w : Writes g.A.Answer.says c.args.session.now c.args.input.now (g.W.Sink.contents c.args.writer.now)
    (g.W.Sink.contents c.write_to.new.writer))
    × StopsBy f g.A.Answer.says w.last w.left c.answer_lines-answered.new.session
    × (c.write_to.new.self.text.items ≡ []))
    c.from_residual-in_err-used.ensures.1
    (λ _. (w.0, lacks_at _ _ _ _ _ _ w.3 w.1 gathered.1, c.in_ok-write_to.ensures.none))
