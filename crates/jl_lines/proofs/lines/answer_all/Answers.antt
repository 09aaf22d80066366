use Rattle.std.proofs.Common.{◌∙◌, sym, ap, subst, Err, arith}
use Rattle.std.proofs.KnownBytes.{Keeps-refl}
use Rattle.jl_lines.specs.Devices.{one_more}
use Rattle.jl_lines.specs.Lines.{NoNewline}
use Rattle.jl_lines.proofs.LineLaws.{runs_write}
use Rattle.jl_lines.proofs.FaultLaws.{risen, read_on, ran_on, runs_left}
use Rattle.jl_lines.proofs.FaultLaws.{device_failed, piece_failed, rest_failed, rest_answered, left_by}
use Rattle.jl_lines.proofs.lines.answer_all.Goals as goal

pub returns-in_err-read_from-clause-left : goal.returns-in_err-read_from-clause-left
returns-in_err-read_from-clause-left g c =
    left_by c.from_residual.result c.from_residual.ensures.1
    (device_failed _ _ c.loop.invariant.ran c.loop.invariant.one c.in_err-read_from.ensures.err.1)

pub returns-then-branch-eq0-clause-answered : goal.returns-then-branch-eq0-clause-answered
returns-then-branch-eq0-clause-answered g c =
    rest_answered c.answer_rest.new.session (g.W.Sink.contents c.answer_rest.new.writer) c.answer_rest.result
    (read_on (g.R.Source.remaining c.read_from.new.reader) c.loop.invariant.ran c.loop.invariant.one c.in_ok-read_from.ensures.more)
    c.if-branch-eq0.true (c.in_ok-read_from.ensures.end c.if-branch-eq0.true) c.as_slice.ensures.value
    (omega arith) c.answer_rest.ensures.answered

pub returns-then-branch-eq0-clause-left : goal.returns-then-branch-eq0-clause-left
returns-then-branch-eq0-clause-left g c =
    rest_failed c.answer_rest.new.session (g.W.Sink.contents c.answer_rest.new.writer) c.answer_rest.result
    (read_on (g.R.Source.remaining c.read_from.new.reader) c.loop.invariant.ran c.loop.invariant.one c.in_ok-read_from.ensures.more)
    c.in_ok-read_from.ensures.before (c.in_ok-read_from.ensures.end c.if-branch-eq0.true) c.as_slice.ensures.value
    c.answer_rest.ensures.whole
    (λ e. risen _ _ (c.answer_rest.ensures.device e ∙ ap one_more c.loop.invariant.no_write_failed))

pub returns-in_err-answer_piece-clause-left : goal.returns-in_err-answer_piece-clause-left
returns-in_err-answer_piece-clause-left g c =
    let told = c.in_err-answer_piece.ensures in
    left_by c.from_residual-in_err-answer_piece.result c.from_residual-in_err-answer_piece.ensures.1
    (piece_failed c.in_err-answer_piece.field-0.0
    (read_on (g.R.Source.remaining c.read_from.new.reader) c.loop.invariant.ran c.loop.invariant.one c.in_ok-read_from.ensures.more)
    c.in_ok-read_from.ensures.before told.whole
    (λ e. risen _ _ (told.device (ap Err e) ∙ ap one_more c.loop.invariant.no_write_failed)))

pub loop-preserved : goal.loop-preserved
loop-preserved g c =
    let on = read_on (g.R.Source.remaining c.read_from.new.reader) c.loop.invariant.ran c.loop.invariant.one
    c.in_ok-read_from.ensures.more in
    let told = c.in_ok-answer_piece.ensures in
    record {
      room = told.room;
      one = subst NoNewline (sym told.answered.1) told.answered.2;
      ran = runs_left _ _ _ _ _ _ _ _ _ _ (sym told.answered.1) (sym told.answered.3)
          (runs_write _ _ _ _ _ _ _ _ _ (ran_on on) told.answered.0);
      none = told.none;
      reads = omega (arith, c.read_from.ensures.reads, c.loop.invariant.reads);
      no_read_failed = c.in_ok-read_from.ensures.failures ∙ c.loop.invariant.no_read_failed;
      no_write_failed = told.ok ∙ c.loop.invariant.no_write_failed;
    }

pub returns-clause-left : goal.returns-clause-left
returns-clause-left g c =
    device_failed _ _ c.loop.invariant.ran c.loop.invariant.one (Keeps-refl (g.R.Source.remaining c.loop.reader))
