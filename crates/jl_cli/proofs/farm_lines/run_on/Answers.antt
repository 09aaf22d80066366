use Rattle.std.proofs.Common.{◌≡◌, ◌∙◌, sym, ap, inl, inr, Err}
use Rattle.std.proofs.KnownBytes.{Keeps-refl}
use Rattle.jl_cli.specs.declared.farm_fault.FarmLineFault.TheVariants.{Line}
use Rattle.jl_lines.specs.Devices.{one_more, HasRisen}
use Rattle.jl_lines.specs.declared.line_fault.LineFault.TheVariants.{Device, Memory}
use Rattle.jl_lines.proofs.FaultLaws.{exactly, risen, read_of}
use Rattle.jl_cli.specs.Farms.{IsFarmAnswer}
use Rattle.jl_cli.proofs.FarmEnds.{FarmWhole, farm_lines_first, farm_unwritten, farm_last_fault, farms_all, same_line, no_device}
use Rattle.jl_cli.proofs.FarmEnds.{lines_earlier, after_all}
use Rattle.jl_cli.proofs.farm_lines.run_on.Goals as goal

pub returns-clause-answered : goal.returns-clause-answered
returns-clause-answered g c = (
  c.in_ok-answer_input.ensures.answered.0,
  farms_all _ _ c.args.caller.now c.answer_input.new.session (g.R.Source.remaining c.args.reader.now) (g.W.Sink.contents c.args.writer.now)
      (g.W.Sink.contents c.answer_input.new.writer) (g.W.Sink.contents c.write_last.new.writer) c.in_ok-text.text.items c.requires.fresh
      c.in_ok-answer_input.ensures.answered.1 c.in_ok-text.ensures.text c.in_ok-write_last.ensures.written,
)

pub returns-in_err-answer_input-clause-whole : goal.returns-in_err-answer_input-clause-whole
returns-in_err-answer_input-clause-whole g c =
    exactly c.from_residual.result (Line c.in_err-answer_input.field-0.0)
    (FarmWhole g.K.Name.limits (g.R.Source.remaining c.args.reader.now) (g.W.Sink.contents c.args.writer.now)
    (g.W.Sink.contents c.answer_input.new.writer)
    (HasRisen (g.W.Sink.failures c.args.writer.now) (g.W.Sink.failures c.answer_input.new.writer)))
    c.from_residual.ensures.1
    (farm_lines_first _ c.args.caller.now c.answer_input.new.session _ _ _ _ c.in_err-answer_input.field-0.0 c.requires.fresh
    c.in_err-answer_input.ensures.whole)

pub returns-in_err-text-clause-whole : goal.returns-in_err-text-clause-whole
returns-in_err-text-clause-whole g c =
    exactly c.from_residual-in_err-text.result c.in_err-text.field-0.0
    (FarmWhole g.K.Name.limits (g.R.Source.remaining c.args.reader.now) (g.W.Sink.contents c.args.writer.now)
    (g.W.Sink.contents c.answer_input.new.writer)
    (HasRisen (g.W.Sink.failures c.args.writer.now) (g.W.Sink.failures c.answer_input.new.writer)))
    c.from_residual-in_err-text.ensures.1
    (farm_unwritten _ c.args.caller.now c.answer_input.new.session _ _ _ _ c.in_err-text.field-0.0 c.requires.fresh
    c.in_ok-answer_input.ensures.answered.1 c.in_err-text.ensures.unwritten)

pub returns-in_err-write_last-clause-whole : goal.returns-in_err-write_last-clause-whole
returns-in_err-write_last-clause-whole g c =
    exactly c.from_residual-in_err-write_last.result (Line c.in_err-write_last.field-0.0)
    (FarmWhole g.K.Name.limits (g.R.Source.remaining c.args.reader.now) (g.W.Sink.contents c.args.writer.now)
    (g.W.Sink.contents c.write_last.new.writer)
    (HasRisen (g.W.Sink.failures c.args.writer.now) (g.W.Sink.failures c.write_last.new.writer)))
    c.from_residual-in_err-write_last.ensures.1
    (farm_last_fault _ c.args.caller.now c.answer_input.new.session _ _ (g.W.Sink.contents c.answer_input.new.writer) _ _
    c.in_err-write_last.field-0.0 c.requires.fresh c.in_ok-answer_input.ensures.answered.1 c.in_err-write_last.ensures.memory
    (λ e. risen _ _ (c.in_err-write_last.ensures.device (ap Err e) ∙ ap one_more c.in_ok-answer_input.ensures.ok)))

-- ---- a fault of the lines

pub returns-in_err-answer_input-clause-read : goal.returns-in_err-answer_input-clause-read
returns-in_err-answer_input-clause-read g c = λ e none.
    let f = c.in_err-answer_input.field-0.0 in
    read_of (IsFarmAnswer g.K.Name.limits) c.args.caller.now _ c.answer_input.new.session (g.R.Source.remaining c.args.reader.now)
    (g.R.Source.remaining c.answer_input.new.reader) (g.W.Sink.contents c.args.writer.now) (g.W.Sink.contents c.answer_input.new.writer)
    c.requires.fresh (c.in_err-answer_input.ensures.read (ap Err (same_line c.from_residual.result f Device c.from_residual.ensures.1 e)) none)

pub returns-in_err-answer_input-clause-memory : goal.returns-in_err-answer_input-clause-memory
returns-in_err-answer_input-clause-memory g c = λ e more.
    let f = c.in_err-answer_input.field-0.0 in
    lines_earlier g.K.Name.limits c.args.caller.now c.answer_input.new.session (g.R.Source.remaining c.args.reader.now)
    (g.R.Source.before c.answer_input.new.reader) (g.W.Sink.contents c.args.writer.now) (g.W.Sink.contents c.answer_input.new.writer)
    c.requires.fresh (c.in_err-answer_input.ensures.memory (ap Err (same_line c.from_residual.result f Memory c.from_residual.ensures.1 e)) more)

pub returns-in_err-answer_input-clause-device : goal.returns-in_err-answer_input-clause-device
returns-in_err-answer_input-clause-device g c = λ e.
    let f = c.in_err-answer_input.field-0.0 in
    c.in_err-answer_input.ensures.device (ap Err (same_line c.from_residual.result f Device c.from_residual.ensures.1 e))

-- ---- one of the farm, or want of memory for its last line

pub returns-in_err-text-clause-read : goal.returns-in_err-text-clause-read
returns-in_err-text-clause-read g c = λ e none.
    absurd (no_device c.from_residual-in_err-text.result c.in_err-text.field-0.0 c.from_residual-in_err-text.ensures.1 c.in_err-text.ensures.unwritten e)

pub returns-in_err-text-clause-memory : goal.returns-in_err-text-clause-memory
returns-in_err-text-clause-memory g c = λ e more.
    after_all g.K.Name.limits c.args.caller.now c.answer_input.new.session (g.R.Source.remaining c.args.reader.now) _
    (g.W.Sink.contents c.args.writer.now) (g.W.Sink.contents c.answer_input.new.writer) (g.W.Sink.contents c.answer_input.new.writer)
    c.requires.fresh c.in_ok-answer_input.ensures.answered.1 (Keeps-refl _)

pub returns-in_err-text-clause-device : goal.returns-in_err-text-clause-device
returns-in_err-text-clause-device g c = λ e.
    absurd (no_device c.from_residual-in_err-text.result c.in_err-text.field-0.0 c.from_residual-in_err-text.ensures.1 c.in_err-text.ensures.unwritten e)

-- ---- the last line isn't written

pub returns-in_err-write_last-clause-read : goal.returns-in_err-write_last-clause-read
returns-in_err-write_last-clause-read g c = λ e none.
    let f = c.in_err-write_last.field-0.0 in
    let is = same_line c.from_residual-in_err-write_last.result f Device c.from_residual-in_err-write_last.ensures.1 e in
    absurd (none (risen _ _ (c.in_err-write_last.ensures.device (ap Err is) ∙ ap one_more c.in_ok-answer_input.ensures.ok)))

pub returns-in_err-write_last-clause-memory : goal.returns-in_err-write_last-clause-memory
returns-in_err-write_last-clause-memory g c = λ e more.
    let f = c.in_err-write_last.field-0.0 in
    let is = same_line c.from_residual-in_err-write_last.result f Memory c.from_residual-in_err-write_last.ensures.1 e in
    after_all g.K.Name.limits c.args.caller.now c.answer_input.new.session (g.R.Source.remaining c.args.reader.now) _
    (g.W.Sink.contents c.args.writer.now) (g.W.Sink.contents c.answer_input.new.writer) (g.W.Sink.contents c.write_last.new.writer)
    c.requires.fresh c.in_ok-answer_input.ensures.answered.1
    (c.in_err-write_last.ensures.memory (λ d. let clash : Memory ≡ Device = sym is ∙ d in absurd cc)).1

pub returns-in_err-write_last-clause-device : goal.returns-in_err-write_last-clause-device
returns-in_err-write_last-clause-device g c = λ e.
    let f = c.in_err-write_last.field-0.0 in
    let is = same_line c.from_residual-in_err-write_last.result f Device c.from_residual-in_err-write_last.ensures.1 e in
    inr (inl (risen _ _ (c.in_err-write_last.ensures.device (ap Err is) ∙ ap one_more c.in_ok-answer_input.ensures.ok)))
