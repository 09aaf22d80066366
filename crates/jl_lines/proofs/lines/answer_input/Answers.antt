use Rattle.std.proofs.Common.{refl}
use Rattle.std.proofs.lemmas.Result.{IfErr-at_err, IfErr-weaker}
use Rattle.jl_lines.specs.declared.line_fault.LineFault.TheVariants.{Memory}
use Rattle.jl_lines.specs.Devices.{HasRisen}
use Rattle.jl_lines.proofs.FaultLaws.{exactly, Whole, none_whole}
use Rattle.jl_lines.proofs.lines.answer_input.Goals as goal

pub returns-in_err-input-clause-whole : goal.returns-in_err-input-clause-whole
returns-in_err-input-clause-whole g c =
    exactly c.from_residual.result Memory
    (Whole g.A.Answer.says c.args.session.now c.args.session.now (g.R.Source.remaining c.args.reader.now)
    (g.W.Sink.contents c.args.writer.now) (g.W.Sink.contents c.args.writer.now)
    (HasRisen (g.W.Sink.failures c.args.writer.now) (g.W.Sink.failures c.args.writer.now)))
    c.from_residual.ensures.1 (none_whole _ _ _ _ _)

pub returns-in_err-input-clause-memory : goal.returns-in_err-input-clause-memory
returns-in_err-input-clause-memory g c = λ e read. absurd (read refl)

pub returns-clause-whole : goal.returns-clause-whole
returns-clause-whole g c = IfErr-weaker c.answer_all.result _ _ (λ f l. l.whole) c.answer_all.ensures.left

pub returns-clause-read : goal.returns-clause-read
returns-clause-read g c = λ e. (IfErr-at_err _ e c.answer_all.ensures.left).read refl

pub returns-clause-memory : goal.returns-clause-memory
returns-clause-memory g c = λ e read. (IfErr-at_err _ e c.answer_all.ensures.left).memory refl
