use Rattle.jl_lines.specs.declared.line_fault.LineFault.TheVariants.{Memory}
use Rattle.jl_lines.specs.Devices.{HasRisen}
use Rattle.jl_cli.specs.Modes.{IsAnswer}
use Rattle.jl_lines.proofs.FaultLaws.{exactly, Whole, none_whole}
use Rattle.jl_cli.proofs.runs.run_lines_with.Goals as goal

pub returns-in_err-new-in-Scan-clause-whole : goal.returns-in_err-new-in-Scan-clause-whole
returns-in_err-new-in-Scan-clause-whole g c =
    exactly c.from_residual.result Memory
    (Whole (IsAnswer c.args.mode) c.args.session.now c.args.session.now (g.R.Source.remaining c.args.reader.now)
    (g.W.Sink.contents c.args.writer.now) (g.W.Sink.contents c.args.writer.now)
    (HasRisen (g.W.Sink.failures c.args.writer.now) (g.W.Sink.failures c.args.writer.now)))
    c.from_residual.ensures.1 (none_whole _ _ _ _ _)

pub returns-in_ok-new-in-Scan-clause-answered : goal.returns-in_ok-new-in-Scan-clause-answered
returns-in_ok-new-in-Scan-clause-answered g c = rw c.in-Scan.is c.answer_input.ensures.answered

pub returns-in_ok-new-in-Scan-clause-whole : goal.returns-in_ok-new-in-Scan-clause-whole
returns-in_ok-new-in-Scan-clause-whole g c = rw c.in-Scan.is c.answer_input.ensures.whole

pub returns-in_ok-new-in-Scan-clause-read : goal.returns-in_ok-new-in-Scan-clause-read
returns-in_ok-new-in-Scan-clause-read g c = rw c.in-Scan.is c.answer_input.ensures.read

pub returns-in_ok-new-in-Scan-clause-memory : goal.returns-in_ok-new-in-Scan-clause-memory
returns-in_ok-new-in-Scan-clause-memory g c = rw c.in-Scan.is c.answer_input.ensures.memory

pub returns-in-Sketch-clause-answered : goal.returns-in-Sketch-clause-answered
returns-in-Sketch-clause-answered g c = rw c.in-Sketch.is c.answer_input-in-Sketch.ensures.answered

pub returns-in-Sketch-clause-whole : goal.returns-in-Sketch-clause-whole
returns-in-Sketch-clause-whole g c = rw c.in-Sketch.is c.answer_input-in-Sketch.ensures.whole

pub returns-in-Sketch-clause-read : goal.returns-in-Sketch-clause-read
returns-in-Sketch-clause-read g c = rw c.in-Sketch.is c.answer_input-in-Sketch.ensures.read

pub returns-in-Sketch-clause-memory : goal.returns-in-Sketch-clause-memory
returns-in-Sketch-clause-memory g c = rw c.in-Sketch.is c.answer_input-in-Sketch.ensures.memory

pub returns-in-Run-clause-answered : goal.returns-in-Run-clause-answered
returns-in-Run-clause-answered g c = rw c.in-Run.is c.answer_input-in-Run.ensures.answered

pub returns-in-Run-clause-whole : goal.returns-in-Run-clause-whole
returns-in-Run-clause-whole g c = rw c.in-Run.is c.answer_input-in-Run.ensures.whole

pub returns-in-Run-clause-read : goal.returns-in-Run-clause-read
returns-in-Run-clause-read g c = rw c.in-Run.is c.answer_input-in-Run.ensures.read

pub returns-in-Run-clause-memory : goal.returns-in-Run-clause-memory
returns-in-Run-clause-memory g c = rw c.in-Run.is c.answer_input-in-Run.ensures.memory
