use Rattle.std.proofs.Common.{refl}
use Rattle.jl_lines.specs.declared.line_fault.LineFault.TheVariants.{Memory}
use Rattle.jl_lines.specs.Devices.{HasRisen}
use Rattle.jl_cli.specs.Modes.{IsAnswer}
use Rattle.jl_session.specs.Sessions.{new_session}
use Rattle.jl_lines.proofs.FaultLaws.{all_of, whole_of, read_of, exactly, Whole, none_whole, earlier_of}
use Rattle.jl_cli.proofs.runs.run_lines.Goals as goal

-- the session is a new one, and is dropped

pub returns-clause-answered : goal.returns-clause-answered
returns-clause-answered g c =
    all_of (IsAnswer c.args.mode) _ _ c.run_lines_with.new.session (g.R.Source.remaining c.args.reader.now)
    (g.R.Source.remaining c.run_lines_with.new.reader) (g.W.Sink.contents c.args.writer.now)
    (g.W.Sink.contents c.run_lines_with.new.writer) c.run_lines_with.result c.in_ok-session.ensures
    c.run_lines_with.ensures.answered

pub returns-clause-whole : goal.returns-clause-whole
returns-clause-whole g c =
    whole_of (IsAnswer c.args.mode) _ _ c.run_lines_with.new.session (g.R.Source.remaining c.args.reader.now)
    (g.W.Sink.contents c.args.writer.now) (g.W.Sink.contents c.run_lines_with.new.writer) _ c.run_lines_with.result
    c.in_ok-session.ensures c.run_lines_with.ensures.whole

pub returns-clause-read : goal.returns-clause-read
returns-clause-read g c = λ e none.
    read_of (IsAnswer c.args.mode) _ _ c.run_lines_with.new.session (g.R.Source.remaining c.args.reader.now)
    (g.R.Source.remaining c.run_lines_with.new.reader) (g.W.Sink.contents c.args.writer.now)
    (g.W.Sink.contents c.run_lines_with.new.writer) c.in_ok-session.ensures (c.run_lines_with.ensures.read e none)

pub returns-in_err-session-clause-whole : goal.returns-in_err-session-clause-whole
returns-in_err-session-clause-whole g c =
    whole_of (IsAnswer c.args.mode) new_session _ new_session (g.R.Source.remaining c.args.reader.now)
    (g.W.Sink.contents c.args.writer.now) (g.W.Sink.contents c.args.writer.now) _ c.from_residual.result refl
    (exactly c.from_residual.result Memory
    (Whole (IsAnswer c.args.mode) new_session new_session (g.R.Source.remaining c.args.reader.now)
    (g.W.Sink.contents c.args.writer.now) (g.W.Sink.contents c.args.writer.now)
    (HasRisen (g.W.Sink.failures c.args.writer.now) (g.W.Sink.failures c.args.writer.now)))
    c.from_residual.ensures.1 (none_whole _ _ _ _ _))

pub returns-clause-memory : goal.returns-clause-memory
returns-clause-memory g c = λ e read.
    earlier_of (IsAnswer c.args.mode) _ _ c.run_lines_with.new.session (g.R.Source.remaining c.args.reader.now)
    (g.R.Source.before c.run_lines_with.new.reader) (g.W.Sink.contents c.args.writer.now)
    (g.W.Sink.contents c.run_lines_with.new.writer) c.in_ok-session.ensures (c.run_lines_with.ensures.memory e read)

pub returns-in_err-session-clause-memory : goal.returns-in_err-session-clause-memory
returns-in_err-session-clause-memory g c = λ e read. absurd (read refl)
