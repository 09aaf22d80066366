use Rattle.std.proofs.Common.{◌≡◌, ◌<◌, ◌≤◌, [], length}
use Rattle.jl_lines.specs.Lines.{NoNewline}
use Rattle.jl_lines.specs.ForProofs.Progress.{Runs}
use Rattle.jl_lines.proofs.lines.answer_all.Given as goal

abbrev pub invariant-loop : goal.invariant-loop
invariant-loop g l = record {
  room : length l.input < 2100001;
  one : NoNewline l.input;
  ran : Runs g.A.Answer.says l.fn.session l.session (g.R.Source.remaining l.fn.reader) (g.R.Source.remaining l.reader) l.input
      (g.W.Sink.contents l.fn.writer) (g.W.Sink.contents l.writer);
  none : l.answers.text.items ≡ [];
  reads : l.counter ≤ g.R.Source.reads l.reader;
  no_read_failed : g.R.Source.failures l.reader ≡ g.R.Source.failures l.fn.reader;
  no_write_failed : g.W.Sink.failures l.writer ≡ g.W.Sink.failures l.fn.writer;
}
