use Rattle.std.proofs.Common.{subst, [], IfSome}
use Rattle.std.specs.Prelude.{IfErr}
use Rattle.jl_lines.specs.Answers.{AnswersRead}
use Rattle.jl_types.specs.declared.limits.Limits.{Limits}
use Rattle.jl_cli.specs.Farms.{IsFarmAnswer, FarmsEarlier}
use Rattle.jl_lines.specs.Devices.{HasRisen}
use Rattle.jl_cli.proofs.FarmEnds.{FarmWhole}
use Rattle.jl_cli.proofs.farm_lines.run_farm.Goals as goal

pub returns-in-Ok-clause-whole : goal.returns-in-Ok-clause-whole
returns-in-Ok-clause-whole g c =
    subst
    (λ (n : Limits). IfErr c.run_started.result (FarmWhole n (g.R.Source.remaining c.args.reader.now) (g.W.Sink.contents c.args.writer.now)
    (g.W.Sink.contents c.run_started.new.writer)
    (HasRisen (g.W.Sink.failures c.args.writer.now) (g.W.Sink.failures c.run_started.new.writer))))
    c.in-Ok.ensures.0 c.run_started.ensures.whole

pub returns-in-Ok-clause-read : goal.returns-in-Ok-clause-read
returns-in-Ok-clause-read g c = λ e none.
    subst
    (λ (n : Limits). IfSome (g.R.Source.remaining c.args.reader.now) (λ input. AnswersRead (IsFarmAnswer n) [] input
    (g.R.Source.remaining c.run_started.new.reader) (g.W.Sink.contents c.args.writer.now) (g.W.Sink.contents c.run_started.new.writer)))
    c.in-Ok.ensures.0 (c.run_started.ensures.read e none)

pub returns-in-Ok-clause-memory : goal.returns-in-Ok-clause-memory
returns-in-Ok-clause-memory g c = λ e more.
    subst
    (λ (n : Limits). IfSome (g.R.Source.remaining c.args.reader.now) (λ input. FarmsEarlier n input
    (g.R.Source.before c.run_started.new.reader) (g.W.Sink.contents c.args.writer.now) (g.W.Sink.contents c.run_started.new.writer)))
    c.in-Ok.ensures.0 (c.run_started.ensures.memory e more)
