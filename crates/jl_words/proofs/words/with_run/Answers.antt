use Rattle.std.proofs.Common.{refl}
use Rattle.jl_words.specs.declared.words.Mode.TheVariants.{Run}
use Rattle.jl_words.specs.Words.{word_of}
use Rattle.jl_words.specs.ForProofs.CommandLine.{bare_command, with_sketch}
use Rattle.jl_words.proofs.BuilderLaws.{read_with}
use Rattle.jl_words.proofs.words.with_run.Goals as goal

pub returns : goal.returns
returns c =
    read_with c.in_ok-with_sketch.field-0 c.lines.result with_sketch (bare_command (word_of Run)) c.subcommand.result c.in_ok-with_sketch.ensures
    c.lines.ensures refl c.subcommand.ensures
