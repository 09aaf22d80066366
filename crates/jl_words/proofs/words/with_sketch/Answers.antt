use Rattle.std.proofs.Common.{refl}
use Rattle.jl_words.specs.declared.words.Mode.TheVariants.{Sketch}
use Rattle.jl_words.specs.Words.{word_of}
use Rattle.jl_words.specs.ForProofs.CommandLine.{bare_command, with_scan}
use Rattle.jl_words.proofs.BuilderLaws.{read_with}
use Rattle.jl_words.proofs.words.with_sketch.Goals as goal

pub returns : goal.returns
returns c =
    read_with c.in_ok-with_scan.field-0 c.lines.result with_scan (bare_command (word_of Sketch)) c.subcommand.result c.in_ok-with_scan.ensures
    c.lines.ensures refl c.subcommand.ensures
