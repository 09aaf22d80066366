use Rattle.std.proofs.Common.{◌≡◌, rules, refl}
use Rattle.clap.specs.Words.{app_of}
use Rattle.jl_words.specs.declared.words.Mode.TheVariants.{Scan}
use Rattle.jl_words.specs.Words.{word_of}
use Rattle.jl_words.specs.ForProofs.CommandLine.{bare_command, without_subcommands}
use Rattle.jl_words.proofs.BuilderLaws.{read_with}
use Rattle.jl_words.proofs.words.with_scan.Goals as goal

pub returns : goal.returns
returns c =
    let alone : app_of c.after_help.result ≡ without_subcommands = search rules in
    read_with c.after_help.result c.lines.result without_subcommands (bare_command (word_of Scan)) c.subcommand.result alone
    c.lines.ensures refl c.subcommand.ensures
