use Rattle.std.proofs.Common.{refl}
use Rattle.jl_words.specs.ForProofs.CommandLine.{farm, with_run}
use Rattle.jl_words.proofs.BuilderLaws.{read_with}
use Rattle.jl_words.proofs.words.command.Goals as goal

pub returns : goal.returns
returns c =
    read_with c.in_ok-with_run.field-0 c.in_ok-farm.field-0 with_run farm c.subcommand.result c.in_ok-with_run.ensures c.in_ok-farm.ensures refl
    c.subcommand.ensures
