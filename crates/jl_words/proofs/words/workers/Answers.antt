use Rattle.std.proofs.Common.{◌≡◌, ◌∙◌, ap, rules}
use Rattle.clap.specs.Words.{Rule, rule_of}
use Rattle.jl_words.specs.ForProofs.CommandLine.{workers}
use Rattle.jl_words.proofs.words.workers.Goals as goal

-- what the usage says of the value is no part of what is read, but that it has one name
pub returns-clause-rule : goal.returns-clause-rule
returns-clause-rule c =
    let read : rule_of c.value_parser-2.result ≡ record workers { value_names = 0 } = search rules in
    ap rule_of c.help.ensures ∙ ap rule_of c.value_name.ensures ∙ ap (λ (rule : Rule). record rule { value_names = 1 }) read
