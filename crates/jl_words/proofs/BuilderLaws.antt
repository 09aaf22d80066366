-- A command that gets a subcommand.
use Rattle.std.proofs.Common.{◌≡◌, ◌∙◌, ap, ap₂, Result, true}
use Rattle.std.specs.Prelude.{IfOk}
use Rattle.std.proofs.lemmas.Result.{IfOk-weaker}
use Rattle.clap.specs.declared.builder.command.Command.{Command}
use Rattle.clap.specs.Words.{App, AddsSubcommand, app_of, with_subcommand}
use Rattle.clap.proofs.SimpleLemmas.{plain_fields}

-- the command reads what it read, and this subcommand's words
pub read_with : {E : Type 0} (old sub : Command) (whole part : App) (r : Result Command E) → app_of old ≡ whole → app_of sub ≡ part
    → part.top.is_plain ≡ true
    → IfOk r (λ command. AddsSubcommand old sub command) → IfOk r (λ command. app_of command ≡ with_subcommand whole part.top)
read_with old sub whole part r is_whole is_part is_plain adds =
    let plain = plain_fields sub (ap (λ (a : App). a.top.is_plain) is_part ∙ is_plain) in
    IfOk-weaker r _ _ (λ command added. added.shape plain.globals ∙ ap₂ with_subcommand is_whole (ap (λ (a : App). a.top) is_part)) adds
