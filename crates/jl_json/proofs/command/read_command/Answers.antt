use Rattle.std.proofs.Common.{◌≡◌, subst, codes, Option}
use Rattle.std.specs.Prelude.{IfOk}
use Rattle.serde_json.specs.Find.{as_object}
use Rattle.serde_json.specs.View.{view}
use Rattle.jl_json.specs.Members.{text_at}
use Rattle.jl_json.specs.declared.command.Command.{Command}
use Rattle.jl_json.proofs.CommandLaws.{by_parts}
use Rattle.jl_json.proofs.command.read_command.Goals as goal

pub returns : goal.returns
returns c =
    let d = view c.args.value.now in
    let read = by_parts d (as_object d) (text_at (codes "do") d) c.in-Some-Some.count c.in-Some-Some.word.now
    c.in-Some-Some.ensures c.in-Some-Some.ensures' in
    subst (λ (o : Option Command). IfOk c.command_of_word.result (λ command. command ≡ o)) read c.command_of_word.ensures
