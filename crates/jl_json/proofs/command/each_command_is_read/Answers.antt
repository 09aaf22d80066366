use Rattle.jl_json.proofs.FormLaws.{again}
use Rattle.jl_json.proofs.command.each_command_is_read.Goals as goal

pub returns : goal.returns
returns c = again
