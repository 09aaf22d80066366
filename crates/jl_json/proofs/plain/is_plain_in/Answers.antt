use Rattle.jl_json.proofs.PlainLaws.{plain_in_window}
use Rattle.jl_json.proofs.plain.is_plain_in.Goals as goal

pub returns : goal.returns
returns g c = plain_in_window c.args.name.now c.args.at g.row.N c.requires.within c.requires.few
