use Rattle.jl_memo.proofs.Rows.{put_is_there, others_were_there}
use Rattle.jl_memo.proofs.laws.what_is_put_is_remembered.Goals as goal

pub returns-clause-there : goal.returns-clause-there
returns-clause-there c = put_is_there

pub returns-clause-others : goal.returns-clause-others
returns-clause-others c = others_were_there
