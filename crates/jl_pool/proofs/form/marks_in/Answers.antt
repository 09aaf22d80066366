use Rattle.jl_pool.proofs.LaneLaws.{marks_in_window}
use Rattle.jl_pool.proofs.form.marks_in.Goals as goal

pub returns : goal.returns
returns g c = marks_in_window c.args.text.now c.args.at g.row.N c.requires.within c.requires.few
