use Rattle.std.proofs.Common.{arith, ap₂, ◌∙◌}
use Rattle.jl_pool.specs.ForProofs.Marks.{either}
use Rattle.jl_pool.proofs.LaneLaws.{last_window}
use Rattle.jl_pool.proofs.form.marks_of_ends.Goals as goal

pub returns : goal.returns
returns g c =
    c.or.ensures ∙ ap₂ either c.marks_in.ensures c.marks_in-2.ensures
    ∙ last_window _ g.row.N g.row.N c.args.text.now (omega arith) (omega arith)
