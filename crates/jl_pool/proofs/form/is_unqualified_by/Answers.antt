use Rattle.jl_pool.proofs.MarkLaws.{unqualified_by_marks}
use Rattle.jl_pool.proofs.form.is_unqualified_by.Goals as goal

pub returns : goal.returns
returns c = rw (c.requires, c.is_empty.ensures) (unqualified_by_marks c.args.text.now)
