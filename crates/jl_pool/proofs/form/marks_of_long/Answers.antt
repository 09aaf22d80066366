use Rattle.std.proofs.Common.{arith, ap₂, ◌∙◌}
use Rattle.jl_pool.specs.ForProofs.Marks.{either}
use Rattle.jl_pool.proofs.LaneLaws.{window_more, last_window}
use Rattle.jl_pool.proofs.form.marks_of_long.Goals as goal

pub loop-at-preserved : goal.loop-at-preserved
loop-at-preserved c = (
  omega arith,
  c.or-seen.ensures ∙ ap₂ either c.loop-at.invariant.1 c.marks_in.ensures
      ∙ window_more c.loop-at.at 16 _ c.args.text.now (omega arith),
)

pub returns : goal.returns
returns c =
    c.or.ensures ∙ ap₂ either c.loop-at.invariant.1 c.marks_in-2.ensures
    ∙ last_window _ c.loop-at.at 16 c.args.text.now (omega arith) (omega arith)
