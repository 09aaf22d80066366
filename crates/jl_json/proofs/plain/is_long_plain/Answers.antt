use Rattle.std.proofs.Common.{arith, ap₂, ◌∙◌, ◌&&◌}
use Rattle.jl_json.proofs.PlainLaws.{window_more, last_window}
use Rattle.jl_json.proofs.plain.is_long_plain.Goals as goal

pub loop-at-preserved : goal.loop-at-preserved
loop-at-preserved c = (
  omega arith,
  ap₂ (λ a b. a && b) c.loop-at.invariant.1 c.is_plain_in-plain-in-loop-at.ensures
      ∙ window_more c.loop-at.at 16 _ c.args.name.now (omega arith),
)

pub returns : goal.returns
returns c =
    ap₂ (λ a b. a && b) c.loop-at.invariant.1 c.is_plain_in.ensures
    ∙ last_window _ c.loop-at.at 16 c.args.name.now (omega arith) (omega arith)
