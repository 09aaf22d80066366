use Rattle.jl_sketch.proofs.SketchLies.{layout_is}
use Rattle.jl_sketch.proofs.laws.one_layout_of_a_sketch.Goals as goal

pub returns : goal.returns
returns c = layout_is
