use Rattle.jl_sketch.proofs.SketchShown.{sketch_shown}
use Rattle.jl_sketch.proofs.laws.a_sketch_is_shown.Goals as goal

pub returns : goal.returns
returns c = sketch_shown
