use Rattle.jl_json.proofs.SketchFormLaws.{sketch_again}
use Rattle.jl_json.proofs.sketch.each_sketch_is_read.Goals as goal

pub returns : goal.returns
returns c = sketch_again
