use Rattle.jl_json.proofs.SketchLaws.{no_other_keys}
use Rattle.jl_json.proofs.sketch.no_other_sketch_keys.Goals as goal

pub returns : goal.returns
returns c = no_other_keys
