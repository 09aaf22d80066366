use Rattle.jl_sketch.proofs.SketchNames.{parts_named}
use Rattle.jl_sketch.proofs.laws.numbers_name_their_parts.Goals as goal

pub returns : goal.returns
returns c = parts_named
