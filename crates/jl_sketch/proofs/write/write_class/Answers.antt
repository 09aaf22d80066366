use Rattle.std.proofs.Common.{List, ℕ, subst}
use Rattle.jl_classfile.specs.ClassFiles.{IsClass}
use Rattle.jl_sketch.proofs.SketchShown.{written_shown}
use Rattle.jl_sketch.proofs.write.write_class.Goals as goal

pub returns-in-Ok-clause-shown : goal.returns-in-Ok-clause-shown
returns-in-Ok-clause-shown c =
    let bytes : List ℕ = c.in_ok-bytes.bytes.items in
    let read = c.in-Ok.ensures.ok in
    let class = subst (λ (text : List ℕ). IsClass text read.0) c.deref.ensures.value read.1 in
    (read.0, class, written_shown c.args.sketch.now bytes read.0 c.in_ok-bytes.ensures.flags c.in_ok-bytes.ensures.ok class)
