use Rattle.jl_classfile.proofs.LinkLaws.{extends}
use Rattle.jl_classfile.proofs.read.shown.Goals as goal

pub invariant_of-result : goal.invariant_of-result
invariant_of-result c = extends c.args.pool c.args.body.now _ c.in_ok-names.ensures.superclass c.requires.superclass
