use Rattle.jl_classfile.specs.Conditions.{newest_of_17}
use Rattle.jl_classfile.proofs.ClassLaws.{one_class}
use Rattle.jl_classfile.proofs.read.one_class.Goals as goal

pub returns : goal.returns
returns c = one_class newest_of_17 newest_of_17
