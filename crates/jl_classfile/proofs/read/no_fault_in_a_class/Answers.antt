use Rattle.jl_classfile.specs.Conditions.{newest_of_17}
use Rattle.jl_classfile.proofs.FaultLaws.{no_fault}
use Rattle.jl_classfile.proofs.read.no_fault_in_a_class.Goals as goal

pub returns : goal.returns
returns c = no_fault newest_of_17
