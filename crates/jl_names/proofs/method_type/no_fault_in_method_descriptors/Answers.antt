use Rattle.jl_names.proofs.MethodLaws.{method_no_fault}
use Rattle.jl_names.proofs.method_type.no_fault_in_method_descriptors.Goals as goal

pub returns : goal.returns
returns c = method_no_fault
