use Rattle.jl_names.proofs.MethodLaws.{method_one}
use Rattle.jl_names.proofs.method_type.one_method_type.Goals as goal

pub returns : goal.returns
returns c = method_one
