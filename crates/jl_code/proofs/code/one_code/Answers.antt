use Rattle.jl_code.proofs.CodeFaultLaws.{one_code}
use Rattle.jl_code.proofs.code.one_code.Goals as goal

pub returns : goal.returns
returns c = one_code
