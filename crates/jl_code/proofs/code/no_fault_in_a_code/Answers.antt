use Rattle.jl_code.proofs.CodeFaultLaws.{no_scan}
use Rattle.jl_code.proofs.code.no_fault_in_a_code.Goals as goal

pub returns : goal.returns
returns c = no_scan
