use Rattle.std.proofs.Common.{refl, inr}
use Rattle.jl_session.proofs.ScanLaws.{refusal_answers, for_ok}
use Rattle.jl_session.proofs.obeying.define_file.Goals as goal

pub returns-in-Err-clause-ok : goal.returns-in-Err-clause-ok
returns-in-Err-clause-ok g c =
    for_ok (λ v said. inr (refl, said)) c.fault_value.result (refusal_answers c.fault_value.result c.args.bytes.now c.in-Err.fault c.in-Err.ensures.fault
    c.fault_value.ensures)
