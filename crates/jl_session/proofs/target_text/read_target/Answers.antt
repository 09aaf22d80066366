use Rattle.jl_json.specs.Targets.{target_in}
use Rattle.jl_session.proofs.JsonLaws.{read_as}
use Rattle.jl_session.proofs.ScanLaws.{for_ok}
use Rattle.jl_session.proofs.target_text.read_target.Goals as goal

pub returns-in-Some : goal.returns-in-Some
returns-in-Some c =
    for_ok (λ o is. read_as target_in c.args.text.now c.in-Some.value _ o c.in_ok-value.ensures c.in-Some.is is)
    c.target_in.result c.target_in.ensures
