use Rattle.jl_farm.proofs.Outcomes.{accepted_prepared, installed, not_installed, refusal_seen}
use Rattle.jl_farm.proofs.shared.Shared.install.Goals as goal

pub apply_judged-requires : goal.apply_judged-requires
apply_judged-requires g c = accepted_prepared g.K.Name.limits _ _ _ _ c.requires.prepared.0 c.requires.batch c.requires.rows

pub returns-in-Ok-clause-shown : goal.returns-in-Ok-clause-shown
returns-in-Ok-clause-shown g c = installed _ _ _ _ _ _ c.requires.rows c.in-Ok.ensures.receipt c.in-Ok.ensures.own c.in-Ok.ensures.legal c.in-Ok.ensures.longer
    c.in-Ok.ensures.entry

pub returns-in-Err-clause-shown : goal.returns-in-Err-clause-shown
returns-in-Err-clause-shown g c =
    not_installed _ _ _ _ _ _ _ _ _ c.refused.ensures c.requires.prepared.0 c.in-Err.ensures.denied c.requires.rows c.requires.prepared.1 c.in-Err.ensures.own
    c.in-Err.ensures.legal c.in-Err.ensures.refused

pub returns-in-Err-clause-seen : goal.returns-in-Err-clause-seen
returns-in-Err-clause-seen g c = refusal_seen _ _ _ _ _ c.refused.ensures c.in-Err.ensures.denied
