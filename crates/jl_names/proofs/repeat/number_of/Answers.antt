use Rattle.jl_names.proofs.repeat.number_of.Goals as goal

pub returns-clause-updates : goal.returns-clause-updates
returns-clause-updates c = λ q. c.in_ok-insert.ensures.updates.0 (record c.args.text { now = q })
