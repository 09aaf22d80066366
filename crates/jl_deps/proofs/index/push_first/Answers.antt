use Rattle.std.proofs.Common.{ap, sym, ◌∙◌}
use Rattle.jl_hierarchy.proofs.Rising.{has}
use Rattle.jl_deps.proofs.AskedLaws.{first_there, first_touched}
use Rattle.jl_deps.proofs.index.push_first.Goals as goal

pub returns-clause-touched : goal.returns-clause-touched
returns-clause-touched c = λ s h.
    first_touched c.args.sites.now.items c.args.listed.now c.first-item.result s
    (first_there c.first-item.result c.args.listed.now c.in-true-len1-up.len_at_least c.first-item.is)
    (ap (has s) (sym c.in_ok-push.ensures.items) ∙ h)
