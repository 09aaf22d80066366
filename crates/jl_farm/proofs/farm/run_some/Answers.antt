use Rattle.std.proofs.Common.{◌∙◌, ℕ, List, All, ap, subst}
use Rattle.std.specs.List.{range_with_len}
use Rattle.jl_farm.specs.Reports.{IsReport, AreOfSameSites}
use Rattle.jl_farm.proofs.farm.run_some.Goals as goal

pub returns-clause-jobs : goal.returns-clause-jobs
returns-clause-jobs g c = c.in_ok-reports.ensures.jobs ∙ ap (range_with_len 0) c.as_slice-all.ensures.len

pub returns-clause-shown : goal.returns-clause-shown
returns-clause-shown g c =
    subst (λ (js : List (List ℕ)). All (IsReport {K = g.row.K.Denot} g.K.Name.limits c.args.workers.items js) c.in_ok-reports.reports.items)
    c.as_slice-all.ensures.value c.in_ok-reports.ensures.shown

pub returns-clause-sites : goal.returns-clause-sites
returns-clause-sites g c =
    subst (λ (js : List (List ℕ)). AreOfSameSites {K = g.row.K.Denot} js c.in_ok-reports.reports.items) c.as_slice-all.ensures.value
    c.in_ok-reports.ensures.sites
