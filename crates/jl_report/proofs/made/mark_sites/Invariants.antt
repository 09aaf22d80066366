use Rattle.std.proofs.Common.{◌-◌, drop, length}
use Rattle.std.specs.Prelude.{filter_map}
use Rattle.jl_report.specs.Made.{is_above, made_by}
use Rattle.jl_report.proofs.MadeLaws.{Leads}
use Rattle.jl_report.proofs.made.mark_sites.Given as goal

abbrev pub invariant-loop-site : goal.invariant-loop-site
invariant-loop-site l =
    Leads (is_above l.classes) (filter_map (made_by l.classes) (drop l.place l.sites)) (filter_map (made_by l.classes) l.sites) l.initial.marks l.marks

abbrev pub decreases-loop-site : goal.decreases-loop-site
decreases-loop-site l = length l.sites - l.place
