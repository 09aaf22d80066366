use Rattle.std.proofs.Common.{◌-◌, drop, length}
use Rattle.std.specs.List.{flat_map}
use Rattle.jl_report.specs.Made.{is_above, made_in_method}
use Rattle.jl_report.proofs.MadeLaws.{Leads}
use Rattle.jl_report.proofs.made.mark_methods.Given as goal

abbrev pub invariant-loop-method : goal.invariant-loop-method
invariant-loop-method l =
    Leads (is_above l.classes) (flat_map (made_in_method l.classes) (drop l.place l.methods)) (flat_map (made_in_method l.classes) l.methods)
    l.initial.marks l.marks

abbrev pub decreases-loop-method : goal.decreases-loop-method
decreases-loop-method l = length l.methods - l.place
