use Rattle.std.proofs.Common.{◌-◌, drop, length}
use Rattle.std.specs.List.{flat_map}
use Rattle.jl_report.specs.Made.{is_above, made, made_in_class}
use Rattle.jl_report.proofs.MadeLaws.{Leads}
use Rattle.jl_report.proofs.made.mark_classes.Given as goal

abbrev pub invariant-loop-row : goal.invariant-loop-row
invariant-loop-row l =
    Leads (is_above l.classes) (flat_map (made_in_class l.classes) (drop l.number l.classes.rows)) (made l.classes) l.initial.marks l.marks

abbrev pub decreases-loop-row : goal.decreases-loop-row
decreases-loop-row l = length l.classes.rows - l.number
