use Rattle.std.proofs.Common.{◌∙◌, ap}
use Rattle.std.specs.Prelude.{Bool, ◌&&◌, option_and_then}
use Rattle.jl_types.specs.Values.Members.{lookup}
use Rattle.jl_report.specs.Made.{named_result, names_interface}
use Rattle.jl_report.specs.ForProofs.Results.{result_class}
use Rattle.jl_report.proofs.MadeLaws.{result_is, marks_tell}
use Rattle.jl_report.proofs.laws.made_objects_are_marked.Goals as goal

pub returns-clause-results : goal.returns-clause-results
returns-clause-results c = λ cs site specifier m is signature text.
    ap (option_and_then (lookup cs 0)) (ap named_result is ∙ ap result_class text ∙ result_is m signature)

pub returns-clause-marks : goal.returns-clause-marks
returns-clause-marks c = λ cs row. ap (λ (b : Bool). names_interface row.kind && b) (marks_tell cs row.rests_on)
