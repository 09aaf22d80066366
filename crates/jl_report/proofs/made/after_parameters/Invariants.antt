use Rattle.std.proofs.Common.{◌≡◌, drop}
use Rattle.std.specs.Prelude.{false}
use Rattle.jl_report.specs.ForProofs.Results.{after_parameters}
use Rattle.jl_report.proofs.made.after_parameters.Given as goal

-- what stands after the parameters from here on is what stands after all
abbrev pub invariant-loop-place : goal.invariant-loop-place
invariant-loop-place l = after_parameters l.in_name (drop l.place l.text) ≡ after_parameters false l.text
