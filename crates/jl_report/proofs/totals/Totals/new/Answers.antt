use Rattle.jl_report.specs.Totals.{column}
use Rattle.jl_report.proofs.TotalLaws.{zeros}
use Rattle.jl_report.proofs.totals.Totals.new.Goals as goal

pub returns : goal.returns
returns c = λ kind shape. zeros 40 (column kind shape)
