use Rattle.std.proofs.Common.{◌≡◌, map, take}
use Rattle.serde_json.specs.View.{view}
use Rattle.jl_cli.specs.Farms.{report_data}
use Rattle.jl_cli.proofs.farm.reports_value.Given as goal

abbrev pub invariant-loop-report : goal.invariant-loop-report
invariant-loop-report g l = map view l.names.items ≡ map report_data (take l.report-index l.reports)
