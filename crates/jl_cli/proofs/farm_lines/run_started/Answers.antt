use Rattle.std.proofs.Common.{◌∙◌, sym}
use Rattle.jl_cli.proofs.FarmEnds.{last_same}
use Rattle.jl_cli.proofs.farm_lines.run_started.Goals as goal

-- a caller of a new server has seen nothing
pub run_on-requires-clause-fresh : goal.run_on-requires-clause-fresh
run_on-requires-clause-fresh g c = λ κs lives.
    last_same c.args.parts.callers c.pop.new.self.items c.in-Some.caller (sym c.in-Ok.ensures ∙ c.in-Some.ensures.items)
