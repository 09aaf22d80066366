use Rattle.std.proofs.Common.{take, ◌==◌}
use Rattle.jl_host.proofs.BehindLaws.{IsWritten}
use Rattle.jl_host.proofs.behind.write_rows.Given as goal

abbrev pub invariant-loop-row : goal.invariant-loop-row
invariant-loop-row g l = IsWritten l.core (λ s row. row.0 == s) (take l.row-index l.rows) l.fn.links.value l.links.value
