use Rattle.std.specs.Prelude.{All, take}
use mathlib.Core.List.{IsPrefix}
use Rattle.jl_cli.proofs.farm.tell_all.Given as goal

-- those so far have learnt it
abbrev pub invariant-loop-worker : goal.invariant-loop-worker
invariant-loop-worker g l = All (IsPrefix l.seen) (take l.worker-index l.workers)
