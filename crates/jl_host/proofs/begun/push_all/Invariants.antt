use Rattle.std.proofs.Common.{◌≡◌, ◌≤◌, ◌++◌, ◌+◌, length}
use Rattle.std.specs.Vec.{vec_len, vec_capacity}
use Rattle.jl_host.proofs.begun.push_all.Given as goal

-- those so far stand at the end, and there is room for the others
abbrev pub invariant-loop-item : goal.invariant-loop-item
invariant-loop-item g l = record {
  items : l.list.items ≡ l.fn.list.items ++ l.yielded;
  room : vec_len l.list + length l.fn.more.items ≤ length l.yielded + vec_capacity l.list;
}
