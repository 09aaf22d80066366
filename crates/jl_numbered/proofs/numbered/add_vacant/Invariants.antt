use Rattle.std.proofs.Common.{◌≡◌, ◌≤◌, ◌+◌, ◌-◌, ◌++◌, None, replicate}
use Rattle.jl_numbered.proofs.numbered.add_vacant.Given as goal

abbrev pub invariant-loop : goal.invariant-loop
invariant-loop g l = record {
  pushed : l.slots.items ≡ l.fn.slots.items ++ replicate l.counter None;
  room : l.slots.len + (l.more - l.counter) ≤ l.slots.cap;
}
