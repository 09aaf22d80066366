use Rattle.std.proofs.Common.{◌≡◌, replicate}
use Rattle.jl_slots.proofs.fixed_page.filled.Given as goal

-- so many copies so far
abbrev pub invariant-loop : goal.invariant-loop
invariant-loop g l = l.made.items ≡ replicate l.counter l.fn.element
