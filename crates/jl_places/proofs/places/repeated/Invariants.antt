use Rattle.std.proofs.Common.{◌≡◌, replicate}
use Rattle.jl_places.proofs.places.repeated.Given as goal

-- so many copies so far
abbrev pub invariant-loop : goal.invariant-loop
invariant-loop l = l.made.items ≡ replicate l.counter l.part
