use Rattle.std.proofs.Common.{◌≡◌, [], drop, replicate}
use Rattle.left_right.specs.Sides.{view as seat_view}
use Rattle.jl_server.proofs.parts.make_callers.Given as goal

-- the writer shows what it showed, and knows what it knew
abbrev pub invariant-loop : goal.invariant-loop
invariant-loop g l =
    (l.writer.desk.shown ≡ l.fn.writer.desk.shown)
    × (drop l.writer.behind l.writer.log.items ≡ drop l.fn.writer.behind l.fn.writer.log.items)
    × (seat_view l.writer.desk.place ≡ seat_view l.fn.writer.desk.place)
    × (l.made.items ≡ replicate l.counter [])
