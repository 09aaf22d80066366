use Rattle.std.proofs.Common.{◌≡◌, length, map, take, get_or, None}
use Rattle.jl_types.specs.Events.Fast.{fast_answer}
use Rattle.jl_server.proofs.table.Table.answer_all.Given as goal

-- those so far are answered
abbrev pub invariant-loop-place : goal.invariant-loop-place
invariant-loop-place l = record {
  wide : length l.answers ≡ length l.calls;
  done : take l.place l.answers ≡ map (λ call. fast_answer (get_or l.self.links call.0 None) l.self.classes call.1) (take l.place l.calls);
}
