use Rattle.std.proofs.Common.{length, reverse}
use Rattle.std.specs.List.{range_with_len}
use Rattle.jl_report.specs.ForProofs.Waiting.{AreOf, places, queue}
use Rattle.jl_report.proofs.GatherLaws.{Leads}
use Rattle.jl_report.proofs.defining.define_all.Given as goal

abbrev pub invariant-loop-rounds : goal.invariant-loop-rounds
invariant-loop-rounds l = record {
  leads : Leads l.fn.files.items l.initial.classes (reverse (range_with_len 0 (length l.fn.files.items))) l.classes (places (queue l.rounds));
  of : AreOf l.fn.files.items (queue l.rounds);
}

abbrev pub decreases-loop-rounds : goal.decreases-loop-rounds
decreases-loop-rounds l = length (queue l.rounds)
