use Rattle.std.proofs.Common.{◌∙◌, sym, subst}
use Rattle.jl_report.specs.ForProofs.Waiting.{AreRefused, IsNext, queue}
use Rattle.jl_report.proofs.GatherLaws.{one_fewer}
use Rattle.jl_listing.proofs.breaks.add_further.Goals as goal

pub loop-rounds-smaller : goal.loop-rounds-smaller
loop-rounds-smaller g c =
    let cs = c.classes.result.now in
    let old = c.loop-rounds.rounds in
    let new = c.next.new.self in
    one_fewer cs (queue old) (queue new) c.in-Some.file (subst (IsNext cs old new) c.in-Some.is c.in_ok-file.ensures)

pub refusals-requires : goal.refusals-requires
refusals-requires g c =
    let new = c.next.new.self in
    subst (λ cs. AreRefused cs new) (c.classes.ensures ∙ sym c.classes-2.ensures)
    (subst (IsNext c.classes.result.now c.loop-rounds.rounds new) c.in_default.is c.in_ok-file.ensures).1
