use Rattle.std.proofs.Common.{sym, subst}
use Rattle.jl_report.specs.ForProofs.Waiting.{AreStuck}
use Rattle.jl_report.proofs.GatherLaws.{AreToldOf, is_stuck, one_told}
use Rattle.jl_report.proofs.defining.Rounds.refusals.Goals as goal

pub refusal-requires : goal.refusal-requires
refusal-requires c =
    is_stuck c.args.classes.now c.pop.new.self.items c.in-Some.one
    (subst (AreStuck c.args.classes.now) c.in-Some.ensures.items c.loop-one.invariant.stuck)

pub loop-one-preserved : goal.loop-one-preserved
loop-one-preserved c =
    let cs = c.args.classes.now in
    let before = c.args.self.waiting.items in
    let left = c.pop.new.self.items in
    let refused = c.loop-one.refused.items in
    subst (AreToldOf cs before left) (sym c.in_ok-push.ensures.items)
    (one_told cs before left c.in-Some.one refused c.refusal.result
    (subst (λ waiting. AreToldOf cs before waiting refused) c.in-Some.ensures.items c.loop-one.invariant)
    c.refusal.ensures.place c.refusal.ensures.fault)

pub returns-clause-refused : goal.returns-clause-refused
returns-clause-refused c = λ files of. (c.loop-one.invariant.told files of).1
