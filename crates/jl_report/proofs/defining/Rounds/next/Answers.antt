use Rattle.std.proofs.Common.{subst}
use Rattle.std.proofs.lemmas.Result.{IfOk-weaker}
use Rattle.jl_report.specs.ForProofs.Waiting.{IsNextInRound}
use Rattle.jl_report.proofs.GatherLaws.{once_more}
use Rattle.jl_report.proofs.defining.Rounds.next.Goals as goal

pub returns-in-Some : goal.returns-in-Some
returns-in-Some c =
    subst (IsNextInRound c.args.classes.now c.args.self.now c.next_in_round.new.self) c.in-Some.is c.in_ok-file.ensures

pub returns-in-None : goal.returns-in-None
returns-in-None c =
    let cs = c.args.classes.now in
    let old = c.args.self.now in
    let between = c.next_in_round.new.self in
    let new = c.next_in_round-in-None.new.self in
    let none = subst (IsNextInRound cs old between) c.in-None.is c.in_ok-file.ensures in
    IfOk-weaker c.next_in_round-in-None.result _ _ (λ file again. once_more cs old between new none file again) c.next_in_round-in-None.ensures
