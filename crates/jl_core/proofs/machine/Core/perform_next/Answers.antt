use Rattle.std.proofs.Common.{arith}
use Rattle.jl_core.proofs.WorkLaws.{most_of_accepted}
use Rattle.jl_core.proofs.machine.Core.perform_next.Goals as goal

pub returns-clause-work : goal.returns-clause-work
returns-clause-work c =
    let bounded = c.in_ok-after.ensures.bounded in
    let same = most_of_accepted c.in_ok-next.next c.in_ok-after.after c.args.event c.in_ok-after.reply c.in_ok-after.ensures.accepted in
    omega arith
