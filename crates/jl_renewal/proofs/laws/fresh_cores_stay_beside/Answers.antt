use Rattle.std.specs.Prelude.{◌≡◌, true, is_ok, is_some}
use Rattle.std.proofs.Common.{ap, subst, sym}
use Rattle.jl_types.specs.Events.Limits.{AreNoFewer}
use Rattle.jl_types.specs.Events.Verdict.{verdict}
use Rattle.jl_types.specs.Events.History.{dropped}
use Rattle.jl_types.proofs.Places.{accepted_of}
use Rattle.jl_core.specs.State.{events, world_of}
use Rattle.jl_renewal.proofs.MovedBeside.{beside_first, taken, still_beside, beside_passed, beside_linked}
use Rattle.jl_renewal.specs.Numbers.{Numbers}
use Rattle.jl_renewal.specs.Carries.{carried}
use Rattle.jl_renewal.proofs.MovedGone.{is_there}
use Rattle.jl_renewal.proofs.laws.fresh_cores_stay_beside.Goals as goal

pub returns-clause-first : goal.returns-clause-first
returns-clause-first c old before fresh entries released n accepted limit refilled =
    beside_first old fresh released n accepted limit refilled.world refilled.numbers

pub returns-clause-renewed : goal.returns-clause-renewed
returns-clause-renewed c old fresh released limits n accepted limit renewal =
    beside_first old fresh released n accepted (subst (AreNoFewer old.limits) (sym renewal.limit) limit) renewal.world renewal.numbers

pub returns-clause-taken : goal.returns-clause-taken
returns-clause-taken c k old fresh n e f beside ok carries = taken k old fresh n beside e f carries ok

pub returns-clause-there : goal.returns-clause-there
returns-clause-there c k old fresh n e beside ok named =
    subst (λ (m : Numbers). is_some (carried m e) ≡ true) (sym beside.numbers) (is_there k (world_of old) beside.rests old.limits e ok named)

pub returns-clause-beside : goal.returns-clause-beside
returns-clause-beside c k old after fresh fresh_after n m e f reply beside read accepted carries made =
    still_beside k old fresh n beside e f carries
    (ap is_ok (accepted_of (dropped (events old) e) (verdict old.limits (world_of old) e) reply accepted.answered).0)
    after fresh_after m reply read accepted made

pub returns-clause-passed : goal.returns-clause-passed
returns-clause-passed c k old after fresh n rows reply beside accepted = beside_passed k old fresh n beside rows after reply accepted

pub returns-clause-linked : goal.returns-clause-linked
returns-clause-linked c k old fresh fresh_after n rows reply beside accepted = beside_linked k old fresh n beside rows fresh_after reply accepted
