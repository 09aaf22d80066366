use Rattle.jl_host.proofs.UnderWayTaken.{begun_under_way, later_under_way, taken_under_way}
use Rattle.jl_host.proofs.UnderWayUnmade.{why_unready}
use Rattle.jl_host.proofs.UnderWayFilled.{filled_under_way}
use Rattle.jl_host.proofs.UnderWayWhy.{why_answered}
use Rattle.jl_host.proofs.UnderWayEnded.{kept_under_way, handed_over}
use Rattle.jl_host.proofs.laws.renewals_in_steps_stay_beside.Goals as goal

pub returns-clause-begun : goal.returns-clause-begun
returns-clause-begun c = begun_under_way

pub returns-clause-later : goal.returns-clause-later
returns-clause-later c begun core after released renewing e reply way accepted read =
    later_under_way begun released core after e reply renewing way accepted read

pub returns-clause-taken : goal.returns-clause-taken
returns-clause-taken c begun core released old new most way taking = taken_under_way begun released core most old new way taking

pub returns-clause-filled : goal.returns-clause-filled
returns-clause-filled c begun core released old new status told = filled_under_way begun released core old new status told

pub returns-clause-why : goal.returns-clause-why
returns-clause-why c begun core released old new status told = why_answered begun released core old new status told

pub returns-clause-unready : goal.returns-clause-unready
returns-clause-unready c begun core released renewing r way unready = why_unready begun released core renewing r way unready

pub returns-clause-kept : goal.returns-clause-kept
returns-clause-kept c begun core released old new before after status told fresh way finished =
    kept_under_way begun released core old way before after status told new fresh finished

pub returns-clause-handed_over : goal.returns-clause-handed_over
returns-clause-handed_over c begun core released old before after status told new opened way few finished =
    handed_over begun released core old way before after status told new opened few finished
