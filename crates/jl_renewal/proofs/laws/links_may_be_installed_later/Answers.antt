use Rattle.std.specs.Prelude.{is_ok}
use Rattle.std.proofs.Common.{ap}
use Rattle.jl_types.specs.Events.Verdict.{verdict}
use Rattle.jl_types.specs.Events.History.{dropped}
use Rattle.jl_types.proofs.Places.{accepted_of}
use Rattle.jl_core.specs.State.{events, world_of}
use Rattle.jl_renewal.proofs.MovedBeside.{still_beside}
use Rattle.jl_renewal.proofs.MovedLinks.{no_others_after, neither_installs}
use Rattle.jl_renewal.proofs.MovedLater.{none_refilled, no_others_passed, front_installed, all_installed}
use Rattle.jl_renewal.proofs.laws.links_may_be_installed_later.Goals as goal

pub returns-clause-first : goal.returns-clause-first
returns-clause-first c old before fresh entries released n refilled k l has = none_refilled (world_of old) entries released n before fresh refilled k l has

pub returns-clause-carried : goal.returns-clause-carried
returns-clause-carried c k old after fresh fresh_after n m e f reply beside only read accepted carries made =
    no_others_after k old after fresh fresh_after n m beside
    (still_beside k old fresh n beside e f carries
    (ap is_ok (accepted_of (dropped (events old) e) (verdict old.limits (world_of old) e) reply accepted.answered).0)
    after fresh_after m reply read accepted made)
    e f reply made.reply accepted made.accepted (λ s t at. neither_installs n e f carries s t) only

pub returns-clause-passed : goal.returns-clause-passed
returns-clause-passed c k old after fresh n rows reply beside only accepted = no_others_passed k old after fresh n rows reply beside only accepted

pub returns-clause-front : goal.returns-clause-front
returns-clause-front c k old between fresh n left beside only front = front_installed k old between fresh n beside only left front

pub returns-clause-all : goal.returns-clause-all
returns-clause-all c k old between fresh n beside only all = all_installed k old between fresh n beside only all
