use Rattle.std.specs.Prelude.{is_ok}
use Rattle.std.proofs.Common.{ap}
use Rattle.jl_types.specs.declared.event.EventOf.TheVariants as event
use Rattle.jl_types.specs.Events.Verdict.{verdict}
use Rattle.jl_types.specs.Events.History.{dropped}
use Rattle.jl_types.proofs.Places.{accepted_of}
use Rattle.jl_core.specs.State.{events, world_of}
use Rattle.jl_renewal.specs.Renewal.{fresh_rows}
use Rattle.jl_renewal.proofs.ComeOver.{links_are_these, links_are_refilled}
use Rattle.jl_renewal.proofs.MovedBeside.{still_beside, beside_passed, beside_linked}
use Rattle.jl_renewal.proofs.MovedLinks.{links_after, neither_installs, both_install, rows_there, install_accepted}
use Rattle.jl_renewal.proofs.laws.installed_links_stay_beside.Goals as goal

pub returns-clause-first : goal.returns-clause-first
returns-clause-first c old before between fresh entries released n accepted refilled installs =
    links_are_refilled old released accepted before between fresh entries n refilled installs

pub returns-clause-renewed : goal.returns-clause-renewed
returns-clause-renewed c old fresh released limits n accepted renewal = links_are_these old released accepted fresh limits n renewal

pub returns-clause-carried : goal.returns-clause-carried
returns-clause-carried c k old after fresh fresh_after n m e f reply beside same read accepted carries made =
    links_after k old after fresh fresh_after n m beside
    (still_beside k old fresh n beside e f carries
    (ap is_ok (accepted_of (dropped (events old) e) (verdict old.limits (world_of old) e) reply accepted.answered).0)
    after fresh_after m reply read accepted made)
    e f reply made.reply accepted made.accepted (λ s t at. neither_installs n e f carries s t) same

pub returns-clause-rows : goal.returns-clause-rows
returns-clause-rows c k old fresh n rows beside ok = rows_there k old fresh n beside rows ok

pub returns-clause-taken : goal.returns-clause-taken
returns-clause-taken c k old fresh n rows beside ok = install_accepted k old fresh n beside rows ok

pub returns-clause-installed : goal.returns-clause-installed
returns-clause-installed c k old after fresh fresh_after n rows reply there beside same accepted accepted_there =
    links_after k old after fresh fresh_after n n beside
    (beside_linked k after fresh n (beside_passed k old fresh n beside rows after reply accepted)
    (fresh_rows (world_of fresh) n rows) fresh_after there accepted_there)
    (event.Install rows) (event.Install (fresh_rows (world_of fresh) n rows)) reply there accepted accepted_there
    (both_install k old fresh n beside rows
    (ap is_ok (accepted_of (dropped (events old) (event.Install rows)) (verdict old.limits (world_of old) (event.Install rows)) reply accepted.answered).0))
    same
