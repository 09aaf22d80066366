use Rattle.std.proofs.Common.{ap, refl}
use Rattle.jl_farm.specs.declared.job_queue.PassView.{PassView}
use Rattle.jl_farm.proofs.Installs.{taken_one}
use Rattle.jl_farm.proofs.Shifts.{reported_both}
use Rattle.jl_farm.proofs.crew.take_in.Goals as goal

pub returns-clause-lead : goal.returns-clause-lead
returns-clause-lead g c =
    reported_both _ _ _ _ _ _ c.requires.lead c.requires.other c.in_ok-append.ensures.items (ap (λ (v : PassView). v.taken) c.take_over.ensures.both) refl

pub returns-clause-taken : goal.returns-clause-taken
returns-clause-taken g c = taken_one c.args.lead.now c.args.other _ c.requires.one c.in_ok-append.ensures.items refl
