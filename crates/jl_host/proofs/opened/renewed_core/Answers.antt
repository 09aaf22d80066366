use Rattle.std.specs.Prelude.{IfOk, IfErr}
use Rattle.std.proofs.Common.{subst}
use Rattle.std.proofs.lemmas.Result.{IfErr-weaker}
use Rattle.jl_types.specs.declared.limits.Limits.{Limits}
use Rattle.jl_core.specs.State.{world_of}
use Rattle.jl_renewal.specs.Renewal.{IsRenewal, IsRefusedRenewal}
use Rattle.jl_host.specs.Renewals.{IsShort}
use Rattle.jl_host.proofs.ShortLaws.{accepted_of_core, short_of_sites}
use Rattle.jl_host.proofs.opened.renewed_core.Goals as goal

pub returns-clause-renewal : goal.returns-clause-renewal
returns-clause-renewal c =
    subst (λ (l : Limits). IfOk c.renew.result (IsRenewal c.args.core.now c.args.released.now l)) c.limits_for-limits.ensures.limits c.renew.ensures.renewal

pub returns-clause-refused : goal.returns-clause-refused
returns-clause-refused c =
    let core = c.args.core.now in
    let released = c.args.released.now in
    let only =
    c.only_sites_can_be_short.ensures core released c.args.max_sites c.limits_for-limits.ensures.before
    (accepted_of_core core c.log-accepted.ensures.answered c.log-accepted.ensures.files) in
    let refused =
    subst (λ (l : Limits). IfErr c.renew.result (IsRefusedRenewal l (world_of core) released)) c.limits_for-limits.ensures.limits c.renew.ensures.refused in
    IfErr-weaker c.renew.result (IsRefusedRenewal _ (world_of core) released) (IsShort c.args.max_sites core)
    (λ r is. short_of_sites core released c.args.max_sites only r is) refused
