use Rattle.std.proofs.Common.{subst}
use Rattle.jl_core.specs.State.{IsApplied}
use Rattle.jl_session.specs.Sessions.{Session}
use Rattle.jl_session.proofs.LackLaws.{applied_by}
use Rattle.jl_session.proofs.session.Session.submit.Goals as goal

pub returns-clause-applied : goal.returns-clause-applied
returns-clause-applied c =
    subst (λ (old : Session). IsApplied old.core c.args.event c.apply.result c.apply.new.self) c.self.view_is
    (applied_by c.self.inside.core c.apply.new.self c.args.event c.apply.result c.apply.ensures.accepted c.apply.ensures.refused
    c.apply.ensures.unchanged)
