use Rattle.std.specs.List.{list_all}
use Rattle.std.proofs.Common.{ap, sym, subst, ◌∙◌}
use Rattle.jl_relink.specs.Laws.{has_read_file}
use Rattle.jl_core.specs.State.{State, events, AreAnswered}
use Rattle.jl_core.specs.Logs.{AreToldThen}
use Rattle.jl_core.proofs.instance.Instance.log.Goals as goal

pub returns-clause-answered : goal.returns-clause-answered
returns-clause-answered c = subst AreAnswered c.self.view_is c.self.invariant.5

pub returns-clause-told_then : goal.returns-clause-told_then
returns-clause-told_then c =
    subst (λ (core : State). AreToldThen core c.self.inside.log) c.self.view_is c.self.invariant.7

pub returns-clause-files : goal.returns-clause-files
returns-clause-files c = ap (λ (core : State). list_all has_read_file (events core)) (sym c.self.view_is) ∙ c.self.invariant.8
