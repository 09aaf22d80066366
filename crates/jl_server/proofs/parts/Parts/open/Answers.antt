use Rattle.std.proofs.Common.{ap, ◌∙◌}
use Rattle.jl_core.specs.State.{empty_core}
use Rattle.jl_server.specs.History.{Server}
use Rattle.jl_server.proofs.parts.Parts.open.Goals as goal

pub named-head-requires : goal.named-head-requires
named-head-requires g c = ap (λ (s : Server). s.book) c.self.view_is ∙ c.requires.book

pub first_shown-requires-clause-book : goal.first_shown-requires-clause-book
first_shown-requires-clause-book g c = c.self.invariant.2 ∙ (ap (λ (s : Server). s.book) c.self.view_is ∙ c.requires.book)

pub first_shown-requires-clause-limits : goal.first_shown-requires-clause-limits
first_shown-requires-clause-limits g c = c.self.invariant.3 ∙ (ap (λ (s : Server). s.limits) c.self.view_is ∙ c.requires.limits)

pub new-requires-clause-core : goal.new-requires-clause-core
new-requires-clause-core g c =
    c.self.invariant.0 ∙ ap empty_core (ap (λ (s : Server). s.limits) c.self.view_is ∙ c.requires.limits)
