use Rattle.std.specs.Prelude.{◌==◌, Option, None, if◌then◌else◌}
use Rattle.std.proofs.Common.{ap, ◌∙◌}
use Rattle.jl_deps.specs.declared.form.Rests.{Rests}
use Rattle.jl_deps.specs.Indexes.{rests_at}
use Rattle.jl_deps.proofs.index.Index.remove.Goals as goal

pub returns : goal.returns
returns c = λ s.
    c.take.ensures.gone s
    ∙ ap (λ (o : Option Rests). if c.args.site == s then None else o) (ap (λ rows. rests_at rows s) c.self.view_is)
