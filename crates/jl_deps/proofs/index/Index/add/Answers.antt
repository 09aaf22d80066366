use Rattle.std.specs.Prelude.{◌==◌, Option, Some, if◌then◌else◌}
use Rattle.std.proofs.Common.{ap, ◌∙◌}
use Rattle.jl_deps.specs.declared.form.Rests.{Rests}
use Rattle.jl_deps.specs.Indexes.{rests_at}
use Rattle.jl_deps.proofs.ListLaws.{on_ok}
use Rattle.jl_deps.proofs.index.Index.add.Goals as goal

pub returns-clause-ok : goal.returns-clause-ok
returns-clause-ok c =
    on_ok
    (λ puts s.
    puts s
    ∙ ap (λ (o : Option Rests). if c.args.site == s then Some c.args.rests else o) (ap (λ rows. rests_at rows s) c.self.view_is))
    c.put.result c.put.ensures.ok
