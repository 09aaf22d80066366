use Rattle.std.specs.Prelude.{List, ℕ, ◌∷◌, [], ◌++◌}
use Rattle.std.proofs.Common.{ap, ◌∙◌}
use Rattle.jl_types.specs.Values.Members.{recorded}
use Rattle.jl_hierarchy.specs.ForProofs.Kept.{named}
use Rattle.jl_hierarchy.proofs.Records.{new_entry}
use Rattle.jl_hierarchy.proofs.loader.Records.record.Goals as goal

pub returns-clause-ok : goal.returns-clause-ok
returns-clause-ok c =
    ap named c.in_ok-insert.ensures.entries
    ∙ new_entry c.self.inside.records c.args.name c.args.class (ap (recorded c.args.name.items) c.self.view_is ∙ c.requires)
    ∙ ap (λ (rs : List (List ℕ × ℕ)). rs ++ (c.args.name.items, c.args.class) ∷ []) c.self.view_is
