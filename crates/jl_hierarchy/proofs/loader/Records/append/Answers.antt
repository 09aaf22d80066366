use Rattle.std.specs.Prelude.{true, ◌≡◌, ◌++◌}
use Rattle.std.proofs.Common.{ap, ◌∙◌}
use Rattle.std.proofs.lemmas.Result.{on_ok_weaker}
use Rattle.jl_hierarchy.specs.ForProofs.Kept.{named, are_new}
use Rattle.jl_hierarchy.proofs.Recents.{named_after}
use Rattle.jl_hierarchy.proofs.loader.Records.append.Goals as goal

pub returns-clause-ok : goal.returns-clause-ok
returns-clause-ok c =
    let older = c.self.inside.records.entries in
    let recent = c.other.inside.records.entries in
    let new : are_new (named older) (named recent) ≡ true = (λ i. are_new (c.self.view_is i) (c.other.view_is i)) ∙ c.requires in
    on_ok_weaker c.append.result
    (λ is. ap named is ∙ named_after older recent new ∙ (λ i. c.self.view_is i ++ c.other.view_is i)) c.append.ensures.entries
