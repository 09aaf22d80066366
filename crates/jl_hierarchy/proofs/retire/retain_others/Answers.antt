use Rattle.std.proofs.Common.{rules}
use Rattle.std.proofs.lemmas.Fn.{filter_same}
use Rattle.jl_hierarchy.proofs.retire.retain_others.Goals as goal

pub returns : goal.returns
returns c = filter_same _ _ _ (λ x b k r. search rules) _ _ c.retain.ensures.filtered
