use Rattle.std.proofs.Common.{◌∙◌}
use Rattle.jl_hierarchy.proofs.Ancestors.{searched_ancestor}
use Rattle.jl_hierarchy.proofs.classes.Classes.is_ancestor.Goals as goal

pub returns : goal.returns
returns c =
    c.is_ok.ensures.value
    ∙ searched_ancestor c.args.self.now c.ancestors.ensures.ordered c.args.ancestor c.args.class c.binary_search.result
    c.ancestors.result.now c.ancestors.ensures.listed c.binary_search.ensures.position
