use Rattle.std.specs.Prelude.{◌≡◌, is_none}
use Rattle.std.proofs.Common.{◌∙◌, rules}
use Rattle.jl_hierarchy.proofs.FaultLaws.{none_where}
use Rattle.jl_hierarchy.proofs.classes.Classes.admits.Goals as goal

pub returns : goal.returns
returns c =
    let is : c.is_none.result ≡ is_none c.fault_at.result = search rules in
    is ∙ none_where c.args.most_classes c.args.self.now c.args.loader c.args.file.now c.fault_at.result c.fault_at.ensures.first c.fault_at.ensures.there
