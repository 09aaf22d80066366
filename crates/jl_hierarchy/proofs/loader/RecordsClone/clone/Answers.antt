use Rattle.std.proofs.Common.{◌∙◌}
use Rattle.jl_hierarchy.proofs.Records.{named_same}
use Rattle.jl_hierarchy.proofs.loader.RecordsClone.clone.Goals as goal

pub returns : goal.returns
returns c = record { cases = named_same c.self.inside.records.entries c.in_ok-clone.field-0.entries c.in_ok-clone.ensures.cases ∙ c.self.view_is }
