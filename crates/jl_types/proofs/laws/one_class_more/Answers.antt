use Rattle.jl_types.specs.Events.Definitions.{class_made}
use Rattle.jl_types.proofs.Grown.{old_ancestors, receivers_after}
use Rattle.jl_types.proofs.laws.one_class_more.Goals as goal

pub returns-clause-ancestors : goal.returns-clause-ancestors
returns-clause-ancestors _ = λ cs o loader file c lt. old_ancestors cs.rows o (class_made cs loader file) c lt

pub returns-clause-receivers : goal.returns-clause-receivers
returns-clause-receivers _ = receivers_after
