use Rattle.std.proofs.Common.{sym}
use Rattle.jl_hierarchy.proofs.KeptLaws.{there_here}
use Rattle.jl_hierarchy.proofs.classes.Classes.lookup.Goals as goal

pub returns-clause-there : goal.returns-clause-there
returns-clause-there c = there_here _ _ _ c.self.invariant.0 c.args.self.now c.self.view_is c.args.loader c.args.name.now c.found.result (sym c.found.ensures)
