use Rattle.std.proofs.Common.{sym, ap}
use Rattle.jl_types.specs.Linkage.Resolution.{first_element}
use Rattle.jl_hierarchy.proofs.DefaultLaws.{candidates_are}
use Rattle.jl_hierarchy.proofs.classes.Classes.first_candidate_by.Goals as goal

pub loop-ancestor-init : goal.loop-ancestor-init
loop-ancestor-init c = ap first_element (sym (candidates_are c.args.self.now c.args.sought.now.name c.args.sought.now.ty c.args.class))
