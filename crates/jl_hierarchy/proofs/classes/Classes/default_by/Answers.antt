use Rattle.std.proofs.Common.{sym}
use Rattle.jl_hierarchy.proofs.DefaultLaws.{defaults_are}
use Rattle.jl_hierarchy.proofs.classes.Classes.default_by.Goals as goal

pub loop-ancestor-init : goal.loop-ancestor-init
loop-ancestor-init c = sym (defaults_are c.args.self.now c.args.sought.now.name c.args.sought.now.ty c.args.class)
