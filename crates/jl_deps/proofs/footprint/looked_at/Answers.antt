use Rattle.std.proofs.Common.{sym, ◌∙◌}
use Rattle.jl_deps.proofs.StageLaws.{none_of_special, none_of_static, none_of_dynamic}
use Rattle.jl_deps.proofs.footprint.looked_at.Goals as goal

pub returns-in-Special : goal.returns-in-Special
returns-in-Special c = rw c.in-Special.is (none_of_special c.args.classes.now c.args.caller c.args.reference.now _ ∙ sym c.nothing.ensures)

pub returns-in-Static : goal.returns-in-Static
returns-in-Static c = rw c.in-Static.is (none_of_static c.args.classes.now c.args.caller c.args.reference.now _ ∙ sym c.nothing-in-Static.ensures)

pub returns-in-Dynamic : goal.returns-in-Dynamic
returns-in-Dynamic c = rw c.in-Dynamic.is (none_of_dynamic c.args.classes.now c.args.caller c.args.reference.now _ ∙ sym c.nothing-in-Dynamic.ensures)
