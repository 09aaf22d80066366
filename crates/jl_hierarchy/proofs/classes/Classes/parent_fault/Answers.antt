use Rattle.std.proofs.Common.{sym, ◌∙◌}
use Rattle.jl_hierarchy.proofs.FaultLaws.{none_unfit, missing_is, superclass_is, interface_is, closed_is, open_is}
use Rattle.jl_hierarchy.proofs.classes.Classes.parent_fault.Goals as goal

pub returns-then-not-has_unfit_parent-clause-first : goal.returns-then-not-has_unfit_parent-clause-first
returns-then-not-has_unfit_parent-clause-first c =
    none_unfit c.args.self.now c.args.loader c.args.file.now (sym c.has_unfit_parent.ensures ∙ c.if-not-has_unfit_parent.true)

pub returns-in-Some-clause-first : goal.returns-in-Some-clause-first
returns-in-Some-clause-first c =
    missing_is c.args.self.now c.args.loader c.args.file.now c.in-Some.place (sym c.in-Some.ensures)

pub returns-in-Some-superclass_fault-clause-first : goal.returns-in-Some-superclass_fault-clause-first
returns-in-Some-superclass_fault-clause-first c =
    superclass_is c.args.self.now c.args.loader c.args.file.now (sym c.in_default.ensures) c.in-Some-superclass_fault.fault
    (sym c.in-Some-superclass_fault.ensures)

pub returns-in-Some-no_interface-clause-first : goal.returns-in-Some-no_interface-clause-first
returns-in-Some-no_interface-clause-first c =
    interface_is c.args.self.now c.args.loader c.args.file.now (sym c.in_default.ensures) (sym c.in_default-superclass_fault.ensures)
    c.in-Some-no_interface.place (sym c.in-Some-no_interface.ensures)

pub returns-in-Some-inaccessible_parent-clause-first : goal.returns-in-Some-inaccessible_parent-clause-first
returns-in-Some-inaccessible_parent-clause-first c =
    closed_is c.args.self.now c.args.loader c.args.file.now (sym c.in_default.ensures) (sym c.in_default-superclass_fault.ensures)
    (sym c.in_default-no_interface.ensures) c.in-Some-inaccessible_parent.place (sym c.in-Some-inaccessible_parent.ensures)

pub returns-clause-first : goal.returns-clause-first
returns-clause-first c =
    open_is c.args.self.now c.args.loader c.args.file.now (sym c.in_default.ensures) (sym c.in_default-superclass_fault.ensures)
    (sym c.in_default-no_interface.ensures) (sym c.in_default-inaccessible_parent.ensures)
