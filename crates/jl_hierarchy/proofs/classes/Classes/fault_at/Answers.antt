use Rattle.std.specs.Prelude.{◌≡◌, nat_le, true, false, length}
use Rattle.std.proofs.Common.{sym, rules}
use Rattle.jl_hierarchy.proofs.FaultLaws.{first_is, parent_is, full_is, accepted_is}
use Rattle.jl_hierarchy.proofs.classes.Classes.fault_at.Goals as goal

pub returns-in-Some-clause-first : goal.returns-in-Some-clause-first
returns-in-Some-clause-first c = first_is c.args.most_classes c.args.self.now c.args.loader c.args.file.now c.in-Some.fault (sym c.in-Some.ensures)

pub returns-in-Some-parent_fault-clause-first : goal.returns-in-Some-parent_fault-clause-first
returns-in-Some-parent_fault-clause-first c =
    parent_is c.args.most_classes c.args.self.now c.args.loader c.args.file.now (sym c.in_default.ensures) c.in-Some-parent_fault.fault
    c.in-Some-parent_fault.ensures.first c.in-Some-parent_fault.ensures.there

pub returns-then-len-most_classes-clause-first : goal.returns-then-len-most_classes-clause-first
returns-then-len-most_classes-clause-first c =
    let full : nat_le c.args.most_classes (length c.args.self.now.rows) ≡ true = search rules in
    full_is c.args.most_classes c.args.self.now c.args.loader c.args.file.now (sym c.in_default.ensures) c.in_default-parent_fault.ensures.first full

pub returns-clause-first : goal.returns-clause-first
returns-clause-first c =
    let few : nat_le c.args.most_classes (length c.args.self.now.rows) ≡ false = search rules in
    accepted_is c.args.most_classes c.args.self.now c.args.loader c.args.file.now (sym c.in_default.ensures) c.in_default-parent_fault.ensures.first few
