use Rattle.std.proofs.Common.{rules, IfErr}
use Rattle.jl_renewal.specs.declared.entries.CarryFault.TheVariants.{Gone}
use Rattle.jl_renewal.specs.Carries.{IsUncarried}
use Rattle.jl_renewal.proofs.MovedFaults.{fault_beside, faults_beside}
use Rattle.jl_renewal.proofs.entries.carry.Goals as goal

pub returns-in-Ok-Some-clause-beside : goal.returns-in-Ok-Some-clause-beside
returns-in-Ok-Some-clause-beside g c k before e beside named ok =
    let fresh = g.M.EventMachine.state c.args.fresh.now in
    let uncarried : IfErr c.accept_or_fault.result (IsUncarried c.args.old.now c.args.entry.now c.args.numbers.now fresh) = search rules in
    faults_beside k before fresh c.args.numbers.now beside c.args.old.now c.args.entry.now e named ok c.accept_or_fault.result uncarried

pub returns-in-Ok-clause-beside : goal.returns-in-Ok-clause-beside
returns-in-Ok-clause-beside g c k before e beside named ok =
    let fresh = g.M.EventMachine.state c.args.fresh.now in
    let uncarried : IsUncarried c.args.old.now c.args.entry.now c.args.numbers.now fresh Gone = search rules in
    fault_beside k before fresh c.args.numbers.now beside c.args.old.now c.args.entry.now e named ok Gone uncarried
