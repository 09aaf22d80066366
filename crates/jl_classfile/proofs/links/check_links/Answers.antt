use Rattle.std.proofs.Common.{◌∙◌, sym, subst}
use Rattle.std.proofs.lemmas.Result.{err_from_is_err_and}
use Rattle.jl_classfile.specs.Faults.{LinksFault}
use Rattle.jl_classfile.specs.declared.fault.ClassFault.{ClassFault}
use Rattle.jl_classfile.proofs.LinkLaws.{at_superclass, at_interface, tested}
use Rattle.jl_classfile.proofs.links.check_links.Goals as goal

pub returns-in_err-check_superclass-clause-fault : goal.returns-in_err-check_superclass-clause-fault
returns-in_err-check_superclass-clause-fault c =
    let p = err_from_is_err_and c.from_residual-in_err-check_superclass.result c.from_residual-in_err-check_superclass.ensures.1 in
    let f = c.in_err-check_superclass.ensures.fault in
    rw (p.1, p.2) (subst (λ (g : ClassFault). LinksFault c.args.major c.args.pool.now c.args.body.now g) (sym f.1) (at_superclass c.args.body.now f.0 f.2, f.3))

pub returns-in_err-check_classes-clause-fault : goal.returns-in_err-check_classes-clause-fault
returns-in_err-check_classes-clause-fault c =
    let p = err_from_is_err_and c.from_residual-in_err-check_classes.result c.from_residual-in_err-check_classes.ensures.1 in
    let f = rw c.as_slice.ensures at c.in_err-check_classes.ensures.fault in
    rw (p.1, p.2) (subst (λ (g : ClassFault). LinksFault c.args.major c.args.pool.now c.args.body.now g) (sym f.1) (at_interface c.args.body.now f.0 f.2, f.3))

pub returns-clause-ok : goal.returns-clause-ok
returns-clause-ok c =
    tested c.args.major c.args.pool.now c.args.body.now (sym c.is_module.ensures ∙ c.if-is_module.false) c.in_ok-check_class.ensures.ok
    c.in_ok-check_superclass.ensures.ok
    (rw c.as_slice.ensures at c.in_ok-check_classes.ensures.ok) (sym c.super_fits.ensures ∙ c.if-not-super_fits.false)
