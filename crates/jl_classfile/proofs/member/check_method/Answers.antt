use Rattle.std.proofs.Common.{◌∙◌, refl, sym, subst}
use Rattle.std.proofs.lemmas.Result.{err_from_is_err_and}
use Rattle.jl_classfile.specs.declared.fault.ClassFault.{ClassFault}
use Rattle.jl_classfile.specs.ForProofs.Members.{IsMethodFault}
use Rattle.jl_classfile.proofs.MemberTests.{method_fits-is, yes_when, not_when}
use Rattle.jl_classfile.proofs.MemberNumbers.{member_links, at_attribute}
use Rattle.jl_classfile.proofs.member.check_method.Goals as goal

pub returns-then-not-method_fits-clause-fault : goal.returns-then-not-method_fits-clause-fault
returns-then-not-method_fits-clause-fault c = (
  refl,
  not_when _ _ (method_fits-is c.args.pool.now c.args.interface c.args.method.now) (sym c.method_fits.ensures
      ∙ c.if-not-method_fits.true),
)

pub returns-in_err-check_attribute_names-clause-fault : goal.returns-in_err-check_attribute_names-clause-fault
returns-in_err-check_attribute_names-clause-fault c =
    let p = err_from_is_err_and c.from_residual-in_err-check_attribute_names.result c.from_residual-in_err-check_attribute_names.ensures.1 in
    let f = c.in_err-check_attribute_names.ensures.fault in
    rw (p.1, p.2)
    (subst (λ (g : ClassFault). IsMethodFault c.args.pool.now c.args.interface c.args.place c.args.index c.args.twin c.args.method.now g) (sym f.1)
    (at_attribute c.args.method.now f.0 f.2, f.3))

pub returns-clause-ok : goal.returns-clause-ok
returns-clause-ok c = (
  record {
    links = member_links c.args.pool.now c.args.method.now c.in_ok-check_text.ensures.ok c.in_ok-check_text-2.ensures.ok
        c.in_ok-check_attribute_names.ensures.ok;
    fits = yes_when _ _ (method_fits-is c.args.pool.now c.args.interface c.args.method.now) (sym c.method_fits.ensures ∙ c.if-not-method_fits.false);
    one_code = c.if-are_two_called.ensures;
  },
  c.if-twin.false,
)
