use Rattle.std.proofs.lemmas.Result.{err_from_is_err_and}
use Rattle.jl_classfile.proofs.MemberLaws.{members_of, method_fault_of}
use Rattle.jl_classfile.proofs.member.check_members.Goals as goal

pub returns-clause-ok : goal.returns-clause-ok
returns-clause-ok c =
    members_of c.args.pool.now c.args.body.now c.in_ok-twin.twin _ _ _ c.as_slice-fields.ensures c.as_slice-methods.ensures c.is_interface.ensures
    c.in_ok-check_fields.ensures.ok c.in_ok-check_methods.ensures.ok c.in_ok-twin.ensures.ok c.in_ok-check_methods.ensures.no_twin

pub returns-in_err-check_methods-clause-fault : goal.returns-in_err-check_methods-clause-fault
returns-in_err-check_methods-clause-fault c =
    let p = err_from_is_err_and c.from_residual-in_err-check_methods.result c.from_residual-in_err-check_methods.ensures.1 in
    rw (p.1, p.2)
    (λ other.
    method_fault_of c.args.pool.now c.args.body.now c.in_ok-twin.twin _ _ _ c.in_err-check_methods.field-0.0 c.as_slice-fields.ensures
    c.as_slice-methods.ensures
    c.is_interface.ensures
    c.in_ok-twin.ensures.ok c.in_err-check_methods.ensures.fault)
