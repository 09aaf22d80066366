use Rattle.std.proofs.lemmas.Result.{err_from_is_err_and}
use Rattle.jl_classfile.proofs.ReadLaws.{links_first, members_first, attributes_first, attributes_fault, nest_fault, classes_are, faults_are}
use Rattle.jl_classfile.proofs.read.read_class_up_to.Goals as goal

pub returns-in_err-check_links-clause-fault : goal.returns-in_err-check_links-clause-fault
returns-in_err-check_links-clause-fault c =
    let p = err_from_is_err_and c.from_residual-in_err-check_links.result c.from_residual-in_err-check_links.ensures.1 in
    rw (p.1, p.2)
    (λ other.
    links_first c.args.newest c.args.bytes.now c.in_ok-major.major c.in_ok-major.pool c.in_ok-major.body c.in_ok-major.ensures.ok c.in_err-check_links.field-0.0
    c.in_err-check_links.ensures.fault)

pub returns-in_err-check_members-clause-fault : goal.returns-in_err-check_members-clause-fault
returns-in_err-check_members-clause-fault c =
    let p = err_from_is_err_and c.from_residual-in_err-check_members.result c.from_residual-in_err-check_members.ensures.1 in
    rw (p.1, p.2)
    (λ other. members_first c.args.newest c.args.bytes.now c.in_ok-major.major c.in_ok-major.pool c.in_ok-major.body
    c.in_ok-major.ensures.ok c.in_err-check_members.field-0.0
    c.in_ok-check_links.ensures.ok
    (c.in_err-check_members.ensures.fault other))

pub returns-in_err-check_attribute_names-clause-fault : goal.returns-in_err-check_attribute_names-clause-fault
returns-in_err-check_attribute_names-clause-fault c =
    let p = err_from_is_err_and c.from_residual-in_err-check_attribute_names.result c.from_residual-in_err-check_attribute_names.ensures.1 in
    rw (p.1, p.2)
    (λ other.
    attributes_first c.args.newest c.args.bytes.now c.in_ok-major.major c.in_ok-major.pool c.in_ok-major.body c.in_ok-major.ensures.ok
    c.in_err-check_attribute_names.field-0.0
    c.in_ok-check_links.ensures.ok
    c.in_ok-check_members.ensures.ok
    (attributes_fault c.in_ok-major.major c.in_ok-major.pool c.in_ok-major.body c.in_err-check_attribute_names.field-0.0
    c.in_err-check_attribute_names.ensures.fault))

pub returns-in_err-nest-clause-fault : goal.returns-in_err-nest-clause-fault
returns-in_err-nest-clause-fault c =
    let p = err_from_is_err_and c.from_residual-in_err-nest.result c.from_residual-in_err-nest.ensures.1 in
    rw (p.1, p.2)
    (λ other. attributes_first c.args.newest c.args.bytes.now c.in_ok-major.major c.in_ok-major.pool c.in_ok-major.body
    c.in_ok-major.ensures.ok c.in_err-nest.field-0.0
    c.in_ok-check_links.ensures.ok
    c.in_ok-check_members.ensures.ok (nest_fault c.in_ok-major.major c.in_ok-major.pool c.in_ok-major.body c.in_err-nest.field-0.0 other
    c.in_err-nest.ensures.fault))

pub returns-clause-ok : goal.returns-clause-ok
returns-clause-ok c =
    classes_are c.args.newest c.args.bytes.now c.in_ok-major.major c.in_ok-major.pool c.in_ok-major.body c.in_ok-major.ensures.ok c.in_ok-check_links.ensures.ok
    c.in_ok-check_members.ensures.ok
    c.in_ok-check_attribute_names.ensures.ok c.in_ok-nest.nest.host c.in_ok-nest.nest.members c.in_ok-nest.ensures.ok c.shown.result c.shown.ensures.ok

pub returns-clause-fault : goal.returns-clause-fault
returns-clause-fault c =
    faults_are c.args.newest c.args.bytes.now c.in_ok-major.major c.in_ok-major.pool c.in_ok-major.body c.in_ok-major.ensures.ok c.in_ok-check_links.ensures.ok
    c.in_ok-check_members.ensures.ok
    c.in_ok-check_attribute_names.ensures.ok c.in_ok-nest.nest.host c.in_ok-nest.nest.members c.in_ok-nest.ensures.ok c.shown.result c.shown.ensures.fault
