use Rattle.jl_classfile.proofs.TwinLaws.{twins_of, no_twins_if_distinct}
use Rattle.jl_classfile.proofs.twin.first_twin.Goals as goal

pub returns-then-are_distinct-clause-ok : goal.returns-then-are_distinct-clause-ok
returns-then-are_distinct-clause-ok c =
    no_twins_if_distinct c.args.pool.now c.args.methods.now c.in_ok-prints_of.field-0.items c.in_ok-prints_of.ensures.ok
    (c.are_distinct.ensures.0 c.if-are_distinct.true)

pub returns-clause-ok : goal.returns-clause-ok
returns-clause-ok c =
    twins_of c.in_ok-texts.texts.items c.args.pool.now c.args.methods.now c.in_ok-signatures.signatures.items c.in_ok-texts.ensures.ok
    c.in_ok-signatures.ensures.ok c.in_ok-first_repeat.field-0
    (rw (c.deref.ensures.value, c.deref-2.ensures.value) at c.in_ok-first_repeat.ensures)
