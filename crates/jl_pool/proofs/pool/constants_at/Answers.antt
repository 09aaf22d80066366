use Rattle.std.proofs.Common.{arith}
use Rattle.jl_pool.proofs.PoolLaws.{starts, kept_below, kept_err, SoFar-none, SoFar-kept, SoFar-cut, SoFar-tag, SoFar-done}
use Rattle.jl_pool.proofs.pool.constants_at.Goals as goal

pub loop-place-init : goal.loop-place-init
loop-place-init c =
    rw (c.in_ok-push.ensures.items, c.in_ok-entries.ensures.items) (SoFar-none c.args.bytes.now c.args.count
    (λ i. omega (arith, c.type_inv.bytes i)) c.requires)

pub overflow_sub-start : goal.overflow_sub-start
overflow_sub-start c = (starts c.args.bytes.now c.loop-place.entries.items c.loop-place.bad c.loop-place.rest.now c.args.count c.loop-place.place
    c.loop-place.invariant (omega arith) c.loop-place-test.true).0

pub overflow_cast-start : goal.overflow_cast-start
overflow_cast-start c =
    let few = (starts c.args.bytes.now c.loop-place.entries.items c.loop-place.bad c.loop-place.rest.now c.args.count c.loop-place.place c.loop-place.invariant
    (omega arith) c.loop-place-test.true).1 in
    omega (arith, few)

pub kept_at-requires : goal.kept_at-requires
kept_at-requires c = (starts c.args.bytes.now c.loop-place.entries.items c.loop-place.bad c.loop-place.rest.now c.args.count c.loop-place.place
    c.loop-place.invariant (omega arith) c.loop-place-test.true).1

pub overflow_add-place-in-Ok : goal.overflow_add-place-in-Ok
overflow_add-place-in-Ok c =
    let below = kept_below c.args.bytes.now c.loop-place.entries.items c.loop-place.bad c.loop-place.rest.now c.args.count c.loop-place.place
    c.loop-place.invariant c.loop-place-test.true c.in-Ok.kept c.in-Ok.after.now c.in-Ok.ensures in
    omega (arith, below, c.in_ok-place-in-Ok.ensures.ok.0)

pub loop-place-smaller : goal.loop-place-smaller
loop-place-smaller c = omega (arith, c.in_ok-place-in-Ok.ensures.ok.0)

pub loop-place-preserved : goal.loop-place-preserved
loop-place-preserved c =
    rw (c.in_ok-place-in-Ok.ensures.ok.1, c.in_ok-place-in-Ok.ensures.ok.0)
    (SoFar-kept c.args.bytes.now c.loop-place.entries.items c.loop-place.bad c.loop-place.rest.now c.args.count c.loop-place.place c.loop-place.invariant
    c.loop-place-test.true c.in-Ok.kept c.in-Ok.after.now c.in-Ok.ensures
    c.is_bad_text.result c.is_bad_text.ensures)

pub returns-in-Err-Cut-clause-fault : goal.returns-in-Err-Cut-clause-fault
returns-in-Err-Cut-clause-fault c =
    SoFar-cut c.args.bytes.now c.loop-place.entries.items c.loop-place.bad c.loop-place.rest.now c.args.count c.loop-place.place c.loop-place.invariant
    (omega arith) c.loop-place-test.true
    (kept_err _ _ _ (rw c.in-Err-Cut.field-0-is at c.in-Err-Cut.ensures))

pub returns-in-Err-Tag-clause-fault : goal.returns-in-Err-Tag-clause-fault
returns-in-Err-Tag-clause-fault c =
    SoFar-tag c.args.bytes.now c.loop-place.entries.items c.loop-place.bad c.loop-place.rest.now c.args.count c.loop-place.place c.loop-place.invariant
    (omega arith) c.loop-place-test.true
    (kept_err _ _ _ (rw c.in-Err-Tag.field-0-is at c.in-Err-Tag.ensures))

pub returns-clause-ok : goal.returns-clause-ok
returns-clause-ok c =
    SoFar-done c.args.bytes.now c.loop-place.entries.items c.loop-place.bad c.loop-place.rest.now c.args.count c.loop-place.place (omega arith)
    (omega (arith, c.loop-place-test.false)) c.loop-place.invariant
