use Rattle.std.proofs.Common.{sym, ◌∙◌}
use Rattle.jl_names.proofs.UnitLaws.{unit_shorter, Begins-more, Begins-cut, Begins-bad}
use Rattle.jl_names.proofs.mutf8.decode_mutf8.Goals as goal

pub loop-rest-smaller : goal.loop-rest-smaller
loop-rest-smaller c = unit_shorter c.loop-rest.rest.now c.in-Ok.unit c.in-Ok.after.now c.in-Ok.ensures

pub loop-rest-preserved : goal.loop-rest-preserved
loop-rest-preserved c = rw c.in_ok-push-in-Ok.ensures.items
    (Begins-more c.args.text.now c.loop-rest.units.items c.loop-rest.rest.now c.in-Ok.unit c.in-Ok.after.now
    c.loop-rest.invariant c.in-Ok.ensures)

pub returns-in-Err-Cut-clause-fault : goal.returns-in-Err-Cut-clause-fault
returns-in-Err-Cut-clause-fault c =
    Begins-cut c.args.text.now c.loop-rest.units.items c.loop-rest.rest.now c.loop-rest.invariant
    (sym c.is_empty.ensures ∙ c.loop-rest-test.true) (rw c.in-Err-Cut.field-0-is at c.in-Err-Cut.ensures)

pub returns-in-Err-Bad-clause-fault : goal.returns-in-Err-Bad-clause-fault
returns-in-Err-Bad-clause-fault c =
    Begins-bad c.args.text.now c.loop-rest.units.items c.loop-rest.rest.now c.loop-rest.invariant
    (sym c.is_empty.ensures ∙ c.loop-rest-test.true) (rw c.in-Err-Bad.field-0-is at c.in-Err-Bad.ensures)
