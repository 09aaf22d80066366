use Rattle.jl_classfile.specs.ForProofs.Bodies.{items_at}
use Rattle.jl_classfile.proofs.ItemLaws.{items-more, items-stop, items-end}
use Rattle.jl_classfile.proofs.body.items_at.Goals as goal

pub items-preserved : goal.items-preserved
items-preserved g c =
    rw c.in_ok-push.ensures.items
    (items-more g.T.Item.reader c.args.count c.items.counter c.items.items.items c.items.rest.now c.in-Some.after.now c.in-Some.item
    (items_at g.T.Item.reader c.args.count c.args.bytes.now) c.items-test.true c.in-Some.ensures c.items.invariant)

pub returns-in_default : goal.returns-in_default
returns-in_default g c =
    items-stop g.T.Item.reader c.args.count c.items.counter c.items.items.items c.items.rest.now (items_at g.T.Item.reader c.args.count c.args.bytes.now)
    c.items-test.true c.in_default.ensures c.items.invariant

pub returns : goal.returns
returns g c =
    rw c.of.ensures
    (items-end g.T.Item.reader c.args.count c.items.counter c.items.items.items c.items.rest.now (items_at g.T.Item.reader c.args.count c.args.bytes.now)
    c.items-test.false c.items.invariant)
