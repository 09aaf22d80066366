use Rattle.std.specs.Prelude.{option_map}
use Rattle.jl_classfile.specs.ForProofs.Bodies.{attribute_at, items_at}
use Rattle.jl_classfile.proofs.ItemLaws.{rest-more, rest-stop, rest-end}
use Rattle.std.proofs.Common.{sym}
use Rattle.jl_classfile.proofs.body.after_so_many.Goals as goal

pub attributes-preserved : goal.attributes-preserved
attributes-preserved c =
    rest-more attribute_at c.args.count c.attributes.counter c.attributes.rest.now c.in-Some.after.now c.in-Some._attribute
    (option_map (λ x. x.1) (items_at attribute_at c.args.count c.args.bytes.now)) c.attributes-test.true c.in-Some.ensures c.attributes.invariant

pub returns-in_default : goal.returns-in_default
returns-in_default c =
    sym
    (rest-stop attribute_at c.args.count c.attributes.counter c.attributes.rest.now
    (option_map (λ x. x.1) (items_at attribute_at c.args.count c.args.bytes.now))
    c.attributes-test.true c.in_default.ensures c.attributes.invariant)

pub returns : goal.returns
returns c =
    sym
    (rest-end attribute_at c.args.count c.attributes.counter c.attributes.rest.now (option_map (λ x. x.1) (items_at attribute_at c.args.count c.args.bytes.now))
    c.attributes-test.false c.attributes.invariant)
