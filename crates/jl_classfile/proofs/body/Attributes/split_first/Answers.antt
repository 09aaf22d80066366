use Rattle.std.proofs.Common.{◌∙◌, sym, ap, arith}
use Rattle.jl_classfile.specs.ForProofs.Bodies.{attribute_at, attributes_in, items_at}
use Rattle.jl_classfile.proofs.ItemLaws.{one-more, one-less}
use Rattle.jl_classfile.proofs.body.Attributes.split_first.Goals as goal

pub returns-then-self-eq0 : goal.returns-then-self-eq0
unfolding items_at
returns-then-self-eq0 c = sym c.self.view_is ∙ ap (λ n. attributes_in n c.self.inside.bytes.now) c.if-self-eq0.true

pub returns-in_err-attribute : goal.returns-in_err-attribute
returns-in_err-attribute c =
    absurd (one-less attribute_at c.self.inside.count c.self.inside.bytes.now (let some = c.if-self-eq0.false in omega (arith, some))
    (c.in_err-attribute.ensures) c.self.invariant)

pub invariant_of-result : goal.invariant_of-result
invariant_of-result c =
    (one-more attribute_at c.self.inside.count c.self.inside.bytes.now c.in_ok-attribute.bytes.now c.in_ok-attribute.attribute
    (let some = c.if-self-eq0.false in omega (arith, some))
    c.in_ok-attribute.ensures c.self.invariant).0

pub returns : goal.returns
returns c =
    sym c.self.view_is
    ∙ (one-more attribute_at c.self.inside.count c.self.inside.bytes.now c.in_ok-attribute.bytes.now c.in_ok-attribute.attribute
    (let some = c.if-self-eq0.false in omega (arith, some))
    c.in_ok-attribute.ensures c.self.invariant).1
