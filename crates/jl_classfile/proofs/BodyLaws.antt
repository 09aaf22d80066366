-- What follows the pool is read where its text stands, and only there.
use Rattle.std.proofs.Common.{ℕ, ◌^◌, ◌<◌, List, Option, ap, subst}
use Rattle.std.specs.Prelude.{option_map}
use Rattle.jl_classfile.specs.declared.body.Attribute.{Attribute}
use Rattle.jl_classfile.specs.declared.body.Member.{Member}
use Rattle.jl_classfile.specs.declared.body.Body.{Body}
use Rattle.jl_pool.specs.Numbers.{u2, counted}
use Rattle.jl_classfile.specs.Layouts.{attribute_text, member_text, body_text, AttributeSized, Countable, MemberSized, BodySized}
use Rattle.jl_pool.specs.ForProofs.Fields.{number_at}
use Rattle.jl_classfile.specs.ForProofs.Bodies.{counted_at, attribute_at, member_at, pair_of, numbers_at, lists_at, body_of, body_at}
use Rattle.jl_pool.proofs.Fields.{Takes, u2_takes, u2_again}
use Rattle.jl_names.proofs.Tests.{map-some}
use Rattle.jl_classfile.proofs.ListLaws.{Taker, Again, counted-takes, counted-again, pair_text, Both, pair-takes, pair-again}
use Rattle.jl_classfile.proofs.PartLaws.{attribute-takes, attribute-again, member-takes, member-again}

abbrev IsNumber : ℕ → Type 0
IsNumber n = n < 2 ^ 16

numbers-takes : Taker numbers_at (pair_text u2 (pair_text u2 u2)) (Both IsNumber (Both IsNumber IsNumber))
numbers-takes =
    pair-takes (number_at 2) (pair_of (number_at 2) (number_at 2)) u2 (pair_text u2 u2) IsNumber (Both IsNumber IsNumber) u2_takes
    (pair-takes (number_at 2) (number_at 2) u2 u2 IsNumber IsNumber u2_takes u2_takes)

numbers-again : Again numbers_at (pair_text u2 (pair_text u2 u2)) (Both IsNumber (Both IsNumber IsNumber))
numbers-again =
    pair-again (number_at 2) (pair_of (number_at 2) (number_at 2)) u2 (pair_text u2 u2) IsNumber (Both IsNumber IsNumber) u2_again
    (pair-again (number_at 2) (number_at 2) u2 u2 IsNumber IsNumber u2_again u2_again)

abbrev members_text : List Member × (List Member × List Attribute) → List ℕ
members_text = pair_text (counted member_text) (pair_text (counted member_text) (counted attribute_text))

abbrev MembersSized : List Member × (List Member × List Attribute) → Type 0
MembersSized = Both (Countable MemberSized) (Both (Countable MemberSized) (Countable AttributeSized))

abbrev lists_text : List ℕ × (List Member × (List Member × List Attribute)) → List ℕ
lists_text = pair_text (counted u2) members_text

abbrev ListsSized : List ℕ × (List Member × (List Member × List Attribute)) → Type 0
ListsSized = Both (Countable IsNumber) MembersSized

lists-takes : Taker lists_at lists_text ListsSized
lists-takes =
    let attributes = counted-takes attribute_at attribute_text AttributeSized attribute-takes in
    let members = counted-takes member_at member_text MemberSized member-takes in
    pair-takes (counted_at (number_at 2)) (pair_of (counted_at member_at) (pair_of (counted_at member_at) (counted_at attribute_at))) (counted u2) members_text
    (Countable IsNumber) MembersSized
    (counted-takes (number_at 2) u2 IsNumber u2_takes)
    (pair-takes (counted_at member_at) (pair_of (counted_at member_at) (counted_at attribute_at)) (counted member_text)
    (pair_text (counted member_text) (counted attribute_text)) (Countable MemberSized)
    (Both (Countable MemberSized) (Countable AttributeSized)) members
    (pair-takes (counted_at member_at) (counted_at attribute_at) (counted member_text) (counted attribute_text) (Countable MemberSized)
    (Countable AttributeSized)
    members attributes))

lists-again : Again lists_at lists_text ListsSized
lists-again =
    let attributes = counted-again attribute_at attribute_text AttributeSized attribute-again in
    let members = counted-again member_at member_text MemberSized member-again in
    pair-again (counted_at (number_at 2)) (pair_of (counted_at member_at) (pair_of (counted_at member_at) (counted_at attribute_at))) (counted u2) members_text
    (Countable IsNumber) MembersSized
    (counted-again (number_at 2) u2 IsNumber u2_again)
    (pair-again (counted_at member_at) (pair_of (counted_at member_at) (counted_at attribute_at)) (counted member_text)
    (pair_text (counted member_text) (counted attribute_text)) (Countable MemberSized)
    (Both (Countable MemberSized) (Countable AttributeSized)) members
    (pair-again (counted_at member_at) (counted_at attribute_at) (counted member_text) (counted attribute_text) (Countable MemberSized)
    (Countable AttributeSized)
    members attributes))

abbrev Bodies : Type 0
Bodies = (ℕ × (ℕ × ℕ)) × (List ℕ × (List Member × (List Member × List Attribute)))

abbrev bodies_text : Bodies → List ℕ
bodies_text = pair_text (pair_text u2 (pair_text u2 u2)) lists_text

abbrev BodiesSized : Bodies → Type 0
BodiesSized = Both (Both IsNumber (Both IsNumber IsNumber)) ListsSized

bodies-takes : Taker (pair_of numbers_at lists_at) bodies_text BodiesSized
bodies-takes = pair-takes numbers_at lists_at (pair_text u2 (pair_text u2 u2)) lists_text (Both IsNumber (Both IsNumber IsNumber)) ListsSized numbers-takes
    lists-takes

bodies-again : Again (pair_of numbers_at lists_at) bodies_text BodiesSized
bodies-again = pair-again numbers_at lists_at (pair_text u2 (pair_text u2 u2)) lists_text (Both IsNumber (Both IsNumber IsNumber)) ListsSized numbers-again
    lists-again

sized : (y : Bodies) → BodiesSized y → BodySized (body_of y)
sized y h = record {
  flags = h.0.0;
  this_class = h.0.1.0;
  super_class = h.0.1.1;
  interfaces = h.1.0;
  fields = h.1.1.0;
  methods = h.1.1.1.0;
  attributes = h.1.1.1.1;
}

pub body-takes : Taker body_at body_text BodySized
unfolding body_at
body-takes bytes x fits e =
    let m = map-some (λ (y : Bodies × List ℕ). (body_of y.0, y.1)) (pair_of numbers_at lists_at bytes) x e in
    let t = bodies-takes bytes m.0 fits m.1 in
    subst (λ (z : Body × List ℕ). Takes bytes (body_text z.0) z.1 × BodySized z.0) m.2 (t.0, sized m.0.0 t.1)

parts_of : Body → Bodies
parts_of b = ((b.flags, (b.this_class, b.super_class)), (b.interfaces, (b.fields, (b.methods, b.attributes))))

pub body-again : Again body_at body_text BodySized
unfolding body_at parts_of
body-again b rest h =
    ap (λ (o : Option (Bodies × List ℕ)). option_map (λ y. (body_of y.0, y.1)) o)
    (bodies-again (parts_of b) rest ((h.flags, (h.this_class, h.super_class)), (h.interfaces, (h.fields, (h.methods, h.attributes)))))
