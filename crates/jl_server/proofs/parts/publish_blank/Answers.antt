use Rattle.std.specs.Prelude.{Option, Some, None, IfSome}
use Rattle.std.proofs.Common.{ap, ◌∙◌}
use Rattle.jl_server.specs.ForProofs.Shown.{content}
use Rattle.jl_server.proofs.Opens.{blank, known_server}
use Rattle.jl_server.proofs.parts.publish_blank.Goals as goal

for_some : {X : Type 0} {P Q : X → Type 0} → ((x : X) → P x → Q x) → (o : Option X) → IfSome o P → IfSome o Q
for_some f (Some x) h = f x h
for_some f None h = tt

both_some : {X : Type 0} {P Q R : X → Type 0} → ((x : X) → P x → Q x → R x) → (o : Option X) → IfSome o P → IfSome o Q → IfSome o R
both_some f (Some x) p q = f x p q
both_some f None p q = tt

pub publish-requires-clause-shown : goal.publish-requires-clause-shown
publish-requires-clause-shown g c =
    let made = c.blank.ensures in
    blank (content c.args.writer.desk.shown.value) c.blank.result c.requires.log made.0 made.1 made.2

pub returns-clause-log : goal.returns-clause-log
returns-clause-log g c =
    for_some (λ w shown. ap (λ t. t.list.reached.log) shown ∙ c.blank.ensures.2) c.publish.result c.publish.ensures.shown

pub returns-clause-book : goal.returns-clause-book
returns-clause-book g c =
    for_some (λ w shown. ap (λ t. t.list.reached.book) shown ∙ c.blank.ensures.3) c.publish.result c.publish.ensures.shown

pub returns-clause-limits : goal.returns-clause-limits
returns-clause-limits g c =
    for_some (λ w shown. ap (λ t. t.limits) shown ∙ c.requires.limits) c.publish.result c.publish.ensures.shown

pub returns-clause-known : goal.returns-clause-known
returns-clause-known g c =
    both_some
    (λ w shown known.
    known_server g.K.Name.book g.K.Name.limits (content c.args.writer.desk.shown.value) (content w.desk.shown.value) c.blank.result _
    shown known c.requires.limits c.blank.ensures.3)
    c.publish.result c.publish.ensures.shown c.publish.ensures.known
