use Rattle.std.proofs.Common.{[], ◌∷◌, ◌++◌, replicate, ap, ◌∙◌}
use Rattle.std.proofs.lemmas.List.{replicate_more}
use Rattle.jl_slots.proofs.fixed_page.filled.Goals as goal

pub loop-preserved : goal.loop-preserved
loop-preserved g c =
    c.in_ok-push.ensures.items ∙ (ap (λ xs. xs ++ c.in_ok-again.field-0 ∷ []) c.loop.invariant
    ∙ (ap (λ x. replicate c.loop.counter c.args.element ++ x ∷ []) c.in_ok-again.ensures ∙ replicate_more c.loop.counter c.args.element))
