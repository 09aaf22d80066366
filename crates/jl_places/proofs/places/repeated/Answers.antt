use Rattle.std.proofs.Common.{[], ◌∷◌, ◌++◌, replicate, ap, ◌∙◌}
use Rattle.std.proofs.lemmas.List.{replicate_more}
use Rattle.jl_places.proofs.places.repeated.Goals as goal

pub loop-preserved : goal.loop-preserved
loop-preserved c =
    c.in_ok-push.ensures.items ∙ (ap (λ xs. xs ++ c.in_ok-copy.field-0 ∷ []) c.loop.invariant
    ∙ (ap (λ x. replicate c.loop.counter c.args.part.now ++ x ∷ []) c.in_ok-copy.ensures ∙ replicate_more c.loop.counter c.args.part.now))
