use Rattle.std.proofs.Common.{[], ◌∷◌, ◌++◌, ap, ◌∙◌}
use Rattle.std.proofs.lemmas.List.{replicate_more}
use Rattle.jl_server.proofs.links.filled.Goals as goal

pub loop-preserved : goal.loop-preserved
loop-preserved g c =
    c.in_ok-push.ensures.items ∙ (ap (λ xs. xs ++ c.args.value ∷ []) c.loop.invariant ∙ replicate_more c.loop.counter c.args.value)
