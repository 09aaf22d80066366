use Rattle.std.specs.Prelude.{◌≡◌, ◌==◌, ◌&&◌, ◌||◌, ℕ, List, ◌++◌, ◌∷◌, [], ◌+◌, take}
use Rattle.std.proofs.Common.{sym, ap, ◌∙◌}
use Rattle.std.proofs.lemmas.List.{take_more}
use Rattle.jl_types.specs.Linkage.Targets.{is_valid}
use Rattle.jl_hierarchy.proofs.Rising.{has}
use Rattle.jl_deps.proofs.PointLaws.{listed_more}
use Rattle.jl_deps.proofs.keys.push_valid.Goals as goal

pub loop-point-preserved : goal.loop-point-preserved
loop-point-preserved c = λ p.
    let test = is_valid c.args.sites.now in
    let point = c.point-item.result in
    let front = take c.loop-point.point-index c.args.points.now in
    let more : front ++ point ∷ [] ≡ take (c.loop-point.point-index + 1) c.args.points.now =
    sym (take_more c.args.points.now c.loop-point.point-index point c.loop-point-test.true ∙ ap (λ (n : ℕ). front ++ n ∷ []) (sym c.point-item.is)) in
    listed_more test (has p c.push_if.new.valid.items) (has p c.loop-point.valid.items) (has p c.args.valid.now.items) front point p
    (c.in_ok-push_if.ensures p ∙ ap (λ b. has p c.loop-point.valid.items || ((point == p) && b)) c.is_valid.ensures)
    (c.loop-point.invariant p)
    ∙ ap (λ (ts : List ℕ). has p c.args.valid.now.items || (has p ts && test p)) more
