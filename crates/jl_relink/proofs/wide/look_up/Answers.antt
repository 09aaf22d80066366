use Rattle.std.proofs.Common.{◌≡◌, ℕ, subst, ◌∙◌}
use Rattle.std.specs.List.{AllZip}
use Rattle.std.specs.Borrow.{Bor}
use Rattle.rayon.proofs.ListFacts.{IfOk-then, AllZip-weaken}
use Rattle.rayon.proofs.ToStd.{slice-map}
use Rattle.jl_relink.specs.declared.outline.Pair.{Pair}
use Rattle.jl_relink.specs.ForProofs.Wide.{looked_up}
use Rattle.jl_relink.proofs.WideLaws.{without_places}
use Rattle.jl_relink.proofs.wide.look_up.Goals as goal

pub returns : goal.returns
returns g c =
    let cs = c.args.classes.now in
    IfOk-then c.collect.result _ _ c.collect.ensures (λ v h.
    let mapped = rw (c.map.ensures.base, c.map.ensures.f) at h.1 in
    let counted = rw c.enumerate.ensures.base at mapped in
    let placed = rw c.enumerate.ensures.offset at counted in
    let chain = rw c.with_min_len.ensures.base at placed in
    let seen = chain.1.0 in
    let each = subst (λ l. AllZip (λ (s : ℕ × Bor Pair) row. row ≡ looked_up cs s.1.now) l h.0) chain.1.2
    (AllZip-weaken _ (λ (s : ℕ × Bor Pair) row. row ≡ looked_up cs s.1.now) (λ s row e. e) chain.0 h.0 chain.2) in
    h.2 ∙ slice-map seen c.args.pairs.now (chain.1.1 ∙ c.par_iter.ensures) (looked_up cs) h.0
    (without_places (λ p row. row ≡ looked_up cs p) 0 seen h.0 each))
