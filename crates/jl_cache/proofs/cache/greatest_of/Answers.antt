use Rattle.std.specs.Prelude.{◌≤◌, ◌++◌, ◌∷◌, [], ℕ, List, take}
use Rattle.std.specs.List.{AllByRecursion}
use Rattle.std.proofs.Common.{sym, ap, subst, ◌∙◌, arith}
use Rattle.std.proofs.lemmas.List.{take_more}
use Rattle.jl_types.specs.declared.link.Link.{Link}
use Rattle.jl_cache.proofs.SiteLaws.{up_to, one_more}
use Rattle.jl_cache.proofs.cache.greatest_of.Goals as goal

pub loop-row-preserved : goal.loop-row-preserved
loop-row-preserved c =
    let row = c.row-item.result in
    let front = take c.loop-row.row-index c.args.rows.now in
    let is = c.max-greatest.ensures in
    let place = c.place_of.ensures.place in
    let low = c.place_of.ensures.small in
    let small = c.loop-row.invariant.small in
    let most = c.max-greatest.result in
    record {
      small = omega (arith, is, low, small);
      greatest =
          subst (AllByRecursion (λ (row : ℕ × Link). row.0 ≤ most))
          (sym (take_more c.args.rows.now c.loop-row.row-index row c.loop-row-test.true ∙ ap (λ (row : ℕ × Link). front ++ row ∷ []) (sym c.row-item.is)))
          (one_more most front row
          (up_to c.loop-row.greatest most front (omega (arith, is)) c.loop-row.invariant.greatest) (omega (arith, is, place)));
    }
