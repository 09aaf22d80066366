use Rattle.std.specs.Prelude.{◌<◌}
use Rattle.std.proofs.Common.{sym, subst, ◌∙◌}
use Rattle.jl_relink.proofs.BatchLaws.{comes_again, comes_first, all_below}
use Rattle.jl_relink.proofs.batch.sites_fault.Goals as goal

pub returns-then-comes_below : goal.returns-then-comes_below
returns-then-comes_below g c =
    let known = subst (λ n. c.site-site.result < n) c.site_count.ensures (subst (λ n. n < c.site_count.result) c.number.ensures c.if-number-site_count.false) in
    sym
    (comes_again g.R.Row.site_of c.args.world.now c.args.rows.now c.loop-number.number c.index-rows-number.result c.loop-number-test.true c.index-rows-number.is
    c.site-site.result c.site-site.ensures known (sym c.comes_below.ensures ∙ c.if-comes_below.true))
    ∙ c.loop-number.invariant.sound

pub loop-number-preserved : goal.loop-number-preserved
loop-number-preserved g c =
    let known = subst (λ n. c.site-site.result < n) c.site_count.ensures (subst (λ n. n < c.site_count.result) c.number.ensures c.if-number-site_count.false) in
    record {
      sound =
          comes_first g.R.Row.site_of c.args.world.now c.args.rows.now c.loop-number.number c.index-rows-number.result c.loop-number-test.true
          c.index-rows-number.is c.site-site.result c.site-site.ensures known (sym c.comes_below.ensures ∙ c.if-comes_below.false)
          ∙ c.loop-number.invariant.sound;
      below =
          all_below g.R.Row.site_of c.loop-number.bound c.bound_with-bound.result c.args.rows.now c.loop-number.number c.index-rows-number.result
          c.loop-number-test.true c.index-rows-number.is c.loop-number.invariant.below c.bound_with-bound.ensures.as_before
          (subst (λ n. n < c.bound_with-bound.result) c.site-site.ensures c.bound_with-bound.ensures.past);
    }
