use Rattle.std.specs.Prelude.{◌≡◌, ◌≤◌, ◌+◌, ℕ, take, drop, sum_by, All, Ok}
use Rattle.std.proofs.Common.{refl, sym, ap, subst, ◌∙◌, arith}
use Rattle.jl_types.specs.declared.link.Link.{Link}
use Rattle.jl_types.specs.Linkage.Links.{scratch}
use Rattle.std.proofs.lemmas.List.{take_more}
use Rattle.std.proofs.lemmas.List.Sums.{sum_by-cons}
use Rattle.std.proofs.lemmas.Slice.Zip.{all_zipped_more}
use Rattle.jl_types.proofs.Lists.{rest_at}
use Rattle.jl_types.specs.Events.Footprints.{most_for}
use Rattle.jl_types.specs.Events.Preparation.{ready_fault}
use Rattle.jl_relink.proofs.BatchLaws.{ready, not_ready}
use Rattle.jl_relink.proofs.EarlierLaws.{each_made}
use Rattle.jl_relink.proofs.preparation.push_rows.Goals as goal

pub returns-in-Err-clause-unready : goal.returns-in-Err-clause-unready
returns-in-Err-clause-unready c =
    let w = c.args.world.now in
    let sites = c.args.sites.now in
    let i = c.loop-site.site-index in
    let site = c.site-item.result in
    sym c.loop-site.invariant.left
    ∙ ap (ready_fault w) (rest_at sites i site c.loop-site-test.true c.site-item.is)
    ∙ not_ready w site (drop (i + 1) sites) c.in-Err.field-0 (sym c.in-Err.ensures.link)

pub link_beside-requires-clause-made : goal.link_beside-requires-clause-made
link_beside-requires-clause-made c =
    let made = each_made c.args.world.now (take c.loop-site.site-index c.args.sites.now) c.loop-site.rows.items c.loop-site.invariant.made in
    subst (All (λ (row : ℕ × Link). scratch c.args.world.now row.0 ≡ Ok row.1)) (sym c.as_slice.ensures.value) made

-- the count of one site and of those after it
counted : (here rest work next last first all : ℕ) → next ≤ work + here → work + last ≤ first + all → last ≡ here + rest → next + rest ≤ first + all
counted here rest work next last first all step before split = omega arith

pub loop-site-preserved : goal.loop-site-preserved
loop-site-preserved c =
    let w = c.args.world.now in
    let sites = c.args.sites.now in
    let i = c.loop-site.site-index in
    let site = c.site-item.result in
    let rest = drop (i + 1) sites in
    let next = rest_at sites i site c.loop-site-test.true c.site-item.is in
    let len = c.push_row.ensures.len in
    let capacity = c.push_row.ensures.capacity in
    let room = c.loop-site.invariant.room in
    record {
      made =
          rw (c.push_row.ensures.items, take_more sites i site c.loop-site-test.true, ← c.site-item.is)
          (all_zipped_more _ _ _ site (site, c.in-Ok.link) c.loop-site.invariant.made (refl, sym c.in-Ok.ensures.link));
      left =
          sym (ready w site rest c.in-Ok.link (sym c.in-Ok.ensures.link))
          ∙ sym (ap (ready_fault w) next)
          ∙ c.loop-site.invariant.left;
      room = omega arith;
      ticks =
          counted (most_for w site) (sum_by (most_for w) rest) c.loop-site.work c.link_beside.new.work (sum_by (most_for w) (drop i sites))
          c.args.work.now (sum_by (most_for w) sites) c.in-Ok.ensures.ticks c.loop-site.invariant.ticks
          (ap (sum_by (most_for w)) next ∙ sum_by-cons (most_for w) site rest);
    }
