use Rattle.std.specs.Prelude.{◌+◌, ℕ, drop}
use Rattle.std.specs.List.{list_any}
use Rattle.std.proofs.Common.{sym, ap, ◌∙◌, arith}
use Rattle.std.proofs.lemmas.Option.{slice_get_within}
use Rattle.jl_types.specs.Values.World.{World}
use Rattle.jl_types.proofs.Lists.{left_at, none_left}
use Rattle.jl_renewal.specs.Marks.{marked, binds_staying}
use Rattle.jl_renewal.proofs.MarkLaws.{mark_next, mark_end}
use Rattle.jl_renewal.proofs.stays.mark_bound.Goals as goal

pub loop-site-preserved : goal.loop-site-preserved
loop-site-preserved c =
    let entries = c.old.inside.bindings.entries in
    let place = c.loop-site.place in
    let binding : ℕ × ℕ = (c.in-Some.site.now, c.in-Some.call_site.now) in
    let there = sym c.in-Some.ensures.entry in
    let low = slice_get_within entries place binding there in
    record {
      within = omega (arith, low);
      rest =
          mark_next (binds_staying c.args.old.now) (drop place entries) c.loop-site.held binding (drop (place + 1) entries) c.mark_if_stays.new.held
          (left_at entries place binding there) c.mark_if_stays.ensures
          ∙ c.loop-site.invariant.rest;
    }

pub returns : goal.returns
returns c =
    let entries = c.old.inside.bindings.entries in
    (sym (mark_end (binds_staying c.args.old.now) (drop c.loop-site.place entries) c.loop-site.held
    (none_left entries c.loop-site.place (sym c.in_default.ensures.entry)))
    ∙ c.loop-site.invariant.rest)
    ∙ ap (λ (w : World). marked (λ k. list_any (binds_staying c.args.old.now k) w.bindings) c.args.held.now) c.old.view_is
