use Rattle.std.specs.Prelude.{◌==◌, ◌||◌, ℕ, List}
use Rattle.std.specs.List.{list_any}
use Rattle.std.proofs.Common.{ap, sym, arith, ◌∙◌}
use Rattle.std.proofs.lemmas.Option.{slice_get_within}
use Rattle.std.proofs.lemmas.List.Folds.{list_any-append}
use Rattle.jl_hierarchy.proofs.Rising.{has}
use Rattle.jl_deps.proofs.ListLaws.{any_next}
use Rattle.jl_deps.proofs.index.push_groups.Goals as goal

pub loop-listed-preserved : goal.loop-listed-preserved
loop-listed-preserved c =
    let entries = c.args.groups.now.entries in
    record {
      within = (
          let lt =
          slice_get_within entries c.loop-listed.place (c.in-Some.field-0-0.now, c.in-Some.listed.now) (sym c.in-Some.ensures.entry)
          in omega arith
          );
      added = λ s.
          any_next (λ group. list_any (λ t. t == s) group.1) entries c.loop-listed.place
          (c.in-Some.field-0-0.now, c.in-Some.listed.now) (has s c.extend_from_slice.new.self.items) (has s c.loop-listed.sites.items)
          (has s c.args.sites.now.items) c.in-Some.ensures.entry
          (ap (has s) c.in_ok-extend_from_slice.ensures.items
          ∙ list_any-append (λ t. t == s) c.loop-listed.sites.items c.as_slice.result.now
          ∙ ap (λ (ts : List ℕ). has s c.loop-listed.sites.items || has s ts) c.as_slice.ensures)
          (c.loop-listed.invariant.added s);
    }
