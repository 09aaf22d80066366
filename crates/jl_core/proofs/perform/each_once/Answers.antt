use Rattle.std.proofs.Common.{eqb, ap, sym, subst, ◌∙◌}
use Rattle.std.proofs.lemmas.List.Filters.{dedup_is}
use Rattle.jl_hierarchy.specs.ForProofs.Kept.{Rises}
use Rattle.jl_hierarchy.proofs.Parents.{still_has, each_once_rises}
use Rattle.jl_core.specs.ForProofs.Touched.{has}
use Rattle.jl_core.proofs.perform.each_once.Goals as goal

pub returns : goal.returns
returns c = record {
  rises = subst Rises (sym (dedup_is eqb c.sort_unstable.new.self.items c.dedup.new.self.items c.dedup.ensures.filtered))
      (each_once_rises c.sort_unstable.new.self.items c.sort_unstable.ensures.sorted);
  same = λ s.
      ap (has s) (dedup_is eqb c.sort_unstable.new.self.items c.dedup.new.self.items c.dedup.ensures.filtered)
      ∙ still_has c.args.sites.items c.sort_unstable.new.self.items c.sort_unstable.ensures.permutation s;
}
