use Rattle.std.proofs.Common.{eqb, ap, sym, subst, ◌∙◌}
use Rattle.std.proofs.lemmas.List.Filters.{dedup_is}
use Rattle.jl_hierarchy.specs.ForProofs.Kept.{Rises}
use Rattle.jl_hierarchy.proofs.Parents.{still_has, each_once_rises}
use Rattle.jl_hierarchy.proofs.Rising.{has}
use Rattle.jl_deps.proofs.index.put_in_order.Goals as goal

pub returns-clause-rising : goal.returns-clause-rising
returns-clause-rising c =
    let each_once = dedup_is eqb c.sort_unstable.new.self.items c.dedup.new.self.items c.dedup.ensures.filtered in
    subst Rises (sym each_once) (each_once_rises c.sort_unstable.new.self.items c.sort_unstable.ensures.sorted)

pub returns-clause-same : goal.returns-clause-same
returns-clause-same c = λ s.
    ap (has s) (dedup_is eqb c.sort_unstable.new.self.items c.dedup.new.self.items c.dedup.ensures.filtered)
    ∙ still_has c.args.sites.now.items c.sort_unstable.new.self.items c.sort_unstable.ensures.permutation s
