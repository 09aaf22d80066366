use Rattle.std.proofs.Common.{eqb, ap, sym, subst, ◌∙◌}
use Rattle.std.proofs.lemmas.List.Filters.{dedup_is}
use Rattle.jl_hierarchy.specs.ForProofs.Kept.{Rises}
use Rattle.jl_hierarchy.proofs.Rising.{has}
use Rattle.jl_hierarchy.proofs.Parents.{still_has, each_once_rises, has_all}
use Rattle.jl_hierarchy.proofs.classes.Classes.joined_ancestors.Goals as goal

pub returns-clause-rising : goal.returns-clause-rising
returns-clause-rising c =
    subst Rises (sym (dedup_is eqb c.sort_unstable.new.self.items c.dedup.new.self.items c.dedup.ensures.filtered))
    (each_once_rises c.sort_unstable.new.self.items c.sort_unstable.ensures.sorted)

pub returns-clause-members : goal.returns-clause-members
returns-clause-members c = λ a.
    ap (has a) (dedup_is eqb c.sort_unstable.new.self.items c.dedup.new.self.items c.dedup.ensures.filtered)
    ∙ still_has c.in_ok-joined.joined.items c.sort_unstable.new.self.items c.sort_unstable.ensures.permutation a
    ∙ ap (has a) c.in_ok-joined.ensures
    ∙ has_all c.args.self.now c.requires.ordered a c.args.classes.now
