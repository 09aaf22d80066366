use Rattle.std.specs.Prelude.{◌&&◌, ◌||◌, ℕ, List}
use Rattle.std.proofs.Common.{eqb, ap, sym, subst, ◌∙◌}
use Rattle.std.proofs.lemmas.List.Filters.{dedup_is}
use Rattle.jl_types.specs.Linkage.Targets.{is_valid}
use Rattle.jl_hierarchy.specs.ForProofs.Kept.{Rises}
use Rattle.jl_hierarchy.proofs.Parents.{still_has, each_once_rises}
use Rattle.jl_hierarchy.proofs.Rising.{has, one_rising}
use Rattle.jl_types.specs.Events.Footprints.{still_valid}
use Rattle.jl_deps.proofs.PointLaws.{valid_rise, valid_has}
use Rattle.jl_deps.proofs.keys.valid_among.Goals as goal

pub returns : goal.returns
returns c =
    let sites = c.args.sites.now in
    let points = c.args.points.now in
    let each_once = dedup_is eqb c.sort_unstable.new.self.items c.dedup.new.self.items c.dedup.ensures.filtered in
    one_rising c.dedup.new.self.items (still_valid sites points)
    (subst Rises (sym each_once) (each_once_rises c.sort_unstable.new.self.items c.sort_unstable.ensures.sorted))
    (valid_rise sites points)
    (λ p.
    ap (has p) each_once
    ∙ still_has c.push_valid.new.valid.items c.sort_unstable.new.self.items c.sort_unstable.ensures.permutation p
    ∙ c.in_ok-push_valid.ensures p
    ∙ ap (λ (xs : List ℕ). has p xs || (has p points && is_valid sites p)) c.new-valid.ensures.items
    ∙ sym (valid_has sites points p))
