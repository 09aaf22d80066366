use Rattle.std.specs.Prelude.{◌||◌, ◌∷◌, [], Bool, true, Some, None}
use Rattle.std.proofs.Common.{ap, sym, subst, ◌∙◌}
use Rattle.jl_types.specs.Events.Footprints.{meets}
use Rattle.jl_types.proofs.BySite.{rises_of}
use Rattle.jl_deps.specs.Indexes.{touched_by}
use Rattle.jl_deps.specs.Ways.{has}
use Rattle.jl_deps.specs.ForProofs.Lists.{AreListed}
use Rattle.jl_deps.proofs.ListLaws.{on_ok}
use Rattle.jl_deps.proofs.GroupLaws.{under_key, or_none}
use Rattle.jl_deps.proofs.TouchLaws.{all_touched}
use Rattle.jl_deps.proofs.index.Index.push_listed.Goals as goal

pub returns-in_default : goal.returns-in_default
returns-in_default c = λ s.
    let index = c.args.self.now in
    or_none (has s c.args.sites.now.items) (has s (touched_by index (c.args.key.now ∷ [])))
    (under_key (λ f. true) index (rises_of index c.len-count.ensures.rising) c.self.inside.lists
    (subst (λ rows. AreListed rows c.self.inside.lists) c.self.view_is c.self.invariant.listed) (λ keys r. meets r.footprint keys) all_touched
    c.args.key.now s None (sym c.in_default.ensures.value) tt)

pub returns : goal.returns
returns c =
    let index = c.args.self.now in
    on_ok
    (λ added s.
    added s
    ∙ ap (λ (b : Bool). has s c.args.sites.now.items || b)
    (under_key (λ f. true) index (rises_of index c.len-count.ensures.rising) c.self.inside.lists
    (subst (λ rows. AreListed rows c.self.inside.lists) c.self.view_is c.self.invariant.listed) (λ keys r. meets r.footprint keys) all_touched
    c.args.key.now s (Some c.in-Some.groups.now) (sym c.in-Some.ensures.value) c.push_groups.ensures.unique))
    c.push_groups.result c.push_groups.ensures.added
