use Rattle.std.specs.Prelude.{◌≡◌, ◌||◌, ◌∷◌, [], Bool, true, false, Some, None}
use Rattle.std.proofs.Common.{sym, subst, ◌∙◌}
use Rattle.jl_types.specs.Events.Footprints.{meets}
use Rattle.jl_types.proofs.BySite.{rises_of}
use Rattle.jl_deps.specs.Ways.{has}
use Rattle.jl_deps.specs.ForProofs.Lists.{AreListed}
use Rattle.jl_deps.proofs.AskedLaws.{asked_under}
use Rattle.jl_deps.proofs.ListLaws.{on_ok}
use Rattle.jl_deps.proofs.GroupLaws.{under_key}
use Rattle.jl_deps.proofs.TouchLaws.{all_touched, by_one}
use Rattle.jl_deps.proofs.index.Index.push_asked.Goals as goal

pub returns-in_default-clause-all : goal.returns-in_default-clause-all
returns-in_default-clause-all c = λ s h.
    let index = c.args.self.now in
    let never : false ≡ true =
    under_key (λ f. true) index (rises_of index c.len-count.ensures.rising) c.self.inside.lists
    (subst (λ rows. AreListed rows c.self.inside.lists) c.self.view_is c.self.invariant.listed)
    (λ keys r. meets r.footprint keys) all_touched c.args.key.now s None (sym c.in_default.ensures.value) tt ∙ h in
    cc

pub returns-clause-touched : goal.returns-clause-touched
returns-clause-touched c =
    let index = c.args.self.now in
    on_ok
    (λ among s h.
    subst (λ (b : Bool). (has s c.args.sites.now.items || b) ≡ true)
    (under_key (λ f. true) index (rises_of index c.len-count.ensures.rising) c.self.inside.lists
    (subst (λ rows. AreListed rows c.self.inside.lists) c.self.view_is c.self.invariant.listed)
    (λ keys r. meets r.footprint keys) all_touched c.args.key.now s (Some c.in-Some.groups.now) (sym c.in-Some.ensures.value) c.push_firsts.ensures.unique)
    (among s h))
    c.push_firsts.result c.push_firsts.ensures.touched

pub returns-clause-all : goal.returns-clause-all
returns-clause-all c =
    let index = c.args.self.now in
    on_ok
    (λ all s h.
    asked_under index c.self.inside.lists (subst (λ rows. AreListed rows c.self.inside.lists) c.self.view_is c.self.invariant.listed) c.args.key.now
    c.in-Some.groups.now (sym c.in-Some.ensures.value) c.push_firsts.new.sites.items all s
    (sym (by_one (λ f. true) (λ keys r. meets r.footprint keys) all_touched index (rises_of index c.len-count.ensures.rising) c.args.key.now s) ∙ h))
    c.push_firsts.result c.push_firsts.ensures.all
