use Rattle.std.specs.Prelude.{ℕ, List, None, if◌then◌else◌}
use Rattle.std.proofs.Common.{ap, ◌∙◌}
use Rattle.jl_types.specs.Events.Retirement.{retires_site}
use Rattle.jl_cache.specs.Links.{link_at}
use Rattle.jl_deps.specs.Indexes.{rests_at}
use Rattle.jl_core.specs.ForProofs.Touched.{has}
use Rattle.jl_core.proofs.RetireLaws.{dropped_all, taken_all}
use Rattle.jl_core.proofs.catch_up.forget_sites_of.Goals as goal

pub returns-clause-links : goal.returns-clause-links
returns-clause-links c = λ s.
    c.in_ok-forget.ensures.links s
    ∙ ap (λ (ts : List ℕ). if has s ts then None else link_at c.args.links.now s) c.as_slice.ensures.value
    ∙ dropped_all c.args.links.now (retires_site c.args.world.now c.args.loaders.now) c.in_ok-sites.sites.items
    c.in_ok-sites.ensures.only (λ t l at. c.in_ok-sites.ensures.linked t l (c.requires.scratch t l at)) s

pub returns-clause-index : goal.returns-clause-index
returns-clause-index c = λ s.
    c.in_ok-forget.ensures.index s
    ∙ ap (λ (ts : List ℕ). if has s ts then None else rests_at c.args.index.now s) c.as_slice.ensures.value
    ∙ taken_all c.args.links.now (retires_site c.args.world.now c.args.loaders.now) c.in_ok-sites.sites.items
    c.in_ok-sites.ensures.only (λ t l at. c.in_ok-sites.ensures.linked t l (c.requires.scratch t l at)) s
    c.args.world.now c.args.index.now c.requires.indexed
