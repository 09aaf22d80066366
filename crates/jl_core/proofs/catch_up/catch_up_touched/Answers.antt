use Rattle.std.specs.Prelude.{ℕ, List, if◌then◌else◌}
use Rattle.std.proofs.Common.{ap, ◌∙◌}
use Rattle.jl_cache.specs.Links.{link_at}
use Rattle.jl_deps.specs.Indexes.{rests_at}
use Rattle.jl_core.specs.ForProofs.Touched.{has}
use Rattle.jl_core.proofs.ReplayLaws.{links_followed, index_followed}
use Rattle.jl_core.proofs.catch_up.catch_up_touched.Goals as goal

pub returns-clause-links : goal.returns-clause-links
returns-clause-links c =
    links_followed c.args.world.now c.args.ahead.now c.args.event.now
    c.args.links.now c.forget_retired.new.links c.args.links_ahead.now c.args.index.now c.forget_retired.new.index c.args.index_ahead.now
    c.requires.further c.len-sites.ensures.rising
    c.in_ok-forget_retired.ensures.links c.in_ok-forget_retired.ensures.index
    c.in_ok-sites.sites.items (c.in_ok-sites.ensures c.requires.further.next.event c.requires.further.next.tells)
    c.take_over.new.links
    (λ s.
    c.in_ok-take_over.ensures.links s
    ∙ ap (λ (ts : List ℕ). if has s ts then link_at c.args.links_ahead.now s else link_at c.forget_retired.new.links s) c.as_slice.ensures.value)

pub returns-clause-index : goal.returns-clause-index
returns-clause-index c =
    index_followed c.args.world.now c.args.ahead.now c.args.event.now
    c.args.links.now c.forget_retired.new.links c.args.links_ahead.now c.args.index.now c.forget_retired.new.index c.args.index_ahead.now
    c.requires.further c.len-sites.ensures.rising
    c.in_ok-forget_retired.ensures.links c.in_ok-forget_retired.ensures.index
    c.in_ok-sites.sites.items (c.in_ok-sites.ensures c.requires.further.next.event c.requires.further.next.tells)
    c.take_over.new.links
    (λ s.
    c.in_ok-take_over.ensures.links s
    ∙ ap (λ (ts : List ℕ). if has s ts then link_at c.args.links_ahead.now s else link_at c.forget_retired.new.links s) c.as_slice.ensures.value)
    c.take_over.new.index
    (λ s.
    c.in_ok-take_over.ensures.index s
    ∙ ap (λ (ts : List ℕ). if has s ts then rests_at c.args.index_ahead.now s else rests_at c.forget_retired.new.index s) c.as_slice.ensures.value)
