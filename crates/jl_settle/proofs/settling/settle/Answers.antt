use Rattle.std.specs.Prelude.{◌≡◌, ◌==◌, ◌&&◌, ℕ, List, None, if◌then◌else◌}
use Rattle.std.proofs.Common.{ap, sym, subst, ◌∙◌, arith}
use Rattle.jl_hierarchy.proofs.Rising.{has}
use Rattle.jl_cache.specs.Links.{link_at}
use Rattle.jl_deps.specs.Indexes.{rests_at, rests_if, is_asked, AreAsked}
use Rattle.jl_settle.specs.Settling.{goes, most_asked}
use Rattle.jl_settle.proofs.SettleLaws.{each_asked, is_there, asked_within, are_up_to_date}
use Rattle.jl_settle.proofs.settling.settle.Goals as goal

pub lost_among-requires-clause-there : goal.lost_among-requires-clause-there
lost_among-requires-clause-there c = is_there c.args.world.now c.args.keys.now c.args.defined (link_at c.args.links.now) c.args.index.now c.requires.changed
    c.asked.ensures.rising

pub lost_among-requires-clause-each : goal.lost_among-requires-clause-each
lost_among-requires-clause-each c =
    each_asked c.args.world.now c.args.keys.now c.args.defined (link_at c.args.links.now) c.args.index.now c.requires.changed c.asked.ensures.rising
    c.as_slice.result.now (subst (AreAsked c.args.index.now c.args.keys.now) (sym c.as_slice.ensures.value) c.in_ok-asked.ensures.asked)

pub lost_among-requires-clause-fits : goal.lost_among-requires-clause-fits
lost_among-requires-clause-fits c =
    let le = asked_within c.args.index.now c.args.keys.now c.as_slice.result.now (most_asked c.args.world.now c.args.defined) c.asked.ensures.rising
    (subst (AreAsked c.args.index.now c.args.keys.now) (sym c.as_slice.ensures.value) c.in_ok-asked.ensures.asked) in
    let fits = c.requires.fits in
    omega (arith, le, fits)

pub returns-clause-ticks : goal.returns-clause-ticks
returns-clause-ticks c =
    let le = asked_within c.args.index.now c.args.keys.now c.as_slice.result.now (most_asked c.args.world.now c.args.defined) c.asked.ensures.rising
    (subst (AreAsked c.args.index.now c.args.keys.now) (sym c.as_slice.ensures.value) c.in_ok-asked.ensures.asked) in
    let looked = c.in_ok-gone.ensures.ticks in
    omega (arith, le, looked)

pub returns-clause-up_to_date : goal.returns-clause-up_to_date
returns-clause-up_to_date c =
    let w = c.args.world.now in
    let links = link_at c.args.links.now in
    let index = c.args.index.now in
    are_up_to_date w c.args.keys.now c.args.defined links index c.requires.changed c.asked.ensures.rising
    c.in_ok-asked.asked.items c.in_ok-gone.gone.items c.in_ok-lost.lost.items (link_at c.drop_changed.new.self) c.in_ok-asked.ensures.asked
    (λ s. c.in_ok-gone.ensures.lost s ∙ ap (λ (ts : List ℕ). has s ts && goes w links s) c.as_slice.ensures.value)
    (λ s. c.in_ok-lost.ensures s ∙ ap (λ (ts : List ℕ). is_asked index ts s) c.as_slice-2.ensures.value)
    (λ s. c.drop_changed.ensures.links s ∙ ap (λ (ts : List ℕ). if has s ts then None else links s) c.as_slice-3.ensures.value)
    c.reindex.new.index
    (λ some s. c.in_ok-reindex.ensures.taken some s ∙ ap (λ (ts : List ℕ). if has s ts then None else rests_at index s) c.as_slice-5.ensures.value)
    (λ none s.
    c.in_ok-reindex.ensures.looked_up none s
    ∙ (λ i. if has s (c.as_slice-4.ensures.value i) then rests_if w s (link_at c.drop_changed.new.self s)
    else if has s (c.as_slice-5.ensures.value i) then None else rests_at index s))
