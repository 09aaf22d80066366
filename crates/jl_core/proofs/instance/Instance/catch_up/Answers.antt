use Rattle.std.proofs.Common.{sym, subst, ◌∙◌}
use Rattle.jl_types.specs.Values.World.{World}
use Rattle.jl_relink.specs.Laws.{IsInOrder}
use Rattle.jl_cache.specs.Links.{link_at}
use Rattle.jl_deps.specs.Indexes.{IsIndex}
use Rattle.jl_core.proofs.HistoryLaws.{exact_inside}
use Rattle.jl_core.proofs.CatchUpLaws.{behind_inside, none_behind, next_entry, is_further, are_gone, kept_so, same_core}
use Rattle.jl_core.proofs.instance.Instance.catch_up.Goals as goal

pub returns-in_default : goal.returns-in_default
returns-in_default c =
    none_behind c.self.inside.limits c.ahead.inside.limits c.self.inside.world.value c.ahead.inside.world.value c.self.inside.log
    c.ahead.inside.log c.self.invariant.2 c.ahead.invariant.2 (behind_inside c.self.view_is c.ahead.view_is c.requires)
    (next_entry c.self.inside.limits c.ahead.inside.limits c.self.inside.world.value c.ahead.inside.world.value c.self.inside.log c.ahead.inside.log
    c.len-place.ensures c.self.invariant.2 c.ahead.invariant.2 (behind_inside c.self.view_is c.ahead.view_is c.requires) c.in_default.ensures)
    ∙ c.ahead.view_is

pub catch_up-requires-clause-further : goal.catch_up-requires-clause-further
catch_up-requires-clause-further c =
    is_further c.self.inside.limits c.self.inside.world.value c.self.inside.links c.self.inside.log
    c.ahead.inside.limits c.ahead.inside.world.value c.ahead.inside.log c.in-Some.entry.now
    (exact_inside _ _ _ _ _ c.self.invariant)
    c.ahead.invariant.0 c.ahead.invariant.2 c.ahead.invariant.5 (behind_inside c.self.view_is c.ahead.view_is c.requires)
    (next_entry c.self.inside.limits c.ahead.inside.limits c.self.inside.world.value c.ahead.inside.world.value c.self.inside.log c.ahead.inside.log
    c.len-place.ensures c.self.invariant.2 c.ahead.invariant.2 (behind_inside c.self.view_is c.ahead.view_is c.requires) c.in-Some.ensures) c.self.invariant.9
    c.self.inside.index c.ahead.inside.index (subst IsInOrder c.deref.ensures c.note_order.ensures)
    c.len-sites.ensures.rising c.self.invariant.6 c.ahead.inside.links c.ahead.invariant.1 c.ahead.invariant.6

pub catch_up-requires-clause-gone : goal.catch_up-requires-clause-gone
catch_up-requires-clause-gone c =
    are_gone c.self.inside.limits c.self.inside.world.value c.self.inside.links c.self.inside.log
    c.ahead.inside.limits c.ahead.inside.world.value c.ahead.inside.log c.in-Some.entry.now
    (exact_inside _ _ _ _ _ c.self.invariant)
    c.ahead.invariant.0 c.ahead.invariant.2 c.ahead.invariant.5 (behind_inside c.self.view_is c.ahead.view_is c.requires)
    (next_entry c.self.inside.limits c.ahead.inside.limits c.self.inside.world.value c.ahead.inside.world.value c.self.inside.log c.ahead.inside.log
    c.len-place.ensures c.self.invariant.2 c.ahead.invariant.2 (behind_inside c.self.view_is c.ahead.view_is c.requires) c.in-Some.ensures) c.self.invariant.9
    c.self.inside.index c.ahead.inside.index (subst IsInOrder c.deref.ensures c.note_order.ensures)
    c.len-sites.ensures.rising c.self.invariant.6 c.ahead.inside.links c.ahead.invariant.1 c.ahead.invariant.6

pub invariant_of-result-2 : goal.invariant_of-result-2
invariant_of-result-2 c =
    let next =
    kept_so c.self.inside.limits c.self.inside.world.value c.self.inside.links c.self.inside.log
    c.ahead.inside.limits c.ahead.inside.world.value c.ahead.inside.log c.in-Some.entry.now
    (exact_inside _ _ _ _ _ c.self.invariant)
    c.ahead.invariant.0 c.ahead.invariant.2 c.ahead.invariant.5 (behind_inside c.self.view_is c.ahead.view_is c.requires)
    (next_entry c.self.inside.limits c.ahead.inside.limits c.self.inside.world.value c.ahead.inside.world.value c.self.inside.log c.ahead.inside.log
    c.len-place.ensures c.self.invariant.2 c.ahead.invariant.2 (behind_inside c.self.view_is c.ahead.view_is c.requires) c.in-Some.ensures) c.self.invariant.9
    c.catch_up.new.world.value c.catch_up.new.links c.catch_up.new.log c.in_ok-catch_up.ensures.world
    c.ahead.inside.links c.ahead.invariant.1 c.in_ok-catch_up.ensures.links c.in_ok-catch_up.ensures.log c.ahead.invariant.8 c.ahead.invariant.3
    in (
      next.0.world,
      next.0.links,
      next.0.told,
      next.1,
      c.self.invariant.4,
      next.0.answered,
      subst (λ (w : World). IsIndex w (link_at c.catch_up.new.links) c.catch_up.new.index) (sym c.in_ok-catch_up.ensures.world) c.in_ok-catch_up.ensures.index,
      next.0.told_then,
      next.0.files,
      c.self.invariant.9,
    )

pub returns : goal.returns
returns c =
    same_core c.self.inside.limits c.self.inside.world.value c.self.inside.links c.self.inside.log
    c.ahead.inside.limits c.ahead.inside.world.value c.ahead.inside.log c.in-Some.entry.now
    (exact_inside _ _ _ _ _ c.self.invariant)
    c.ahead.invariant.0 c.ahead.invariant.2 c.ahead.invariant.5 (behind_inside c.self.view_is c.ahead.view_is c.requires)
    (next_entry c.self.inside.limits c.ahead.inside.limits c.self.inside.world.value c.ahead.inside.world.value c.self.inside.log c.ahead.inside.log
    c.len-place.ensures c.self.invariant.2 c.ahead.invariant.2 (behind_inside c.self.view_is c.ahead.view_is c.requires) c.in-Some.ensures) c.self.invariant.9
    c.catch_up.new.world.value c.catch_up.new.links c.catch_up.new.log c.in_ok-catch_up.ensures.world
    c.ahead.inside.links c.ahead.invariant.1 c.in_ok-catch_up.ensures.links c.in_ok-catch_up.ensures.log
    ∙ c.ahead.view_is
