use Rattle.std.proofs.Common.{sym, subst}
use Rattle.jl_types.specs.Events.Limits.{IsWithin}
use Rattle.jl_core.proofs.HistoryLaws.{exact_inside, exact_same, index_same}
use Rattle.jl_core.proofs.instance.Instance.copy.Goals as goal

pub invariant_of-result : goal.invariant_of-result
invariant_of-result c =
    let old = c.self.inside in
    let now =
    exact_same old.limits old.world.value c.in_ok-try_clone.field-0.value old.links c.in_ok-copy.field-0 old.log c.in_ok-copy-3.field-0
    c.in_ok-try_clone.ensures c.in_ok-copy.ensures c.in_ok-copy-3.ensures
    (exact_inside _ _ _ _ _ c.self.invariant)
    in (
      now.world,
      now.links,
      now.told,
      subst (IsWithin c.self.inside.limits) (sym c.in_ok-try_clone.ensures) c.self.invariant.3,
      c.self.invariant.4,
      now.answered,
      index_same old.world.value c.in_ok-try_clone.field-0.value old.links c.in_ok-copy.field-0 old.index c.in_ok-copy-2.field-0
          c.in_ok-try_clone.ensures c.in_ok-copy.ensures c.in_ok-copy-2.ensures c.self.invariant.6,
      now.told_then,
      now.files,
      c.self.invariant.9,
    )
