use Rattle.std.specs.Prelude.{◌≡◌, ◌<◌, List, ℕ, length, All}
use Rattle.std.proofs.Common.{refl, ap, sym, subst, ◌∙◌}
use Rattle.jl_types.specs.Values.World.{Classes}
use Rattle.jl_types.specs.Events.Retirement.{MayRetire, losing_receivers, retired}
use Rattle.jl_hierarchy.specs.ForProofs.Kept.{AreChanged, lists}
use Rattle.jl_hierarchy.specs.Retiring.{without}
use Rattle.jl_hierarchy.proofs.KeptLaws.{in_order, many_below}
use Rattle.jl_hierarchy.proofs.NewClass.{kept_as}
use Rattle.jl_hierarchy.proofs.LoaderGone.{kept_retired, are_made}
use Rattle.jl_hierarchy.proofs.OwnRecords.{losing_there, losing_rises}
use Rattle.jl_hierarchy.proofs.classes.Classes.retire.Goals as goal

pub empty_all-requires-clause-there : goal.empty_all-requires-clause-there
empty_all-requires-clause-there c =
    subst (λ (k : Classes). All (λ l. l < length k.loaders) c.args.loaders.now) (sym c.self.view_is)
    (are_made c.args.self.now c.args.loaders.now c.requires)

-- those that lose a receiver
losing : (c : goal.After-deref) → c.deref.result.now ≡ losing_receivers c.args.self.now c.args.loaders.now
losing c = c.deref.ensures.value ∙ c.in_ok-losing.ensures

pub drop_own_receivers-requires-clause-there : goal.drop_own_receivers-requires-clause-there
drop_own_receivers-requires-clause-there c =
    subst (λ n. All (λ k. k < n) c.deref.result.now) (many_below _ _ _ c.self.invariant.0 c.args.self.now c.self.view_is c.self.inside.below.items refl)
    (losing_there c.args.self.now c.args.loaders.now c.deref.result.now (losing c))

pub drop_own_receivers-requires-clause-rising : goal.drop_own_receivers-requires-clause-rising
drop_own_receivers-requires-clause-rising c = losing_rises c.args.self.now c.args.loaders.now c.deref.result.now (losing c)

pub invariant_of-self-2 : goal.invariant_of-self-2
invariant_of-self-2 c =
    let inside : Classes = record { loaders = c.self.inside.loaders.items; rows = c.self.inside.rows.items; retired = c.self.inside.retired.keys } in (
      kept_as (record { loaders = c.empty_all.new.loaders.items; rows = c.self.inside.rows.items; retired = c.add_all.new.retired.keys })
          (retired inside c.args.loaders.now) c.self.inside.above.items c.self.inside.above.items
          (lists c.drop_own_receivers.new.below.items) (lists c.drop_own_receivers.new.below.items)
          (λ i. record { loaders = c.empty_all.ensures i; rows = c.self.inside.rows.items; retired = c.in_ok-add_all.ensures.ok i })
          refl refl
          (kept_retired inside c.args.loaders.now (subst (λ (k : Classes). MayRetire k c.args.loaders.now) (sym c.self.view_is) c.requires)
          c.self.inside.above.items (lists c.self.inside.below.items) c.self.invariant.0
          c.deref.result.now
          (c.deref.ensures.value ∙ c.in_ok-losing.ensures ∙ ap (λ (k : Classes). losing_receivers k c.args.loaders.now) (sym c.self.view_is))
          (lists c.drop_own_receivers.new.below.items)
          (subst (λ (gone : List ℕ). AreChanged c.deref.result.now (without c.self.inside.rows.items gone) (lists c.self.inside.below.items)
          (lists c.drop_own_receivers.new.below.items)) c.in_ok-add_all.ensures.ok c.drop_own_receivers.ensures)),
      c.self.invariant.1,
    )

pub returns-clause-in_order : goal.returns-clause-in_order
returns-clause-in_order c = in_order _ _ _ c.self.invariant.0 c.args.self.now c.self.view_is
