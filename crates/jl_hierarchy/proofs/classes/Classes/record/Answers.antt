use Rattle.std.specs.Prelude.{◌≡◌, ℕ, List, Some, false}
use Rattle.std.proofs.Common.{refl, sym, subst, rules}
use Rattle.jl_types.specs.Values.World.{Classes}
use Rattle.jl_hierarchy.specs.Constancy.{Stays}
use Rattle.jl_types.specs.Values.Members.{is_retired, lookup}
use Rattle.jl_hierarchy.specs.ForProofs.Kept.{IsKept, lists}
use Rattle.jl_hierarchy.proofs.NewRecords.{kept_with_record}
use Rattle.jl_hierarchy.proofs.KeptLaws.{good, in_order}
use Rattle.jl_hierarchy.proofs.Constancy.{stays_with_record}
use Rattle.jl_hierarchy.proofs.classes.Classes.record.Goals as goal

pub invariant_of-self-2 : goal.invariant_of-self-2
invariant_of-self-2 c =
    let inside : Classes = record { loaders = c.self.inside.loaders.items; rows = c.self.inside.rows.items; retired = c.self.inside.retired.keys } in (
      subst (λ (ls : List (List (List ℕ × ℕ))). IsKept (record { loaders = ls; rows = c.self.inside.rows.items; retired = c.self.inside.retired.keys })
          c.self.inside.above.items (lists c.self.inside.below.items))
          (sym c.in_ok-record_in.ensures.ok)
          (kept_with_record inside c.self.inside.above.items (lists c.self.inside.below.items) c.self.invariant.0 c.requires.recorded.0 c.args.loader
          c.in_ok-name.name.items c.args.class
          (subst (λ (k : Classes). is_retired k c.requires.recorded.0 ≡ false) (sym c.self.view_is) c.requires.recorded.1)
          (subst (λ (k : Classes). lookup k c.requires.recorded.0 c.in_ok-name.name.items ≡ Some c.args.class) (sym c.self.view_is)
          (subst (λ name. lookup c.args.self.now c.requires.recorded.0 name ≡ Some c.args.class) (sym is) c.requires.recorded.2))),
      c.self.invariant.1,
    )
  where
    is : c.in_ok-name.name.items ≡ c.args.name.now
    is = search rules

pub returns-clause-stays : goal.returns-clause-stays
returns-clause-stays c =
    let inside : Classes = record { loaders = c.self.inside.loaders.items; rows = c.self.inside.rows.items; retired = c.self.inside.retired.keys } in
    subst (λ (old : Classes). Stays old (record {
      loaders = c.record_in.new.loaders.items;
      rows = c.self.inside.rows.items;
      retired = c.self.inside.retired.keys;
    })) c.self.view_is
    (subst (λ (ls : List (List (List ℕ × ℕ))). Stays inside (record { loaders = ls; rows = c.self.inside.rows.items; retired = c.self.inside.retired.keys }))
    (sym c.in_ok-record_in.ensures.ok)
    (stays_with_record inside (good _ _ _ c.self.invariant.0 inside refl) c.args.loader c.in_ok-name.name.items c.args.class))

pub returns-clause-in_order : goal.returns-clause-in_order
returns-clause-in_order c = in_order _ _ _ c.self.invariant.0 c.args.self.now c.self.view_is
