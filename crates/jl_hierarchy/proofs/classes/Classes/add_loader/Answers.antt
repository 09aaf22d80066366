use Rattle.std.specs.Prelude.{ℕ, ◌<◌, ◌^◌, List, [], ◌∷◌, ◌++◌, length}
use Rattle.std.proofs.Common.{refl, ap, sym, subst, ◌∙◌}
use Rattle.jl_types.specs.Values.World.{Classes}
use Rattle.jl_hierarchy.specs.Constancy.{Stays}
use Rattle.jl_hierarchy.specs.ForProofs.Kept.{IsKept, lists}
use Rattle.jl_hierarchy.proofs.NewRecords.{kept_with_loader}
use Rattle.jl_hierarchy.proofs.KeptLaws.{good, in_order}
use Rattle.jl_hierarchy.proofs.Constancy.{stays_with_loader}
use Rattle.jl_hierarchy.proofs.classes.Classes.add_loader.Goals as goal

pub invariant_of-self-2 : goal.invariant_of-self-2
invariant_of-self-2 c =
    let loaders = c.self.inside.loaders.items in
    let inside : Classes = record { loaders = loaders; rows = c.self.inside.rows.items; retired = c.self.inside.retired.keys } in (
      subst (λ (ls : List (List (List ℕ × ℕ))). IsKept (record { loaders = ls; rows = c.self.inside.rows.items; retired = c.self.inside.retired.keys })
          c.self.inside.above.items (lists c.self.inside.below.items))
          (sym (c.in_ok-push.ensures.items ∙ ap (λ (records : List (List ℕ × ℕ)). loaders ++ records ∷ []) c.in_ok-made.ensures))
          (kept_with_loader inside c.self.inside.above.items (lists c.self.inside.below.items) c.self.invariant.0
          (subst (λ (k : Classes). length k.loaders < 2 ^ 20) (sym c.self.view_is) c.requires)),
      c.self.invariant.1,
    )

pub returns-clause-stays : goal.returns-clause-stays
returns-clause-stays c =
    let loaders = c.self.inside.loaders.items in
    let inside : Classes = record { loaders = loaders; rows = c.self.inside.rows.items; retired = c.self.inside.retired.keys } in
    subst (λ (old : Classes). Stays old (record { loaders = c.push.new.self.items; rows = c.self.inside.rows.items; retired = c.self.inside.retired.keys }))
    c.self.view_is
    (subst (λ (ls : List (List (List ℕ × ℕ))). Stays inside (record { loaders = ls; rows = c.self.inside.rows.items; retired = c.self.inside.retired.keys }))
    (sym (c.in_ok-push.ensures.items ∙ ap (λ (records : List (List ℕ × ℕ)). loaders ++ records ∷ []) c.in_ok-made.ensures))
    (stays_with_loader inside (good _ _ _ c.self.invariant.0 inside refl)))

pub returns-clause-in_order : goal.returns-clause-in_order
returns-clause-in_order c = in_order _ _ _ c.self.invariant.0 c.args.self.now c.self.view_is
