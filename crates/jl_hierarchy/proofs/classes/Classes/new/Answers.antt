use Rattle.std.specs.Prelude.{◌≡◌, [], true}
use Rattle.std.proofs.Common.{rules, sym, subst, List}
use Rattle.jl_types.specs.Values.World.{Class}
use Rattle.jl_hierarchy.specs.Redeclared.{Marked, IsIndexed}
use Rattle.jl_hierarchy.proofs.NewMarks.{none_indexed}
use Rattle.jl_hierarchy.proofs.classes.Classes.new.Goals as goal

pub invariant_of-result : goal.invariant_of-result
invariant_of-result c =
    let rows : c.new-2.result.items ≡ [] = search rules in
    let marks : c.in_ok-new-2.field-0.value ≡ ([], []) = search rules in (
      search rules,
      subst (λ (rs : List Class). IsIndexed rs c.in_ok-new-2.field-0.value true) (sym rows)
          (subst (λ (ms : Marked). IsIndexed [] ms true) (sym marks) none_indexed),
    )
