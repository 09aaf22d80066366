use Rattle.std.specs.Prelude.{◌≡◌, ℕ, List, length}
use Rattle.std.proofs.Common.{ap, subst, ◌∙◌, arith, rules}
use Rattle.jl_hierarchy.specs.ForProofs.Kept.{IsAppended, lists}
use Rattle.jl_hierarchy.specs.ForProofs.Growing.{gaining}
use Rattle.jl_hierarchy.proofs.Appending.{with_own}
use Rattle.jl_hierarchy.proofs.define.push_all.Goals as goal

pub returns-clause-below : goal.returns-clause-below
returns-clause-below c =
    let class = c.args.new_class.class in
    let new = c.append_to_each.new.below in
    let those : c.receiving.result.now ≡ gaining c.args.new_class = search rules in
    let old : lists c.as_mut_slice.result.now ≡ lists c.args.below.now.items = search rules in
    let many : length new ≡ c.args.below.now.len = omega arith in (
      lists new,
      subst (λ (xs : List ℕ). IsAppended xs class (lists c.args.below.now.items) (lists new)) those
          (subst (λ (ls : List (List ℕ)). IsAppended c.receiving.result.now class ls (lists new)) old c.append_to_each.ensures),
      ap lists c.push_reserved.ensures.items ∙ with_own c.args.below.now.len c.args.below.now.items new c.args.new_class.own many,
    )
