use Rattle.std.proofs.Common.{rules, ◌∙◌, ap, filter}
use Rattle.std.proofs.lemmas.List.Sorted.{IsNonDecreasingBy-from_sort_by_key, answers_always}
use Rattle.jl_hierarchy.specs.declared.row.Printed.{Printed}
use Rattle.jl_hierarchy.specs.Prints.{has_print}
use Rattle.jl_hierarchy.proofs.PrintLaws.{same_of_print}
use Rattle.jl_hierarchy.proofs.row.sorted_prints.Goals as goal

pub returns : goal.returns
returns c = (
  IsNonDecreasingBy-from_sort_by_key (λ (e : Printed). e.print) _ c.in_ok-sort_by_key.ensures.sorted (λ a r q k. search rules),
  λ p. same_of_print _ _ (c.sort_by_key.ensures.stable (λ (e : Printed). e.print) (answers_always _ _ _ (λ f a r g h. search rules))) p
      ∙ ap (filter (has_print p)) c.in_ok-prints.ensures,
)
