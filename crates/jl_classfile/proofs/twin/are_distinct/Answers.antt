use Rattle.std.proofs.Common.{rules, List, ℕ, ◌≡◌, nat_lt, subst}
use Rattle.std.specs.List.{IsAllAdjacentAnswer}
use Rattle.std.proofs.lemmas.List.Sorted.{answers_always}
use Rattle.jl_classfile.proofs.TwinLaws.{distinct_if_rising}
use Rattle.jl_classfile.proofs.twin.are_distinct.Goals as goal

pub returns : goal.returns
returns c =
    let answer = c.is_sorted_by.ensures.cases nat_lt (answers_always _ _ _ (λ f a r g k. search rules)) in
    distinct_if_rising c.args.numbers.items c.sort_unstable.new.self.items c.is_sorted_by.result c.sort_unstable.ensures.permutation
    c.sort_unstable.ensures.sorted
    (subst (λ (ys : List ℕ). IsAllAdjacentAnswer (λ x y b. b ≡ nat_lt x y) ys c.is_sorted_by.result) c.deref.ensures.value answer)
