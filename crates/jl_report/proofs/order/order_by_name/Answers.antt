use Rattle.std.proofs.Common.{rules, ◌≡◌}
use Rattle.std.specs.Ordering.{nat_cmp, is_lt}
use Rattle.std.specs.Cmp.Lexicographic.{slice_cmp}
use Rattle.std.proofs.lemmas.Cmp.{nat_list_cmp_total}
use Rattle.std.proofs.lemmas.Fn.{always_returns_same}
use Rattle.std.proofs.lemmas.List.Sorted.{ranks_by}
use Rattle.std.proofs.lemmas.Result.{on_ok_weaker}
use Rattle.jl_report.specs.Order.{name_of}
use Rattle.jl_report.proofs.order.order_by_name.Goals as goal

pub returns-clause-order : goal.returns-clause-order
returns-clause-order c =
    let name = name_of c.args.classes.now in
    on_ok_weaker c.sort_by.result
    (λ sorted. sorted (λ x y. is_lt (slice_cmp nat_cmp (name x) (name y))) (ranks_by nat_list_cmp_total name)
    (always_returns_same _ (λ a r. is_lt r ≡ is_lt (slice_cmp nat_cmp (name a.0.now) (name a.1.0.now))) _ (λ a r f k. (search rules, search rules))))
    c.sort_by.ensures.sorted
