use Rattle.std.proofs.Common.{ltb, ltb-true, ltb-false, rules}
use Rattle.std.proofs.lemmas.List.Sorted.{IsPartitionPoint-from_clause, IsPartitionedBy-ltb}
use Rattle.jl_hierarchy.specs.declared.row.Printed.{Printed}
use Rattle.jl_hierarchy.proofs.row.first_not_below.Goals as goal

pub returns-clause-split : goal.returns-clause-split
returns-clause-split c =
    let parted = IsPartitionedBy-ltb (λ (e : Printed). e.print) _ c.args.print c.requires in
    let point = IsPartitionPoint-from_clause (λ (e : Printed). ltb e.print c.args.print) _ _ c.partition_point.ensures.partitioned parted
    (λ a r q k. search rules) in
    (λ k d ge lt. ltb-true _ _ (point.0 k d ge lt), λ k d ge lt. ltb-false _ _ (point.1 k d ge lt))
