use Rattle.std.proofs.Common.{◌-◌, ◌≡◌, ◌≤◌, drop, length}
use Rattle.std.specs.List.{list_any}
use Rattle.jl_hierarchy.specs.ForProofs.Kept.{named}
use Rattle.jl_hierarchy.specs.Retiring.{is_row_of_any}
use Rattle.jl_hierarchy.proofs.loader.Records.has_any_of.Given as goal

-- one is of the loaders if one from here on is
abbrev pub invariant-loop-class : goal.invariant-loop-class
invariant-loop-class l = record {
  within : l.place ≤ length l.self-inside.records.entries;
  same : list_any (λ r. is_row_of l.rows.items l.leaving.now r.1) (named l.self-inside.records.entries)
      ≡ list_any (λ r. is_row_of l.rows.items l.leaving.now r.1) (named (drop l.place l.self-inside.records.entries));
}

abbrev pub decreases-loop-class : goal.decreases-loop-class
decreases-loop-class l = length l.self-inside.records.entries - l.place
