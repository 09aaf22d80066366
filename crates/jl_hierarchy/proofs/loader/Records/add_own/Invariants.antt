use Rattle.std.proofs.Common.{◌-◌, ◌≡◌, ◌≤◌, ◌++◌, drop, length}
use Rattle.jl_hierarchy.specs.ForProofs.Kept.{named}
use Rattle.jl_hierarchy.specs.Retiring.{own_recorded}
use Rattle.jl_hierarchy.proofs.loader.Records.add_own.Given as goal

-- those so far, with those from here on, are all
abbrev pub invariant-loop-class : goal.invariant-loop-class
invariant-loop-class l = record {
  within : l.place ≤ length l.self-inside.records.entries;
  all : l.own.items ++ own_recorded l.rows.items l.loader (named (drop l.place l.self-inside.records.entries))
      ≡ l.fn.own.items ++ own_recorded l.rows.items l.loader (named l.self-inside.records.entries);
}

abbrev pub decreases-loop-class : goal.decreases-loop-class
decreases-loop-class l = length l.self-inside.records.entries - l.place
