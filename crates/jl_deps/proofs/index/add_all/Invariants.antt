use Rattle.std.proofs.Common.{◌≡◌, ◌≤◌, ◌-◌, ◌^◌, ℕ, None, if◌then◌else◌}
use Rattle.std.specs.Prelude.{nat_lt}
use Rattle.jl_deps.specs.Indexes.{rests_at}
use Rattle.jl_deps.proofs.index.add_all.Given as goal

-- the numbers so far are added
abbrev pub invariant-loop-number : goal.invariant-loop-number
invariant-loop-number l = record {
  within : l.from ≤ 2 ^ 32;
  added : (s : ℕ) → rests_at l.copy s ≡ (if nat_lt s l.from then rests_at l.sites.entries s else None);
}

abbrev pub decreases-loop-number : goal.decreases-loop-number
decreases-loop-number l = 2 ^ 32 - l.from
