use Rattle.std.proofs.Common.{◌≡◌, ◌==◌, ◌≤◌, ◌-◌, ◌||◌, ℕ, take, length}
use Rattle.std.specs.List.{list_any}
use Rattle.jl_deps.specs.ForProofs.Lists.{any_listed}
use Rattle.jl_deps.proofs.index.push_groups.Given as goal

-- the groups so far are added
abbrev pub invariant-loop-listed : goal.invariant-loop-listed
invariant-loop-listed l = record {
  within : l.place ≤ length l.groups.entries;
  added : (s : ℕ) → list_any (λ t. t == s) l.sites.items
      ≡ (list_any (λ t. t == s) l.fn.sites.items || any_listed (take l.place l.groups.entries) s);
}

abbrev pub decreases-loop-listed : goal.decreases-loop-listed
decreases-loop-listed l = length l.groups.entries - l.place
