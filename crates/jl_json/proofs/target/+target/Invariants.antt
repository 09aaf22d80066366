use Rattle.std.proofs.Common.{◌+◌, ◌*◌}
use Rattle.serde_json.specs.Data.{depth}
use Rattle.serde_json.specs.View.{view}
use Rattle.jl_json.proofs.target.+target.Given as goal

-- a part lies less deep; of one value the target comes before the guard, and the guard before its parts
abbrev pub decreases-target_in : goal.decreases-target_in
decreases-target_in l = 3 * depth (view l.value.now) + 2

abbrev pub decreases-guard_in : goal.decreases-guard_in
decreases-guard_in l = 3 * depth (view l.value.now) + 1

abbrev pub decreases-target_at : goal.decreases-target_at
decreases-target_at l = 3 * depth (view l.value.now)
