use Rattle.std.proofs.Common.{◌≡◌}
use Rattle.std.specs.Prelude.{filter_map}
use Rattle.std.specs.List.{range_with_len}
use Rattle.jl_renewal.specs.Renewal.{invalid_point}
use Rattle.jl_renewal.proofs.call_sites.invalid_points.Given as goal

abbrev pub invariant-loop-point : goal.invariant-loop-point
invariant-loop-point l = l.points.items ≡ filter_map (invalid_point l.old l.numbers) (range_with_len 0 l.point)
