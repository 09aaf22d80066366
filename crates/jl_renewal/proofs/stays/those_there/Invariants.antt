use Rattle.std.proofs.Common.{◌≡◌, ◌&&◌, false, not, map, get_or}
use Rattle.std.specs.List.{range_with_len}
use Rattle.jl_types.specs.Values.World.{is_missing}
use Rattle.jl_renewal.proofs.stays.those_there.Given as goal

abbrev pub invariant-loop-point : goal.invariant-loop-point
invariant-loop-point l =
    l.kept.items ≡ map (λ p. not (is_missing l.sites.switches p) && get_or l.wanted p false) (range_with_len 0 l.point)
