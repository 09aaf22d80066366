use Rattle.std.proofs.Common.{◌≡◌, not, map}
use Rattle.std.specs.List.{range_with_len}
use Rattle.jl_types.specs.Values.Members.{is_retired}
use Rattle.jl_renewal.proofs.stays.loaders_below.Given as goal

abbrev pub invariant-loop-loader : goal.invariant-loop-loader
invariant-loop-loader l = l.stays.items ≡ map (λ k. not (is_retired l.classes k)) (range_with_len 0 l.loader)
