use Rattle.std.proofs.Common.{◌≡◌, map}
use Rattle.std.specs.List.{range_with_len}
use Rattle.jl_types.specs.Values.Members.{is_present}
use Rattle.jl_renewal.proofs.stays.classes_that_stay.Given as goal

abbrev pub invariant-loop-class : goal.invariant-loop-class
invariant-loop-class l = l.stays.items ≡ map (is_present l.classes) (range_with_len 0 l.class)
