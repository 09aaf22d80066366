use Rattle.std.proofs.Common.{refl}
use Rattle.jl_places.proofs.PlaceLaws.{found_first}
use Rattle.jl_places.proofs.places.Places.new.Goals as goal

pub invariant_of-result : goal.invariant_of-result
invariant_of-result c =
    found_first 1024 c.in_ok-repeated.field-0.items c.in_ok-part.part c.new-2.result.items refl c.in_ok-repeated.ensures c.in_ok-part.ensures
    c.new-2.ensures
