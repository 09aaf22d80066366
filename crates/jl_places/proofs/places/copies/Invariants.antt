use Rattle.std.proofs.Common.{◌≡◌, take}
use Rattle.jl_places.proofs.places.copies.Given as goal

abbrev pub invariant-loop-part : goal.invariant-loop-part
invariant-loop-part l = l.made.items ≡ take l.part-index l.parts
