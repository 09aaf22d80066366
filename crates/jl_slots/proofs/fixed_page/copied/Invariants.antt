use Rattle.std.proofs.Common.{◌≡◌, take}
use Rattle.jl_slots.proofs.fixed_page.copied.Given as goal

abbrev pub invariant-loop-element : goal.invariant-loop-element
invariant-loop-element g l = l.made.items ≡ take l.element-index l.elements
