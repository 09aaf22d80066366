use Rattle.std.proofs.Common.{◌≡◌, take}
use Rattle.jl_journal.proofs.elements.shared.Given as goal

-- those so far are shared
abbrev pub invariant-loop-element : goal.invariant-loop-element
invariant-loop-element g l = l.copy.items ≡ take l.element-index l.elements
