use Rattle.std.proofs.Common.{◌≡◌, ◌++◌, take}
use Rattle.jl_journal.proofs.elements.and_all.Given as goal

-- those so far are noted
abbrev pub invariant-loop-element : goal.invariant-loop-element
invariant-loop-element g l = l.all.items ≡ l.past.items ++ take l.element-index l.elements
