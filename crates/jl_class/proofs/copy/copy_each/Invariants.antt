use Rattle.std.proofs.Common.{◌≡◌, take}
use Rattle.jl_class.proofs.copy.copy_each.Given as goal

-- those so far are copied
abbrev pub invariant-loop-name : goal.invariant-loop-name
invariant-loop-name l = l.copies.items ≡ take l.name-index l.names
