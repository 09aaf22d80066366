use Rattle.std.proofs.Common.{◌≡◌, take}
use Rattle.jl_pages.proofs.pages.copy_items.Given as goal

abbrev pub invariant-loop-item : goal.invariant-loop-item
invariant-loop-item g l = l.made.items ≡ take l.item-index l.items
