use Rattle.std.proofs.Common.{◌≡◌, take}
use Rattle.jl_slots.proofs.slots.copies.Given as goal

abbrev pub invariant-loop-page : goal.invariant-loop-page
invariant-loop-page g l = l.made.items ≡ take l.page-index l.pages
