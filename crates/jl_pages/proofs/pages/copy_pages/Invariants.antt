use Rattle.std.proofs.Common.{◌≡◌, take}
use Rattle.jl_pages.proofs.pages.copy_pages.Given as goal

abbrev pub invariant-loop-page : goal.invariant-loop-page
invariant-loop-page g l = l.made.items ≡ take l.page-index l.pages
