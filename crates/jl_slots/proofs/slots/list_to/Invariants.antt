use Rattle.std.specs.Prelude.{◌≡◌, ◌+◌, ◌-◌, length}
use Rattle.jl_slots.specs.ForProofs.Pages.{all_pages}
use Rattle.jl_slots.proofs.slots.list_to.Given as goal

-- all pages are as before
abbrev pub invariant-loop-pages : goal.invariant-loop-pages
invariant-loop-pages g l = all_pages l.pages.items l.blank l.count ≡ all_pages l.fn.pages.items l.blank l.count

abbrev pub decreases-loop-pages : goal.decreases-loop-pages
decreases-loop-pages g l = l.page + 1 - length l.pages.items
