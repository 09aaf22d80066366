use Rattle.std.proofs.Common.{ap, ◌∙◌, replicate}
use Rattle.jl_pages.specs.ForProofs.Pages.{elements}
use Rattle.jl_slots.specs.ForProofs.Pages.{all_pages}
use Rattle.jl_slots.proofs.SlotLaws.{all_alike, none_listed}
use Rattle.jl_slots.proofs.slots.Slots.filled.Goals as goal

pub returns : goal.returns
returns g c =
    ap (λ pages. elements (all_pages pages c.in_ok-filled.field-0 c.args.pages)) c.new.ensures.items
    ∙ ap elements (none_listed c.in_ok-filled.field-0 c.args.pages ∙ ap (replicate c.args.pages) c.in_ok-filled.ensures)
    ∙ all_alike c.args.pages c.args.element
