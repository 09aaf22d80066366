use Rattle.std.proofs.Common.{◌∙◌, sym, ap}
use Rattle.jl_types.specs.ForProofs.SameLink.{link_decides}
use Rattle.jl_types.specs.Linkage.Links.{same_link}
use Rattle.jl_types.specs.Events.History.{is_link}
use Rattle.jl_report.proofs.DropLaws.{by_equality}
use Rattle.jl_report.proofs.breaking.is_link.Goals as goal

pub returns-in-Ok : goal.returns-in-Ok
returns-in-Ok c =
    let found = c.in-Ok.found in
    let link = c.args.link.now in
    by_equality c.same_link.result (same_link found link) found link c.same_link.ensures (link_decides found link)
    ∙ ap (λ r. is_link r link) (sym c.in-Ok.is)
