-- If an invocation has a link, that is the one from scratch.
use Rattle.std.proofs.Common.{◌≡◌, Option, Some, None}
use Rattle.std.specs.Prelude.{Result, Ok, Err}
use Rattle.jl_types.specs.declared.answer.Unlinked.{Unlinked}
use Rattle.jl_types.specs.declared.link.Link.{Link}
use Rattle.jl_types.specs.declared.refusal.NotLinkable.{NotLinkable}
use Rattle.jl_types.specs.Values.World.{World}
use Rattle.jl_types.specs.Linkage.Links.{scratch}
use Rattle.jl_report.specs.declared.row.Finding.TheVariants.{Linked}
use Rattle.jl_report.specs.Reports.{found, finding_in}

pub found_linked : (r : Result Link Unlinked) (l : Link) → found r ≡ Linked l → r ≡ Ok l
found_linked (Ok m) l e = cc
found_linked (Err reason) l e = cc

pub in_world : (w : World) (never : Option NotLinkable) (l : Link) → finding_in w never ≡ Linked l → scratch w 0 ≡ Ok l
in_world w None l e = found_linked (scratch w 0) l e
in_world w (Some reason) l e = cc
