use Rattle.jl_types.specs.ForProofs.SameLink.{link_decides}
use Rattle.jl_types.specs.Linkage.Links as links
use Rattle.jl_types.proofs.SameAnswer.{by_decision}
use Rattle.jl_types.proofs.link.same_link.Goals as goal

pub returns : goal.returns
returns c = by_decision c.eq.result (links.same_link c.args.a c.args.b) c.eq.ensures (link_decides c.args.a c.args.b)
