use Rattle.jl_server.proofs.SlotLaws.{made_slots, made_none}
use Rattle.jl_server.proofs.links.PublishedLinks.new.Goals as goal

pub invariant_of-result : goal.invariant_of-result
invariant_of-result c =
    made_slots c.args.sites _ _ _ _ c.in_ok-filled.ensures c.in_ok-filled-2.ensures
    c.in_ok-with_capacity.ensures.items c.in_ok-with_capacity.ensures.exact c.ranges.sites.fits

pub returns : goal.returns
returns c = made_none c.args.sites _ _ c.in_ok-filled.ensures c.in_ok-with_capacity.ensures.items
