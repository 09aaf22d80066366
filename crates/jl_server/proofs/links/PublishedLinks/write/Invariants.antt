use Rattle.std.proofs.Common.{◌≡◌, take}
use Rattle.jl_types.specs.Events.Entries.{written}
use Rattle.jl_server.proofs.links.PublishedLinks.write.Given as goal

abbrev pub invariant-loop-slot : goal.invariant-loop-slot
invariant-loop-slot l = l.self ≡ written l.fn.self (take l.slot-index l.slots)
