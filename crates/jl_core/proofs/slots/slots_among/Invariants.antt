use Rattle.std.proofs.Common.{◌≡◌, take}
use Rattle.std.specs.Prelude.{filter_map}
use Rattle.jl_core.specs.ForProofs.Touched.{slot_at}
use Rattle.jl_core.proofs.slots.slots_among.Given as goal

-- the slots of the sites so far are made
abbrev pub invariant-loop-site : goal.invariant-loop-site
invariant-loop-site l = l.slots.items ≡ filter_map (slot_at l.before l.after) (take l.site-index l.sites)
