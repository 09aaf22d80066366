use Rattle.std.proofs.Common.{◌≡◌, ◌++◌, filter_map}
use Rattle.jl_types.specs.Events.Footprints.{call_site_in, point_in}
use Rattle.jl_callsites.proofs.Turns.{turns_at}
use Rattle.jl_deps.specs.Ways.{way}
use Rattle.jl_deps.proofs.footprint.push_way.Given as goal

-- those so far and those from here on are those of the whole way
abbrev pub invariant-loop-target : goal.invariant-loop-target
invariant-loop-target l = record {
  call_sites : l.call_sites.items ++ filter_map call_site_in (way l.sites l.call_site l.target)
      ≡ l.fn.call_sites.items ++ filter_map call_site_in (way l.fn.sites l.fn.call_site l.fn.target);
  points : l.points.items ++ filter_map point_in (way l.sites l.call_site l.target)
      ≡ l.fn.points.items ++ filter_map point_in (way l.fn.sites l.fn.call_site l.fn.target);
}

abbrev pub decreases-loop-target : goal.decreases-loop-target
decreases-loop-target l = turns_at l.sites l.call_site l.target
