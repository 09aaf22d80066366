use Rattle.std.proofs.Common.{◌≡◌, false, drop, length, nat_le}
use Rattle.std.specs.List.{list_any}
use Rattle.jl_types.specs.Events.Release.{without}
use Rattle.jl_callsites.proofs.release.release_sites.Given as goal

-- what is left of the numbers makes of these rows what all make of the first ones
abbrev pub invariant-loop-site : goal.invariant-loop-site
invariant-loop-site l = record {
  there : list_any (nat_le (length l.rows)) l.going ≡ false;
  same : without l.rows (drop l.site-index l.going) ≡ without l.fn.rows l.fn.going;
}
