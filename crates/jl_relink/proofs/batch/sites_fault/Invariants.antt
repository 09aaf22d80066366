use Rattle.std.specs.Prelude.{map, All, ◌<◌}
use Rattle.std.proofs.Common.{◌≡◌, drop, take, []}
use Rattle.jl_types.specs.Events.Batches.{sites_fault}
use Rattle.jl_relink.proofs.BatchLaws.{sites_before}
use Rattle.jl_relink.proofs.batch.sites_fault.Given as goal

-- the sites so far have no fault, and are below the bound
abbrev pub invariant-loop-number : goal.invariant-loop-number
invariant-loop-number g l = record {
  sound : sites_fault l.world (sites_before g.R.Row.site_of (take l.number l.rows)) (map g.R.Row.site_of (drop l.number l.rows))
      ≡ sites_fault l.world [] (map g.R.Row.site_of l.rows);
  below : All (λ row. g.R.Row.site_of row < l.bound) (take l.number l.rows);
}
