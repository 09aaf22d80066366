use Rattle.std.proofs.Common.{◌≡◌, take, drop, ◌+◌, ◌≤◌, length, sum_by}
use Rattle.std.specs.Vec.{vec_len, vec_capacity}
use Rattle.jl_types.specs.Events.Footprints.{most_for}
use Rattle.jl_types.specs.Events.Preparation.{ready_fault, ArePrepared}
use Rattle.jl_relink.proofs.preparation.push_rows.Given as goal

-- the rows so far are made, the sites that are left have the first fault, and there is room for them and for what they take
abbrev pub invariant-loop-site : goal.invariant-loop-site
invariant-loop-site l = record {
  made : ArePrepared l.world (take l.site-index l.sites) l.rows.items;
  left : ready_fault l.world (drop l.site-index l.sites) ≡ ready_fault l.world l.sites;
  room : vec_len l.rows + length l.sites ≤ l.site-index + vec_capacity l.rows;
  ticks : l.work + sum_by (most_for l.world) (drop l.site-index l.sites) ≤ l.fn.work + sum_by (most_for l.world) l.sites;
}
