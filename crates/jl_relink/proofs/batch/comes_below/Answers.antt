use Rattle.jl_relink.proofs.BatchLaws.{none_equal}
use Rattle.jl_relink.proofs.batch.comes_below.Goals as goal
use Rattle.std.proofs.Common.{sym, rules}
use Rattle.std.specs.Prelude.{◌≤◌}

pub returns-then-number-bound : goal.returns-then-number-bound
returns-then-number-bound g c =
    let past : c.args.bound ≤ c.args.site = search rules in
    sym (none_equal g.R.Row.site_of c.args.bound c.args.site c.args.rows.now c.requires past)
