use Rattle.std.proofs.Common.{sym, ◌∙◌, rules}
use Rattle.std.specs.Prelude.{◌≡◌, find, None}
use Rattle.jl_types.specs.Values.World.{is_missing}
use Rattle.jl_callsites.proofs.Releasing.{made, points_made, nothing_against}
use Rattle.jl_callsites.proofs.sites.Sites.release_fault.Goals as goal

pub first_needing-requires-clause-call_sites : goal.first_needing-requires-clause-call_sites
first_needing-requires-clause-call_sites c =
    let there : find (is_missing c.args.self.now.call_sites) c.args.call_sites.now ≡ None = search rules in
    let there_points : find (is_missing c.args.self.now.switches) c.args.points.now ≡ None = search rules in
    made c.args.self.now c.args.call_sites.now c.args.points.now there there_points

pub first_needing-requires-clause-points : goal.first_needing-requires-clause-points
first_needing-requires-clause-points c =
    let there : find (is_missing c.args.self.now.call_sites) c.args.call_sites.now ≡ None = search rules in
    let there_points : find (is_missing c.args.self.now.switches) c.args.points.now ≡ None = search rules in
    points_made c.args.self.now c.args.call_sites.now c.args.points.now there there_points

pub returns-in-Ok-None : goal.returns-in-Ok-None
returns-in-Ok-None c =
    let there : find (is_missing c.args.self.now.call_sites) c.args.call_sites.now ≡ None = search rules in
    let there_points : find (is_missing c.args.self.now.switches) c.args.points.now ≡ None = search rules in
    sym (nothing_against c.args.self.now c.args.call_sites.now c.args.points.now there there_points
    (sym c.in-Ok-None.ensures ∙ c.in-Ok-None.field-0-is))
