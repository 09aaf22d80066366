use Rattle.std.specs.Prelude.{◌≡◌, ◌&&◌, ◌++◌, ◌∷◌, [], ℕ, Bool, false, not, get_or}
use Rattle.std.proofs.Common.{rules}
use Rattle.jl_types.specs.Values.World.{is_missing}
use Rattle.jl_renewal.proofs.ListLaws.{one_number_more}
use Rattle.jl_renewal.proofs.stays.those_there.Goals as goal

pub loop-point-preserved : goal.loop-point-preserved
loop-point-preserved c =
    let there : ℕ → Bool = λ p. not (is_missing c.args.sites.now.switches p) && get_or c.args.wanted.now p false in
    let more : c.push.new.self.items ≡ c.loop-point.kept.items ++ there c.loop-point.point ∷ [] = search rules in
    one_number_more there c.loop-point.point _ _ c.loop-point.invariant more
