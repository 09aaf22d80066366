use Rattle.std.specs.Prelude.{◌≡◌, ◌++◌, ◌∷◌, [], not}
use Rattle.std.proofs.Common.{rules}
use Rattle.jl_types.specs.Values.Members.{is_retired}
use Rattle.jl_renewal.proofs.ListLaws.{one_number_more}
use Rattle.jl_renewal.proofs.stays.loaders_below.Goals as goal

pub loop-loader-preserved : goal.loop-loader-preserved
loop-loader-preserved c =
    let more : c.push.new.self.items ≡ c.loop-loader.stays.items ++ not (is_retired c.args.classes.now c.loop-loader.loader) ∷ [] = search rules in
    one_number_more (λ k. not (is_retired c.args.classes.now k)) c.loop-loader.loader _ _ c.loop-loader.invariant more
