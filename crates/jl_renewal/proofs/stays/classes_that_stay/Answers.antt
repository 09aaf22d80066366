use Rattle.std.specs.Prelude.{◌≡◌, ◌++◌, ◌∷◌, []}
use Rattle.std.proofs.Common.{rules}
use Rattle.jl_types.specs.Values.Members.{is_present}
use Rattle.jl_renewal.proofs.ListLaws.{one_number_more}
use Rattle.jl_renewal.proofs.stays.classes_that_stay.Goals as goal

pub loop-class-preserved : goal.loop-class-preserved
loop-class-preserved c =
    let more : c.push.new.self.items ≡ c.loop-class.stays.items ++ is_present c.args.classes.now c.loop-class.class ∷ [] = search rules in
    one_number_more (is_present c.args.classes.now) c.loop-class.class _ _ c.loop-class.invariant more
