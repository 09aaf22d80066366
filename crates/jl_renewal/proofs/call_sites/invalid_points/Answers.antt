use Rattle.std.specs.Prelude.{ℕ, ◌++◌, Option, option_to_list}
use Rattle.std.proofs.Common.{ap, ◌∙◌}
use Rattle.jl_renewal.specs.Renewal.{invalid_point}
use Rattle.jl_renewal.proofs.ListLaws.{one_given_more}
use Rattle.jl_renewal.proofs.call_sites.invalid_points.Goals as goal

pub loop-point-preserved : goal.loop-point-preserved
loop-point-preserved c =
    one_given_more (invalid_point c.args.old.now c.args.numbers.now) c.loop-point.point _ _ c.loop-point.invariant
    (c.in_ok-push_if_any.ensures
    ∙ ap (λ (o : Option ℕ). c.loop-point.points.items ++ option_to_list o)
    (c.invalid_point.ensures ∙ ap (invalid_point c.args.old.now c.args.numbers.now) c.new.ensures))
