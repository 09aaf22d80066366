use Rattle.std.specs.Prelude.{Some, option_and_then}
use Rattle.std.proofs.Common.{◌∙◌, ap, sym, refl, arith, length, reverse}
use Rattle.std.proofs.lemmas.List.{drop_all}
use Rattle.jl_host.specs.Targets.{only, targets_of}
use Rattle.jl_host.proofs.TargetLaws.{one_before, none_before}
use Rattle.jl_host.proofs.targets.target_of.Goals as goal

pub loop-place-init : goal.loop-place-init
unfolding targets_of
loop-place-init c =
    ap targets_of (drop_all (length c.args.parts.now) c.args.parts.now (omega arith))
    ∙ ap (λ ts. Some (reverse ts)) (sym c.new-read.ensures.items)

pub returns-in_default : goal.returns-in_default
returns-in_default c =
    sym (ap (option_and_then only)
    (none_before c.args.parts.now c.loop-place.place _ _ _ c.loop-place-test.true c.loop-place.auto.place c.loop-place.invariant
    c.in_ok-target.field-0 c.in_ok-target.ensures c.in_default.is))

pub loop-place-preserved : goal.loop-place-preserved
loop-place-preserved c =
    one_before c.args.parts.now c.loop-place.place _ _ _ c.loop-place-test.true c.loop-place.auto.place c.loop-place.invariant
    c.in_ok-target.field-0 c.in_ok-target.ensures c.in-Some.target c.target_before.new.read.items c.in-Some.is refl
    ∙ ap (λ ts. Some (reverse ts)) (sym c.in_ok-push.ensures.items)
