use Rattle.std.proofs.Common.{arith, sym, ◌∙◌}
use Rattle.std.proofs.lemmas.Option.{slice_get_within}
use Rattle.jl_report.proofs.OverrideWalks.{one_does, one_more_not, none_does}
use Rattle.jl_report.proofs.finals.some_overrides.Goals as goal

pub returns-then-overrides_above : goal.returns-then-overrides_above
returns-then-overrides_above c =
    one_does c.args.classes.now c.args.class c.args.methods.now c.requires.own c.loop-method.index c.in-Some.method (sym c.in-Some.ensures)
    (sym c.overrides_above.ensures ∙ c.if-overrides_above.true)

pub loop-method-smaller : goal.loop-method-smaller
loop-method-smaller c =
    let within = slice_get_within c.args.methods.now c.loop-method.index c.in-Some.method (sym c.in-Some.ensures) in omega (arith, within)

pub loop-method-preserved : goal.loop-method-preserved
loop-method-preserved c =
    let within = slice_get_within c.args.methods.now c.loop-method.index c.in-Some.method (sym c.in-Some.ensures) in (
      one_more_not c.args.classes.now c.args.class c.args.methods.now c.requires.own c.loop-method.index c.loop-method.invariant.0
          (sym c.overrides_above.ensures ∙ c.if-overrides_above.false),
      omega (arith, within),
    )

pub returns : goal.returns
returns c =
    none_does c.args.classes.now c.args.class c.args.methods.now c.requires.own c.loop-method.index c.loop-method.invariant.0
    c.loop-method.invariant.1 (sym c.in_default.ensures)
