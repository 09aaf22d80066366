use Rattle.std.proofs.Common.{sym, ◌∙◌}
use Rattle.jl_select.specs.ForProofs.Walks.{is_bridge}
use Rattle.jl_select.proofs.Bridges.{passes_here, not_here, passes_nowhere}
use Rattle.jl_select.proofs.overriding.declares_bridge.Goals as goal

pub returns-then-is_bridge : goal.returns-then-is_bridge
returns-then-is_bridge c =
    passes_here (is_bridge c.args.overridden.now) c.args.methods.now c.loop-method.place c.in-Some.method c.in-Some.ensures
    (sym c.is_bridge.ensures ∙ c.if-is_bridge.true)
    ∙ c.loop-method.invariant

pub loop-method-preserved : goal.loop-method-preserved
loop-method-preserved c =
    not_here (is_bridge c.args.overridden.now) c.args.methods.now c.loop-method.place c.in-Some.method c.in-Some.ensures
    (sym c.is_bridge.ensures ∙ c.if-is_bridge.false)
    ∙ c.loop-method.invariant

pub returns : goal.returns
returns c =
    passes_nowhere (is_bridge c.args.overridden.now) c.args.methods.now c.loop-method.place c.in_default.ensures ∙ c.loop-method.invariant
