use Rattle.std.specs.Prelude.{Bool, ◌||◌}
use Rattle.std.proofs.Common.{sym, ap, ◌∙◌}
use Rattle.jl_hierarchy.proofs.Chains.{next_below}
use Rattle.jl_select.specs.ForProofs.Walks.{has_bridge, bridged_before, above}
use Rattle.jl_select.proofs.Bridges.{walk_stops, walk_goes_on}
use Rattle.jl_select.proofs.overriding.is_bridged.Goals as goal

pub returns-then-eq : goal.returns-then-eq
returns-then-eq c =
    sym
    (walk_stops c.args.classes.now c.requires c.args.upper (has_bridge c.args.classes.now c.args.upper c.args.overridden.now)
    c.loop-superclass.at c.in-Some.superclass (sym c.in-Some.ensures.same) c.loop-superclass.found (sym c.eq.ensures ∙ c.if-eq.true))
    ∙ c.loop-superclass.invariant

pub loop-superclass-smaller-then-found : goal.loop-superclass-smaller-then-found
loop-superclass-smaller-then-found c =
    next_below c.args.classes.now c.requires c.loop-superclass.at c.in-Some.superclass (sym c.in-Some.ensures.same)

pub loop-superclass-preserved-then-found : goal.loop-superclass-preserved-then-found
loop-superclass-preserved-then-found c =
    let test = has_bridge c.args.classes.now c.args.upper c.args.overridden.now in
    let rest = λ (b : Bool). bridged_before c.args.upper test b (above c.args.classes.now c.in-Some.superclass) in
    ap rest (c.if-found.true ∙ sym (ap (λ (b : Bool). b || test c.in-Some.superclass) c.if-found.true))
    ∙ sym
    (walk_goes_on c.args.classes.now c.requires c.args.upper test c.loop-superclass.at c.in-Some.superclass
    (sym c.in-Some.ensures.same) c.loop-superclass.found (sym c.eq.ensures ∙ c.if-eq.false))
    ∙ c.loop-superclass.invariant

pub loop-superclass-smaller : goal.loop-superclass-smaller
loop-superclass-smaller c =
    next_below c.args.classes.now c.requires c.loop-superclass.at c.in-Some.superclass (sym c.in-Some.ensures.same)

pub loop-superclass-preserved : goal.loop-superclass-preserved
loop-superclass-preserved c =
    let test = has_bridge c.args.classes.now c.args.upper c.args.overridden.now in
    let rest = λ (b : Bool). bridged_before c.args.upper test b (above c.args.classes.now c.in-Some.superclass) in
    ap rest (c.has_bridge-found.ensures ∙ sym (ap (λ (b : Bool). b || test c.in-Some.superclass) c.if-found.false))
    ∙ sym
    (walk_goes_on c.args.classes.now c.requires c.args.upper test c.loop-superclass.at c.in-Some.superclass
    (sym c.in-Some.ensures.same) c.loop-superclass.found (sym c.eq.ensures ∙ c.if-eq.false))
    ∙ c.loop-superclass.invariant
