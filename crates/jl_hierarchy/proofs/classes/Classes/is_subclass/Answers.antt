use Rattle.std.proofs.Common.{sym, ◌∙◌, arith}
use Rattle.jl_hierarchy.proofs.Chains.{next_below, is_itself, below_next}
use Rattle.jl_hierarchy.proofs.classes.Classes.is_subclass.Goals as goal

pub returns-then-eq : goal.returns-then-eq
returns-then-eq c = sym (is_itself c.args.self.now c.loop-other.at c.loop-other.invariant.there c.args.other (sym c.eq.ensures ∙ c.if-eq.true))
    ∙ c.loop-other.invariant.same

pub loop-other-smaller : goal.loop-other-smaller
loop-other-smaller c = next_below c.args.self.now c.superclass.ensures.ordered c.loop-other.at c.in-Some.superclass (sym c.in-Some.ensures.same)

pub loop-other-preserved : goal.loop-other-preserved
loop-other-preserved c =
    let below = next_below c.args.self.now c.superclass.ensures.ordered c.loop-other.at c.in-Some.superclass (sym c.in-Some.ensures.same) in
    let there = c.loop-other.invariant.there in
    record {
      there = omega arith;
      same =
          sym
          (below_next c.args.self.now c.superclass.ensures.ordered c.loop-other.at there c.args.other c.in-Some.superclass
          (sym c.eq.ensures ∙ c.if-eq.false) (sym c.in-Some.ensures.same))
          ∙ c.loop-other.invariant.same;
    }
