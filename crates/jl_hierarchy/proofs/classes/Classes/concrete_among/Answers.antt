use Rattle.std.specs.Prelude.{◌++◌, ◌∷◌, [], if◌then◌else◌}
use Rattle.std.proofs.Common.{sym, ◌∙◌}
use Rattle.jl_types.specs.Values.Members.{is_concrete}
use Rattle.jl_hierarchy.proofs.Turns.{filtered_more}
use Rattle.jl_hierarchy.proofs.classes.Classes.concrete_among.Goals as goal

pub loop-class-preserved : goal.loop-class-preserved
loop-class-preserved c =
    c.in_ok-push_if.ensures
    ∙ (λ i. c.loop-class.invariant i ++ (if c.is_concrete-is_one.ensures i then c.class-item.result ∷ [] else []))
    ∙ sym (filtered_more (is_concrete c.args.self.now) c.args.classes.now c.loop-class.class-index c.class-item.result c.loop-class-test.true c.class-item.is)
