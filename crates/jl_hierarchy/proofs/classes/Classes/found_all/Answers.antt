use Rattle.std.specs.Prelude.{List, ℕ, ◌++◌, ◌∷◌, []}
use Rattle.std.proofs.Common.{ap, sym, ◌∙◌}
use Rattle.jl_types.specs.Values.Members as members
use Rattle.jl_hierarchy.proofs.Found.{found_more, missed_more}
use Rattle.jl_hierarchy.proofs.classes.Classes.found_all.Goals as goal

pub loop-name-preserved-in_default : goal.loop-name-preserved-in_default
loop-name-preserved-in_default c =
    c.loop-name.invariant
    ∙ sym (missed_more (members.lookup c.args.self.now c.args.loader) c.args.names.now c.loop-name.name-index c.name-item.result c.loop-name-test.true
    c.name-item.is
    (ap (members.lookup c.args.self.now c.args.loader) (sym c.as_slice.ensures) ∙ sym c.in_default.ensures.found))

pub loop-name-preserved : goal.loop-name-preserved
loop-name-preserved c =
    c.in_ok-push.ensures.items
    ∙ ap (λ (xs : List ℕ). xs ++ c.in-Some.class ∷ []) c.loop-name.invariant
    ∙ sym (found_more (members.lookup c.args.self.now c.args.loader) c.args.names.now c.loop-name.name-index c.name-item.result c.loop-name-test.true
    c.name-item.is
    c.in-Some.class (ap (members.lookup c.args.self.now c.args.loader) (sym c.as_slice.ensures) ∙ sym c.in-Some.ensures.found))
