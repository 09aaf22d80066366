use Rattle.std.specs.Prelude.{option_and_then}
use Rattle.std.proofs.Common.{ap, ◌∙◌}
use Rattle.jl_types.specs.Values.Members as members
use Rattle.jl_hierarchy.proofs.classes.Classes.of_object.Goals as goal

pub returns : goal.returns
returns c =
    c.declared.ensures
    ∙ ap (option_and_then (members.declared c.args.self.now c.args.name.now c.args.ty.now))
    (c.in_ok-object.ensures.found ∙ (λ i. members.lookup c.args.self.now (c.new.ensures i) (c.as_slice.ensures i)))
