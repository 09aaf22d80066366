use Rattle.std.proofs.Common.{[], ◌∷◌}
use Rattle.std.proofs.lemmas.List.Elements.{Contains-append_right}
use Rattle.jl_classfile.proofs.member.check_attribute_names.Goals as goal

pub loop-attribute-preserved : goal.loop-attribute-preserved
loop-attribute-preserved c =
    let rest = c.in-Some.ensures in
    record {
      all = λ h. c.loop-attribute.invariant.all (rw rest (c.in_ok-check_text.ensures.ok, h));
      each = λ a h. c.loop-attribute.invariant.each a (rw rest (Contains-append_right (c.in-Some.attribute ∷ []) c.in-Some.after a h));
    }
