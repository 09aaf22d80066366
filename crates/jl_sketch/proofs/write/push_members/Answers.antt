use Rattle.std.proofs.Common.{List, ℕ, ◌∙◌, ◌++◌, sym, ap, map}
use Rattle.jl_pool.specs.Numbers.{u2, counted}
use Rattle.jl_sketch.specs.Constants.{class_number}
use Rattle.std.proofs.lemmas.Result.{IfOk-equal}
use Rattle.jl_sketch.proofs.Cases.{members_written}
use Rattle.jl_sketch.proofs.write.push_members.Goals as goal

pub returns : goal.returns
returns c =
    let some = members_written c.args.constants.now c.args.members.now c.args.out.now.items c.number.result c.deref.result.now
    (sym c.is_empty.ensures ∙ c.if-is_empty.false) c.number.ensures
    (c.deref.ensures.value
    ∙ c.in_ok-push_classes.ensures
    ∙ ap (λ (xs : List ℕ). xs ++ counted u2 (map (class_number c.args.constants.now) c.args.members.now)) c.new-info.ensures.items)
    in
    IfOk-equal c.push_attribute.result _ _ _ c.push_attribute.ensures some
