use Rattle.std.specs.Prelude.{Bool, ◌&&◌, false}
use Rattle.std.proofs.Common.{sym, ap, ◌∙◌}
use Rattle.jl_select.specs.ForProofs.Walks.{has_bridge, bridged_before, above}
use Rattle.jl_select.proofs.Overrides.{alike_is, hidden_is}
use Rattle.jl_select.proofs.overriding.overrides.Goals as goal

pub returns-then-is_package_private : goal.returns-then-is_package_private
returns-then-is_package_private c =
    let cs = c.args.classes.now in
    let walk = bridged_before c.args.upper.now.class (has_bridge cs c.args.upper.now.class c.args.overridden.now) false (above cs c.args.lower.now.class) in
    let alike = alike_is cs c.args.lower.now c.args.upper.now c.args.method.now c.args.overridden.now c.requires.lower c.requires.upper
    ∙ sym c.are_alike.ensures ∙ c.if-not-are_alike.false in
    c.is_bridged.ensures
    ∙ ap (λ (b : Bool). b && walk) (sym c.if-is_package_private.true ∙ c.is_package_private.ensures)
    ∙ sym
    (hidden_is cs c.requires.ordered c.args.lower.now c.args.upper.now c.args.overridden.now c.requires.upper alike
    (sym c.is_visible.ensures ∙ c.if-is_visible.false))
