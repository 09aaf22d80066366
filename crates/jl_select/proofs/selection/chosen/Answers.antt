use Rattle.std.specs.Prelude.{ℕ, List}
use Rattle.std.proofs.Common.{◌≡◌, ap, sym, ◌∙◌}
use Rattle.jl_types.specs.Values.Ancestry.{superclasses}
use Rattle.jl_types.specs.Linkage.Overriding.{can_override}
use Rattle.jl_select.specs.ForProofs.Walks.{first_passing}
use Rattle.jl_select.proofs.Choices.{chosen_found}
use Rattle.jl_select.proofs.selection.chosen.Goals as goal

pub returns-in-Some-overriding : goal.returns-in-Some-overriding
returns-in-Some-overriding c =
    let cs = c.args.classes.now in
    let r = c.args.resolved.now in
    let m = c.in-Some.method in
    let name : c.of-sought.result.name ≡ m.name = c.of-sought.ensures.name ∙ c.as_slice.ensures ∙ c.name-name.ensures in
    let ty : c.of-sought.result.ty ≡ m.ty = c.of-sought.ensures.ty ∙ c.as_slice-2.ensures ∙ c.ty-ty.ensures in
    chosen_found cs c.args.receiver r m c.in-Some-overriding.found (sym c.is_private.ensures ∙ c.if-is_private.false) (sym c.in-Some.ensures)
    (c.in-Some-overriding.ensures
    ∙ ap (λ (n : List ℕ). first_passing (λ k. can_override cs k r) cs n c.of-sought.result.ty (superclasses cs c.args.receiver)) name
    ∙ ap (λ (t : List ℕ). first_passing (λ k. can_override cs k r) cs m.name t (superclasses cs c.args.receiver)) ty)
