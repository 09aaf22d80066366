use Rattle.std.proofs.Common.{Some, None, slice_get, ap, sym, ◌∙◌}
use Rattle.std.specs.Option.{option_copied}
use Rattle.jl_numbered.specs.Numbers.{Numbered, value_at}
use Rattle.jl_numbered.proofs.PlacedLaws.{found_at}
use Rattle.jl_numbered.proofs.numbered.Numbered.get.Goals as goal

pub returns-in-Some-Some : goal.returns-in-Some-Some
returns-in-Some-Some g c =
    found_at c.args.number c.self.inside.slots.items (Some (Some c.in-Some-Some.value))
    (ap Some (sym c.in-Some-Some.field-0-is) ∙ c.in-Some-Some.ensures.slot ∙ ap (λ xs. slice_get xs c.args.number) c.as_slice.ensures.value)
    ∙ ap (λ (m : Numbered _). value_at m.entries c.args.number) c.self.view_is

pub returns-in-Some-None : goal.returns-in-Some-None
returns-in-Some-None g c =
    found_at c.args.number c.self.inside.slots.items (Some None)
    (ap Some (sym c.in-Some-None.field-0-is) ∙ c.in-Some-None.ensures.slot ∙ ap (λ xs. slice_get xs c.args.number) c.as_slice.ensures.value)
    ∙ ap (λ (m : Numbered _). value_at m.entries c.args.number) c.self.view_is

pub returns-in-None : goal.returns-in-None
returns-in-None g c =
    found_at c.args.number c.self.inside.slots.items None
    (sym (ap option_copied c.in-None.is) ∙ c.slot_at.ensures.slot ∙ ap (λ xs. slice_get xs c.args.number) c.as_slice.ensures.value)
    ∙ ap (λ (m : Numbered _). value_at m.entries c.args.number) c.self.view_is
