use Rattle.std.proofs.Common.{◌≡◌, ◌+◌, ℕ, Some, None, slice_get, Option, refl, ap, sym, ◌∙◌, arith}
use Rattle.std.specs.Option.{option_copied}
use Rattle.jl_numbered.specs.ForProofs.Placed.{placed}
use Rattle.std.proofs.Common.{List}
use Rattle.jl_numbered.proofs.PlacedLaws.{rest_at, no_rest, passed}
use Rattle.jl_numbered.proofs.numbered.first_from.Goals as goal

none_is : {A : Type 0} (x : Option A) → ((v : A) → ¬ (x ≡ Some v)) → x ≡ None
none_is None h = refl
none_is (Some v) h = absurd (h v refl)

at : {A : Type 0} (xs : List (Option A)) (n : ℕ) (r : Option (Option A)) (slot x : Option A)
    → r ≡ slice_get xs n → r ≡ Some slot → slot ≡ x → slice_get xs n ≡ Some x
at xs n r slot x e is same = sym e ∙ is ∙ ap Some same

pub returns-in-Some-slot-clause-entry : goal.returns-in-Some-slot-clause-entry
returns-in-Some-slot-clause-entry g c =
    c.loop-slot.invariant.left
    ∙ ap (placed c.loop-slot.place) (rest_at c.args.slots.now c.loop-slot.place (Some c.in-Some-slot.value)
    (sym c.slot_at.ensures.slot ∙ ap option_copied c.in-Some.is ∙ ap Some c.in-Some-slot.is))

pub loop-slot-preserved : goal.loop-slot-preserved
loop-slot-preserved g c = record {
  left =
      c.loop-slot.invariant.left
      ∙ passed c.args.slots.now c.loop-slot.place (c.loop-slot.place + 1)
      (sym c.slot_at.ensures.slot ∙ ap option_copied c.in-Some.is ∙ ap Some (none_is c.in-Some.slot.now c.in_default-slot.not-Some)) (omega arith);
}

pub returns-clause-end : goal.returns-clause-end
returns-clause-end g c e =
    c.loop-slot.invariant.left
    ∙ ap (placed c.loop-slot.place) (no_rest c.args.slots.now c.loop-slot.place
    (sym c.slot_at.ensures.slot ∙ ap option_copied c.in_default.is))
