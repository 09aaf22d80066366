-- Answers in 64 bits.
use Rattle.std.specs.Prelude.{◌≡◌, ℕ, ◌==◌, ◌+◌, ◌*◌, ◌/◌, ◌%◌, ◌<◌, ◌^◌, Option, Some, None, if◌then◌else◌}
use Rattle.std.proofs.Common.{arith, sym, subst}
use Rattle.std.proofs.Math.Nat.{div-add-mod}
use Rattle.jl_host.specs.declared.shown.CallAnswer.{CallAnswer}
use Rattle.jl_host.specs.Numbers.{done}
use Rattle.jl_host.specs.Seats.{SeatView, IsSeatCall, IsSeatAnswer}
use Rattle.jl_host.specs.Showing.{otherwise, HasBits}

-- of a class, a value and a kind that fit
pub had_back : (class value kind bits : ℕ) → class < 2 ^ 32 → value < 2 ^ 24 → kind < 2 ^ 8 → bits ≡ class + 2 ^ 32 * value + 2 ^ 56 * kind
    → HasBits (record { kind = kind; class_number = class; value = value }) bits
had_back class value kind bits low small few is = record {
  is = is;
  again = λ i. record { kind = kinds i; class_number = classes i; value = values i };
}
  where
    kinds : bits / 2 ^ 56 ≡ kind
    kinds = let cut = div-add-mod bits (2 ^ 56) in omega (arith, is, low, small, few, cut)

    classes : bits % 2 ^ 32 ≡ class
    classes = let cut = div-add-mod bits (2 ^ 32) in omega (arith, is, low, small, few, cut)

    upper : bits / 2 ^ 32 ≡ value + 2 ^ 24 * kind
    upper = let cut = div-add-mod bits (2 ^ 32) in omega (arith, is, low, small, few, cut)

    values : bits / 2 ^ 32 % 2 ^ 24 ≡ value
    values = let cut = div-add-mod (bits / 2 ^ 32) (2 ^ 24) in omega (arith, upper, small, few, cut)

-- what a call at a seat writes is what the seat answers
pub of_calls : (site receiver status bits : ℕ) (had called answered : Option SeatView) (before after : CallAnswer)
    → IsSeatCall site receiver had before status after called → IsSeatAnswer site receiver had bits answered
    → HasBits (if status == done then after else otherwise 4 0) bits
of_calls site receiver status bits None called answered before after call answer =
    subst (λ (status : ℕ). HasBits (if status == done then after else otherwise 4 0) bits) (sym call.0) answer.0
of_calls site receiver status bits (Some seen) called answered before after call answer =
    subst (λ (status : ℕ). HasBits (if status == done then after else otherwise 4 0) bits) (sym call.0)
    (subst (λ (after : CallAnswer). HasBits after bits) (sym call.1) answer.0)
