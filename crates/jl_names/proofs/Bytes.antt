-- The bytes that the grammar names, and steps that may fail.
use Rattle.std.proofs.Common.{◌≡◌, ℕ, Bool, true, false, cond, Result, Ok, Err, refl, inl, inr, ◌⊎◌}
use Rattle.std.specs.Str.{byte}
use Rattle.jl_names.specs.ForProofs.Steps.{◌>>=◌}

abbrev pub opening : ℕ
opening = byte "("

abbrev pub closing : ℕ
closing = byte ")"

abbrev pub slash : ℕ
slash = byte "/"

abbrev pub semicolon : ℕ
semicolon = byte ";"

abbrev pub bracket : ℕ
bracket = byte "["

abbrev pub letter_l : ℕ
letter_l = byte "L"

abbrev pub letter_v : ℕ
letter_v = byte "V"

abbrev pub letter_a : ℕ
letter_a = byte "a"

-- which way a test went
pub chosen : {A : Type 0} (b : Bool) (x y z : A) → cond b x y ≡ z → ((b ≡ true) × (x ≡ z)) ⊎ ((b ≡ false) × (y ≡ z))
chosen true x y z e = inl (refl, e)
chosen false x y z e = inr (refl, e)

-- the value of a step that did not fail
pub bind_ok : {A B E : Type 0} (r : Result A E) (f : A → Result B E) (y : B) → (r >>= f) ≡ Ok y
    → (x : A) × (r ≡ Ok x) × (f x ≡ Ok y)
bind_ok (Ok x) f y e = (x, refl, e)
bind_ok (Err d) f y e = absurd cc

-- which of two steps failed
pub bind_err : {A B E : Type 0} (r : Result A E) (f : A → Result B E) (d : E) → (r >>= f) ≡ Err d
    → (r ≡ Err d) ⊎ ((x : A) × (r ≡ Ok x) × (f x ≡ Err d))
bind_err (Ok x) f d e = inr (x, refl, e)
bind_err (Err c) f d e = inl cc

abbrev done : {A E : Type 0} → A → Result A E
done x = Ok x

abbrev failed : {A E : Type 0} → E → Result A E
failed e = Err e

pub ok_is : {A E : Type 0} (x y : A) → done {E = E} x ≡ done y → x ≡ y
ok_is x y e = cc

pub err_is : {A E : Type 0} (x y : E) → failed {A = A} x ≡ failed y → x ≡ y
err_is x y e = cc
