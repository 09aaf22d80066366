-- One pass over what the constants name: the first number that is wrong ends it, and the first descriptor that is wrong is kept.
use Rattle.std.proofs.Common.{◌≡◌, ◌∙◌, refl, sym, ap, arith, ℕ, zero, suc, ◌+◌, ◌<◌, ◌≤◌, length, Bool, true, false, not, [], ◌∷◌, Option, Some}
use Rattle.std.proofs.Common.{None, inl, inr}
use Rattle.std.specs.Bool.{then_some}
use Rattle.std.specs.Option.{option_map_or, option_or}
use Rattle.std.proofs.lemmas.Bool.{cases_lt}
use Rattle.jl_pool.specs.declared.constant.Constant.{Constant}
use Rattle.jl_pool.specs.Pools.{Pool, constant_at, IsTyped}
use Rattle.jl_pool.specs.Faults.{AllAt, IsFirstNot}
use Rattle.jl_pool.specs.ForProofs.Forms.{is_typed}
use Rattle.jl_pool.proofs.TypedLaws.{is_typed-is}

-- each constant below a number is so
abbrev pub AllBelow : (Constant → Type 0) → Pool → ℕ → Type 0
AllBelow IsSo p n = (j : ℕ) (c : Constant) → j < n → constant_at p j ≡ Some c → IsSo c

within : (p : Pool) (j : ℕ) (c : Constant) → constant_at p j ≡ Some c → j < length p
within [] j c e = absurd cc
within (place ∷ p) zero c e = omega arith
within (place ∷ p) (suc j) c e = let less = within p j c e in omega (arith, less)

pub all_below : (IsSo : Constant → Type 0) (p : Pool) (n : ℕ) → length p ≤ n → AllBelow IsSo p n → AllAt IsSo p
all_below IsSo p n le h j c e = h j c (let less = within p j c e in omega (arith, less, le)) e

below_more : (IsSo : Constant → Type 0) (p : Pool) (n : ℕ) → AllBelow IsSo p n → ((c : Constant) → constant_at p n ≡ Some c → IsSo c) → AllBelow IsSo p (n + 1)
below_more IsSo p n h here j c lt e = elim (cases_lt j n) [
  | inl earlier ↦ h j c earlier e
  | inr last ↦ let same : j ≡ n = omega (arith, lt, last) in here c (sym (ap (constant_at p) same) ∙ e)
]

passes : (test : Constant → Bool) (there : Option Constant) → option_map_or test there true ≡ true → (c : Constant) → there ≡ Some c → test c ≡ true
passes test None h c e = absurd cc
passes test (Some d) h c e = cc

pub tested_more : (test : Constant → Bool) (p : Pool) (n : ℕ) (tested : Bool) → AllBelow (λ c. test c ≡ true) p n
    → tested ≡ option_map_or test (constant_at p n) true → not tested ≡ false
    → AllBelow (λ c. test c ≡ true) p (n + 1)
tested_more test p n true h e f = below_more (λ c. test c ≡ true) p n h (passes test (constant_at p n) (sym e))
tested_more test p n false h e f = absurd cc

-- the first constant below this number that names a descriptor of a wrong kind
abbrev pub TypedBelow : Pool → ℕ → Option ℕ → Type 0
TypedBelow p n None = AllBelow (IsTyped p) p n
TypedBelow p n (Some i) = IsFirstNot (IsTyped p) p i

untyped_here : (p : Pool) (n : ℕ) → AllBelow (IsTyped p) p n → (there : Option Constant) → constant_at p n ≡ there
    → option_map_or (is_typed p) there true ≡ false → IsFirstNot (IsTyped p) p n
untyped_here p n h None e f = absurd cc
untyped_here p n h (Some c) e f = record {
  constant = c;
  there = e;
  isn't = λ typed. absurd (let no : false ≡ true = sym f ∙ (is_typed-is p c).1 typed in cc);
  before = h;
}

typed_here : (p : Pool) (n : ℕ) (typed : Bool) → option_map_or (is_typed p) (constant_at p n) true ≡ typed → AllBelow (IsTyped p) p n
    → TypedBelow p (n + 1) (then_some (not typed) n)
typed_here p n true e h = below_more (IsTyped p) p n h (λ c there. (is_typed-is p c).0 (passes (is_typed p) (constant_at p n) e c there))
typed_here p n false e h = untyped_here p n h (constant_at p n) refl e

pub typed_more : (p : Pool) (n : ℕ) (untyped : Option ℕ) (typed : Bool) → typed ≡ option_map_or (is_typed p) (constant_at p n) true → TypedBelow p n untyped
    → TypedBelow p (n + 1) (option_or untyped (then_some (not typed) n))
typed_more p n None typed e h = typed_here p n typed (sym e) h
typed_more p n (Some i) typed e h = h
