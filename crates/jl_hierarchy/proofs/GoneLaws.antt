-- Loaders that go at once.
use Rattle.std.specs.Prelude.{◌≡◌, ℕ, ◌+◌, ◌<◌, ◌||◌, ◌==◌, Bool, true, false, if◌then◌else◌, List, [], ◌∷◌, ◌++◌, find, fold, length, take, get_or, Option}
use Rattle.std.specs.Prelude.{Some, None, is_some}
use Rattle.std.specs.List.{list_any, range_with_len}
use Rattle.std.proofs.Common.{refl, ap, sym, ◌∙◌, arith, inl, inr}
use Rattle.std.proofs.lemmas.Bool.{both_ways, or_cases, or_right}
use Rattle.std.proofs.lemmas.Bool.Decides.{Decides-eqb}
use Rattle.std.proofs.lemmas.List.{take_more}
use Rattle.jl_types.specs.Values.World.{Classes}
use Rattle.jl_types.specs.Values.Members.{numbers}
use Rattle.jl_types.specs.Events.Definitions.{is_unknown}
use Rattle.jl_types.specs.Events.Retirement.{is_listed, gone_with, MayRetire}
use Rattle.jl_types.specs.ForProofs.Leaving.{inherits_any, records_any}
use Rattle.jl_types.proofs.Bools.{any-range-from}
use Rattle.jl_types.proofs.Retiring.{gone_has, free_may}
use Rattle.jl_hierarchy.proofs.Turns.{any_turned}

-- ---- each once

-- one loader more
abbrev pub with_one : List ℕ → ℕ → List ℕ
with_one gone l = if is_listed gone l then gone else gone ++ l ∷ []

gone_last : (gone ls : List ℕ) (l : ℕ) → gone_with gone (ls ++ l ∷ []) ≡ with_one (gone_with gone ls) l
gone_last gone [] l = refl
gone_last gone (k ∷ ls) l = gone_last (with_one gone k) ls l

pub gone_more : (gone ls : List ℕ) (n l : ℕ) → n < length ls → l ≡ get_or ls n l
    → with_one (gone_with gone (take n ls)) l ≡ gone_with gone (take (n + 1) ls)
gone_more gone ls n l lt is =
    ap (with_one (gone_with gone (take n ls))) is
    ∙ sym (gone_last gone (take n ls) (get_or ls n l))
    ∙ ap (gone_with gone) (sym (take_more ls n l lt))

-- an insert into the set of loaders adds one loader
pub inserted : (gone : List ℕ) (l : ℕ) → (if list_any (λ k. l == k) gone then gone else gone ++ l ∷ []) ≡ with_one gone l
inserted gone l = ap (λ (b : Bool). if b then gone else gone ++ l ∷ []) (any_turned l gone)

pub inserted_all : (gone ls : List ℕ) → fold (λ ks l. if list_any (λ k. l == k) ks then ks else ks ++ l ∷ []) gone ls ≡ gone_with gone ls
inserted_all gone [] = refl
inserted_all gone (l ∷ ls) =
    inserted_all (if list_any (λ k. l == k) gone then gone else gone ++ l ∷ []) ls ∙ ap (λ (ks : List ℕ). gone_with ks ls) (inserted gone l)

-- to add the listed loaders each once is to add them as they are listed
pub gone_once : (gone done ls : List ℕ) → gone_with gone (gone_with done ls) ≡ gone_with (gone_with gone done) ls
gone_once gone done [] = refl
gone_once gone done (l ∷ ls) = by_test (is_listed done l) refl (gone_once gone done ls) (gone_once gone (done ++ l ∷ []) ls)
  where
    already : (b : Bool) → b ≡ true → gone_with (gone_with gone done) ls ≡ gone_with (if b then gone_with gone done else gone_with gone done ++ l ∷ []) ls
    already true e = refl
    already false e = cc

    by_test : (b : Bool) → is_listed done l ≡ b → gone_with gone (gone_with done ls) ≡ gone_with (gone_with gone done) ls
        → gone_with gone (gone_with (done ++ l ∷ []) ls) ≡ gone_with (gone_with gone (done ++ l ∷ [])) ls
        → gone_with gone (gone_with (if b then done else done ++ l ∷ []) ls) ≡ gone_with (gone_with gone done) (l ∷ ls)
    by_test true there same other =
        same
        ∙ already (is_listed (gone_with gone done) l) (gone_has gone done l ∙ or_right (is_listed gone l) (is_listed done l) there)
    by_test false new same other = other ∙ ap (λ (ks : List ℕ). gone_with ks ls) (gone_last gone done l)

-- ---- nothing speaks against it

none_at : (p : ℕ → Bool) (n : ℕ) → find p (range_with_len 0 n) ≡ None → (x : ℕ) → x < n → p x ≡ false
none_at p n none x lt = by_test (p x) refl
  where
    found : (xs : List ℕ) → list_any p xs ≡ true → find p xs ≡ None → ⊥
    found [] h e = cc
    found (y ∷ xs) h e = by_first (p y) refl h e (found xs)
      where
        by_first : (b : Bool) → p y ≡ b → (b || list_any p xs) ≡ true → (if b then Some y else find p xs) ≡ None
            → (list_any p xs ≡ true → find p xs ≡ None → ⊥) → ⊥
        by_first true is h e rest = cc
        by_first false is h e rest = rest h e

    by_test : (b : Bool) → p x ≡ b → b ≡ false
    by_test true is = absurd (found (range_with_len 0 n) (any-range-from p 0 n x (omega arith) (omega (arith, lt)) is) none)
    by_test false is = refl

-- what the three walks say together
pub may_go : (cs : Classes) (loaders : List ℕ) → list_any (λ l. is_unknown cs l || (l == 0)) loaders ≡ false
    → find (inherits_any cs loaders) (numbers cs) ≡ None → find (records_any cs loaders) (range_with_len 0 (length cs.loaders)) ≡ None
    → MayRetire cs loaders
may_go cs loaders known no_heir no_recorder = free_may cs loaders (record {
  known = λ l there. (parts (is_unknown cs l) (l == 0) (none_of loaders known l there)).0;
  other = by_test (is_listed loaders 0) refl;
  heirs = none_at (inherits_any cs loaders) (length cs.rows) no_heir;
  records = none_at (records_any cs loaders) (length cs.loaders) no_recorder;
})
  where
    parts : (a b : Bool) → (a || b) ≡ false → (a ≡ false) × (b ≡ false)
    parts true b e = cc
    parts false b e = (refl, e)

    none_of : (ls : List ℕ) → list_any (λ l. is_unknown cs l || (l == 0)) ls ≡ false → (l : ℕ) → is_listed ls l ≡ true → (is_unknown cs l || (l == 0)) ≡ false
    none_of [] none l there = cc
    none_of (k ∷ ls) none l there =
        let both = parts (is_unknown cs k || (k == 0)) (list_any (λ l. is_unknown cs l || (l == 0)) ls) none in
        elim (or_cases (k == l) (is_listed ls l) there) [
          | inl same ↦ sym (ap (λ j. is_unknown cs j || (j == 0)) ((Decides-eqb k l).0 same)) ∙ both.0
          | inr more ↦ none_of ls both.1 l more
        ]

    by_test : (b : Bool) → is_listed loaders 0 ≡ b → b ≡ false
    by_test true there = absurd (both_ways (0 == 0) (parts (is_unknown cs 0) (0 == 0) (none_of loaders known 0 there)).1 refl)
    by_test false none = refl

pub none_some : (o : Option ℕ) → is_some o ≡ false → o ≡ None
none_some None e = refl
none_some (Some x) e = cc
