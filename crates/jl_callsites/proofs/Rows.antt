-- Rows of call sites and switch points, of which some may be released.
use Rattle.std.specs.Prelude.{◌≡◌, ◌≢◌, ℕ, zero, suc, ◌<◌, Bool, true, false, cond, not, ◌||◌, nat_lt, nat_le}
use Rattle.std.specs.Prelude.{List, [], ◌∷◌, length, find, slice_get, slice_set}
use Rattle.std.specs.Prelude.{Option, Some, None, is_none, option_and_then}
use Rattle.std.specs.List.{list_any}
use Rattle.std.proofs.Common.{refl, ap, ◌∙◌, arith}
use Rattle.std.proofs.lemmas.Bool.{both_ways, lt-leb, lt-ltb}
use Rattle.std.proofs.lemmas.Option.{slice_get_within}
use Rattle.jl_types.specs.Values.World.{is_missing}

pub set_same : {A : Type 0} (xs : List A) (c : ℕ) (x : A) → c < length xs → slice_get (slice_set xs c x) c ≡ Some x
set_same [] c x lt = absurd (omega arith)
set_same (y ∷ xs) zero x lt = refl
set_same (y ∷ xs) (suc c) x lt = set_same xs c x (omega arith)

pub set_other : {A : Type 0} (xs : List A) (c : ℕ) (x : A) (d : ℕ) → d ≢ c → slice_get (slice_set xs c x) d ≡ slice_get xs d
set_other [] c x d ne = refl
set_other (y ∷ xs) zero x zero ne = absurd (ne refl)
set_other (y ∷ xs) zero x (suc d) ne = refl
set_other (y ∷ xs) (suc c) x zero ne = refl
set_other (y ∷ xs) (suc c) x (suc d) ne = set_other xs c x d (λ e. ne (ap suc e))

-- what isn't missing was made
pub was_made : {A : Type 0} (rows : List (Option A)) (k : ℕ) → is_missing rows k ≡ false → k < length rows
was_made {A = A} rows k = by_row (slice_get rows k) refl
  where
    by_row : (o : Option (Option A)) → slice_get rows k ≡ o → is_none (option_and_then (λ row. row) o) ≡ false → k < length rows
    by_row None at e = cc
    by_row (Some row) at e = slice_get_within rows k row at

-- by a test that it isn't missing
pub made_where_there : {A : Type 0} (rows : List (Option A)) (k : ℕ) (there : Bool) → there ≡ not (is_missing rows k) → not there ≡ false
    → nat_lt k (length rows) ≡ true
made_where_there rows k true is e = lt-ltb k (length rows) (was_made rows k (by_test (is_missing rows k) is))
  where
    by_test : (b : Bool) → true ≡ not b → b ≡ false
    by_test true h = cc
    by_test false h = refl
made_where_there rows k false is e = cc

pub all_made : {A : Type 0} (rows : List (Option A)) (ks : List ℕ) → list_any (is_missing rows) ks ≡ false → list_any (nat_le (length rows)) ks ≡ false
all_made rows [] none = refl
all_made rows (k ∷ ks) none = by_test (is_missing rows k) refl none (all_made rows ks)
  where
    by_test : (b : Bool) → is_missing rows k ≡ b → (b || list_any (is_missing rows) ks) ≡ false
        → (list_any (is_missing rows) ks ≡ false → list_any (nat_le (length rows)) ks ≡ false)
        → (nat_le (length rows) k || list_any (nat_le (length rows)) ks) ≡ false
    by_test true is e rest = cc
    by_test false is e rest =
        ap (λ (b : Bool). b || list_any (nat_le (length rows)) ks) (lt-leb (length rows) k (was_made rows k is)) ∙ rest e

-- where none passes a test, none passes another one whose passing leads to it
pub none_else : {A : Type 0} (p q : A → Bool) (xs : List A) → ((x : A) → q x ≡ true → p x ≡ true) → find p xs ≡ None → find q xs ≡ None
none_else p q [] leads none = refl
none_else p q (x ∷ xs) leads none = by_tests (q x) (p x) refl refl none (none_else p q xs leads)
  where
    by_tests : (a b : Bool) → q x ≡ a → p x ≡ b → cond b (Some x) (find p xs) ≡ None → (find p xs ≡ None → find q xs ≡ None)
        → cond a (Some x) (find q xs) ≡ None
    by_tests true true at is e rest = cc
    by_tests true false at is e rest = absurd (both_ways (p x) is (leads x at))
    by_tests false true at is e rest = cc
    by_tests false false at is e rest = rest e
