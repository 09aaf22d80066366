-- How far a list is read, how many members an object has, and what its count and its word tell.
use Rattle.std.proofs.Common.{◌≡◌, ◌∙◌, sym, ap, subst, refl, ℕ, suc, zero, ◌+◌, ◌<◌, List, [], ◌∷◌, ◌++◌, length, take}
use Rattle.std.proofs.Common.{Option, Some, None, option_map, option_and_then, Global, String, arith}
use Rattle.std.proofs.Math.ListN.{get_or}
use Rattle.std.proofs.lemmas.List.{take_more}
use Rattle.std.proofs.lemmas.Option.{none-some, same_Some}
use Rattle.serde_json.specs.Data.{Data, Members}
use Rattle.serde_json.specs.View.{view, items_view, members_view}
use Rattle.serde_json.specs.declared.value.Value.{Value}
use Rattle.jl_json.specs.Members.{each_in, member_count, ◌>>=◌}
use Rattle.jl_json.specs.Commands.{by_word}

-- one value after the others
abbrev with_last : {A : Type 0} → Option (List A) → Option A → Option (List A)
with_last xs x = option_and_then (λ ys. option_map (λ y. ys ++ y ∷ []) x) xs

abbrev with_first : {A : Type 0} → Option A → Option (List A) → Option (List A)
with_first x xs = option_and_then (λ y. option_map (λ ys. y ∷ ys) xs) x

first_and_last : {A : Type 0} (x : Option A) (xs : Option (List A)) (y : Option A)
    → with_first x (with_last xs y) ≡ with_last (with_first x xs) y
first_and_last None xs y = refl
first_and_last (Some x) None y = refl
first_and_last (Some x) (Some xs) None = refl
first_and_last (Some x) (Some xs) (Some y) = refl

alone : {A : Type 0} (x : Option A) → with_first x (Some []) ≡ with_last (Some []) x
alone None = refl
alone (Some x) = refl

nothing_joined : {A : Type 0} (x : Option A) → with_first x None ≡ None
nothing_joined None = refl
nothing_joined (Some x) = refl

module _ {A : Type 0} (read : Data → Option A) where
  abbrev read_all : List Value → Option (List A)
  read_all vs = each_in read (items_view vs)

  joined : (xs : List Value) (x : Value) → read_all (xs ++ x ∷ []) ≡ with_last (read_all xs) (read (view x))
  joined [] x = alone (read (view x))
  joined (y ∷ xs) x =
      ap (with_first (read (view y))) (joined xs x) ∙ first_and_last (read (view y)) (read_all xs) (read (view x))

  pub each_more : (items : List Value) (i : ℕ) (item : Value) (made : List A) (a : A)
      → i < length items → item ≡ get_or items i item → read_all (take i items) ≡ Some made
      → read (view item) ≡ Some a → read_all (take (i + 1) items) ≡ Some (made ++ a ∷ [])
  each_more items i item made a lt is before here =
      rw (take_more items i item lt, ← is, joined (take i items) item, before, here) refl

  nothing_at : (items : List Value) (i : ℕ) (d : Value) → i < length items
      → read (view (get_or items i d)) ≡ None → read_all items ≡ None
  nothing_at [] i d lt none = absurd (omega arith)
  nothing_at (x ∷ items) zero d lt none = ap (λ (o : Option A). with_first o (read_all items)) none
  nothing_at (x ∷ items) (suc i) d lt none =
      ap (with_first (read (view x))) (nothing_at items i d (omega arith) none) ∙ nothing_joined (read (view x))

  pub each_stop : (items : List Value) (i : ℕ) (item : Value) → i < length items → item ≡ get_or items i item
      → read (view item) ≡ None → read_all items ≡ None
  each_stop items i item lt is none = nothing_at items i item lt (ap (λ (v : Value). read (view v)) (sym is) ∙ none)

pub members_counted : (entries : List (String Global × Value)) → length entries ≡ member_count (members_view entries)
members_counted [] = refl
members_counted (e ∷ entries) = ap suc (members_counted entries)

pub by_parts : (d : Data) (members : Option Members) (said : Option (List ℕ)) (count : ℕ) (word : List ℕ)
    → Some count ≡ option_map member_count members → Some word ≡ said
    → by_word word count d ≡ (members >>= (λ ms. said >>= (λ w. by_word w (member_count ms) d)))
by_parts d None said count word counted is = absurd (none-some count (sym counted))
by_parts d (Some ms) said count word counted is =
    subst (λ (o : Option (List ℕ)). by_word word count d ≡ (o >>= (λ w. by_word w (member_count ms) d))) is
    (ap (λ n. by_word word n d) (same_Some count (member_count ms) counted))
