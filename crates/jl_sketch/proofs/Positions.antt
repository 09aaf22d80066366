-- Tests and places in a list whose items stand for others.
use Rattle.std.proofs.Common.{◌≡◌, ℕ, ◌+◌, Bool, true, false, cond, not, ◌||◌, nat_lt, List, [], ◌∷◌, ◌++◌, length, map, Some, None, refl, sym}
use Rattle.std.proofs.Common.{ap, ◌∙◌, if◌then◌else◌}
use Rattle.std.specs.List.{list_any, prefix_len, position}
use Rattle.std.proofs.lemmas.List.{length-map, map_push}

module _ {X Y : Type 0} (f : X → Y) where
  pub any_by : (p : X → Bool) (q : Y → Bool) → ((x : X) → p x ≡ q (f x)) → (xs : List X) → list_any p xs ≡ list_any q (map f xs)
  any_by p q same [] = refl
  any_by p q same (x ∷ xs) = ap (λ b. b || list_any p xs) (same x) ∙ ap (λ b. q (f x) || b) (any_by p q same xs)

  prefix_by : (p : X → Bool) (q : Y → Bool) → ((x : X) → p x ≡ q (f x)) → (xs : List X) → prefix_len p xs ≡ prefix_len q (map f xs)
  prefix_by p q same [] = refl
  prefix_by p q same (x ∷ xs) = ap (λ b. cond b (1 + prefix_len p xs) 0) (same x) ∙ ap (λ n. cond (q (f x)) (1 + n) 0) (prefix_by p q same xs)

  pub position_by : (p : X → Bool) (q : Y → Bool) → ((x : X) → p x ≡ q (f x)) → (xs : List X) → position p xs ≡ position q (map f xs)
  position_by p q same xs =
      let first = prefix_by (λ x. not (p x)) (λ y. not (q y)) (λ x. ap not (same x)) xs in
      let after : ℕ = prefix_len (λ y. not (q y)) (map f xs) in
      ap (λ n. cond (nat_lt n (length xs)) (Some n) None) first ∙ ap (λ n. cond (nat_lt after n) (Some after) None) (sym (length-map xs f))

  -- one more, unless it is there
  pub map_unless : (b : Bool) (xs : List X) (x : X) → map f (if b then xs else xs ++ x ∷ []) ≡ (if b then map f xs else map f xs ++ f x ∷ [])
  map_unless true xs x = refl
  map_unless false xs x = map_push f xs x
