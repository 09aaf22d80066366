-- Items one after another: how a loop over their count goes on, stops and ends.
use Rattle.std.proofs.Common.{◌≡◌, ℕ, suc, ◌+◌, ◌-◌, ◌<◌, ◌≤◌, List, [], ◌∷◌, ◌++◌, Option, Some, None, refl, sym, ap, ◌∙◌, append_assoc, arith}
use Rattle.std.proofs.lemmas.List.{append-nil}
use Rattle.std.specs.Prelude.{option_map, true}
use Rattle.std.specs.Option.{is_some, option_map_or}
use Rattle.jl_pool.specs.ForProofs.Fields.{◌>>=◌}
use Rattle.jl_classfile.specs.ForProofs.Bodies.{Reader, with_front, items_at}

front_twice : {X : Type 0} (a b : List X) (r : Option (List X × List ℕ)) → with_front a (with_front b r) ≡ with_front (a ++ b) r
front_twice {X = X} a b None = refl
front_twice {X = X} a b (Some x) = ap (λ (xs : List X). Some (xs, x.1)) (sym (append_assoc a b x.0))

items-suc : {X : Type 0} (item : Reader X) (n : ℕ) (bytes : List ℕ) → items_at item
    (suc n) bytes ≡ (item bytes >>= λ x. with_front (x.0 ∷ []) (items_at item n x.1))
unfolding items_at
items-suc item n bytes = refl

items-zero : {X : Type 0} (item : Reader X) (bytes : List ℕ) → items_at item 0 bytes ≡ Some ([], bytes)
unfolding items_at
items-zero item bytes = refl

less_one : (n k : ℕ) → k < n → n - k ≡ suc (n - (k + 1))
less_one n k h = omega arith

items-step : {X : Type 0} (item : Reader X) (n k : ℕ) (rest : List ℕ) → k < n
    → items_at item (n - k) rest ≡ (item rest >>= λ x. with_front (x.0 ∷ []) (items_at item (n - (k + 1)) x.1))
items-step item n k rest h = ap (λ (m : ℕ). items_at item m rest) (less_one n k h) ∙ items-suc item (n - (k + 1)) rest

-- one more was read
pub items-more : {X : Type 0} (item : Reader X) (n k : ℕ) (front : List X) (rest after : List ℕ) (x : X) (all : Option (List X × List ℕ)) → k < n
    → item rest ≡ Some (x, after)
    → with_front front (items_at item (n - k) rest) ≡ all → with_front (front ++ x ∷ []) (items_at item (n - (k + 1)) after) ≡ all
items-more {X = X} item n k front rest after x all h e so_far =
    sym (front_twice front (x ∷ []) (items_at item (n - (k + 1)) after))
    ∙ ap (λ (r : Option (List X × List ℕ)). with_front front r)
    (sym (items-step item n k rest h ∙ ap (λ (o : Option (X × List ℕ)). o >>= λ y. with_front (y.0 ∷ []) (items_at item (n - (k + 1)) y.1)) e))
    ∙ so_far

-- none stands there
pub items-stop : {X : Type 0} (item : Reader X) (n k : ℕ) (front : List X) (rest : List ℕ) (all : Option (List X × List ℕ)) → k < n → item rest ≡ None
    → with_front front (items_at item (n - k) rest) ≡ all → all ≡ None
items-stop {X = X} item n k front rest all h e so_far =
    sym so_far
    ∙ ap (λ (r : Option (List X × List ℕ)). with_front front r)
    (items-step item n k rest h ∙ ap (λ (o : Option (X × List ℕ)). o >>= λ y. with_front (y.0 ∷ []) (items_at item (n - (k + 1)) y.1)) e)

-- all were read
pub items-end : {X : Type 0} (item : Reader X) (n k : ℕ) (front : List X) (rest : List ℕ) (all : Option (List X × List ℕ)) → n ≤ k
    → with_front front (items_at item (n - k) rest) ≡ all → all ≡ Some (front, rest)
items-end {X = X} item n k front rest all h so_far =
    let none : n - k ≡ 0 = omega arith in
    sym so_far
    ∙ ap (λ (r : Option (List X × List ℕ)). with_front front r) (ap (λ (m : ℕ). items_at item m rest) none ∙ items-zero item rest)
    ∙ ap (λ (xs : List X). Some (xs, rest)) (append-nil front)

-- ---- items that are passed over

rest-front : {X : Type 0} (front : List X) (read : Option (List X × List ℕ)) → option_map (λ x. x.1) (with_front front read) ≡ option_map (λ x. x.1) read
rest-front front None = refl
rest-front front (Some x) = refl

pub rest-more : {X : Type 0} (item : Reader X) (n k : ℕ) (rest after : List ℕ) (x : X) (all : Option (List ℕ)) → k < n → item rest ≡ Some (x, after)
    → option_map (λ y. y.1) (items_at item (n - k) rest) ≡ all → option_map (λ y. y.1) (items_at item (n - (k + 1)) after) ≡ all
rest-more {X = X} item n k rest after x all h e so_far =
    sym (rest-front (x ∷ []) (items_at item (n - (k + 1)) after))
    ∙ ap (λ (r : Option (List X × List ℕ)). option_map (λ y. y.1) r)
    (sym (items-step item n k rest h ∙ ap (λ (o : Option (X × List ℕ)). o >>= λ y. with_front (y.0 ∷ []) (items_at item (n - (k + 1)) y.1)) e))
    ∙ so_far

pub rest-stop : {X : Type 0} (item : Reader X) (n k : ℕ) (rest : List ℕ) (all : Option (List ℕ)) → k < n → item rest ≡ None
    → option_map (λ y. y.1) (items_at item (n - k) rest) ≡ all → all ≡ None
rest-stop {X = X} item n k rest all h e so_far =
    sym so_far
    ∙ ap (λ (r : Option (List X × List ℕ)). option_map (λ y. y.1) r)
    (items-step item n k rest h ∙ ap (λ (o : Option (X × List ℕ)). o >>= λ y. with_front (y.0 ∷ []) (items_at item (n - (k + 1)) y.1)) e)

pub rest-end : {X : Type 0} (item : Reader X) (n k : ℕ) (rest : List ℕ) (all : Option (List ℕ)) → n ≤ k
    → option_map (λ y. y.1) (items_at item (n - k) rest) ≡ all → all ≡ Some rest
rest-end {X = X} item n k rest all h so_far =
    let none : n - k ≡ 0 = omega arith in
    sym so_far ∙ ap (λ (r : Option (List X × List ℕ)). option_map (λ y. y.1) r) (ap (λ (m : ℕ). items_at item m rest) none ∙ items-zero item rest)

-- ---- items that are read when they are asked for

abbrev list_of : {X : Type 0} → Option (List X × List ℕ) → List X
list_of read = option_map_or (λ x. x.0) read []

after_one : {X : Type 0} (x : X) (read : Option (List X × List ℕ)) → is_some (with_front (x ∷ []) read) ≡ true
    → (is_some read ≡ true) × (list_of (with_front (x ∷ []) read) ≡ x ∷ list_of read)
after_one x None there = absurd cc
after_one x (Some y) there = (refl, refl)

items-first : {X : Type 0} (item : Reader X) (n : ℕ) (bytes : List ℕ) → 1 ≤ n
    → items_at item n bytes ≡ (item bytes >>= λ x. with_front (x.0 ∷ []) (items_at item (n - 1) x.1))
items-first item n bytes h = let next : n ≡ suc (n - 1) = omega arith in ap (λ (m : ℕ). items_at item m bytes) next ∙ items-suc item (n - 1) bytes

-- one stands in front of the others
pub one-more : {X : Type 0} (item : Reader X) (n : ℕ) (bytes after : List ℕ) (x : X) → 1 ≤ n → item bytes ≡ Some (x, after)
    → is_some (items_at item n bytes) ≡ true
    → (is_some (items_at item (n - 1) after) ≡ true) × (list_of (items_at item n bytes) ≡ x ∷ list_of (items_at item (n - 1) after))
one-more {X = X} item n bytes after x h e there =
    let all = items-first item n bytes h ∙ ap (λ (o : Option (X × List ℕ)). o >>= λ y. with_front (y.0 ∷ []) (items_at item (n - 1) y.1)) e in
    let later = after_one x (items_at item (n - 1) after) (sym (ap (λ (r : Option (List X × List ℕ)). is_some r) all) ∙ there) in
    (later.0, ap (λ (r : Option (List X × List ℕ)). list_of r) all ∙ later.1)

pub one-less : {X : Type 0} (item : Reader X) (n : ℕ) (bytes : List ℕ) → 1 ≤ n → item bytes ≡ None → is_some (items_at item n bytes) ≡ true → ⊥
one-less {X = X} item n bytes h e there =
    let all = items-first item n bytes h ∙ ap (λ (o : Option (X × List ℕ)). o >>= λ y. with_front (y.0 ∷ []) (items_at item (n - 1) y.1)) e in
    let clash = sym (ap (λ (r : Option (List X × List ℕ)). is_some r) all) ∙ there in cc
