-- Recent records after older ones.
use Rattle.std.specs.Prelude.{◌≡◌, ℕ, Bool, true, ◌&&◌, List, [], ◌∷◌, ◌++◌, Vec, Option, None, Some, option_map, is_none, MatchOption, Result}
use Rattle.std.specs.Prelude.{Ok, Err, OnOk, OnErr}
use Rattle.std.specs.Option.{option_or}
use Rattle.std.specs.Str.{bytes_eq}
use Rattle.indexmap.specs.IndexMap.{insert_entry, insert_all}
use Rattle.indexmap.specs.Layout.{hash_map}
use Rattle.std.proofs.Common.{refl, ap, sym, ◌∙◌, subst, append_assoc}
use Rattle.std.proofs.lemmas.List.{append-nil}
use Rattle.std.proofs.lemmas.List.Folds.{find-append}
use Rattle.std.proofs.lemmas.Bool.{and_parts}
use Rattle.jl_types.specs.Values.Members.{recorded}
use Rattle.jl_hierarchy.specs.ForProofs.Kept.{named, are_new}
use Rattle.jl_hierarchy.proofs.Records.{new_entry}

-- what is recorded under the name is what the older ones have, or else what the recent ones have
pub recorded_after : (name : List ℕ) (older recent : List (List ℕ × ℕ))
    → recorded name (older ++ recent) ≡ option_or (recorded name older) (recorded name recent)
recorded_after name older recent =
    ap (option_map (λ (r : List ℕ × ℕ). r.1)) (find-append (λ (r : List ℕ × ℕ). bytes_eq r.0 name) older recent) ∙ first _ _
  where
    first : (o p : Option (List ℕ × ℕ)) → option_map (λ r. r.1) (option_or o p) ≡ option_or (option_map (λ r. r.1) o) (option_map (λ r. r.1) p)
    first None p = refl
    first (Some r) p = refl

-- a name that is new to both is new to each
module _ (name : List ℕ) (older recent : List (List ℕ × ℕ)) (fresh : recorded name (older ++ recent) ≡ None) where
  neither : (o p : Option ℕ) → option_or o p ≡ None → (o ≡ None) × (p ≡ None)
  neither None p e = (refl, e)
  neither (Some c) p e = absurd (let clash : ⊥ = cc in clash)

  pub new_to_each : (recorded name older ≡ None) × (recorded name recent ≡ None)
  new_to_each = neither (recorded name older) (recorded name recent) (sym (recorded_after name older recent) ∙ fresh)

-- one more new name is new to those before it
pub one_more_new : (name : List ℕ) (c : ℕ) (older recent : List (List ℕ × ℕ)) → are_new older recent ≡ true
    → recorded name (older ++ recent) ≡ None → are_new older (recent ++ (name, c) ∷ []) ≡ true
one_more_new name c older [] new fresh = ap (λ (o : Option ℕ). is_none o && true) (new_to_each name older [] fresh).0
one_more_new name c older (r ∷ recent) new fresh =
    let parts = and_parts (is_none (recorded r.0 older)) (are_new (older ++ r ∷ []) recent) new in
    ap (λ (b : Bool). b && are_new (older ++ r ∷ []) (recent ++ (name, c) ∷ [])) parts.0
    ∙ one_more_new name c (older ++ r ∷ []) recent parts.1 (ap (recorded name) (append_assoc older (r ∷ []) recent) ∙ fresh)

none_of : (o : Option ℕ) → is_none o ≡ true → o ≡ None
none_of None e = refl
none_of (Some c) e = absurd (let clash : ⊥ = cc in clash)

-- new names that are added to a map come after those that it has
pub named_after : {A : Type 0} (older recent : List (Vec ℕ A × ℕ)) → are_new (named older) (named recent) ≡ true
    → named (insert_all (λ k j. bytes_eq k.items j.items) older recent) ≡ named older ++ named recent
named_after older [] new = sym (append-nil (named older))
named_after {A = A} older (e ∷ recent) new =
    let parts = and_parts (is_none (recorded e.0.items (named older))) (are_new (named older ++ (e.0.items, e.1) ∷ []) (named recent)) new in
    let next = new_entry (hash_map older (tt {0}) 0) e.0 e.1 (none_of (recorded e.0.items (named older)) parts.0) in
    named_after (insert_entry (λ (k j : Vec ℕ A). bytes_eq k.items j.items) older e.0 e.1) recent
    (subst (λ (names : List (List ℕ × ℕ)). are_new names (named recent) ≡ true) (sym next) parts.1)
    ∙ ap (λ (names : List (List ℕ × ℕ)). names ++ named recent) next
    ∙ append_assoc (named older) ((e.0.items, e.1) ∷ []) (named recent)

-- what holds of what a call leaves on Ok and on Err holds of what it leaves
pub left_by : {X E L : Type 0} (P : L → Type 0) (r : Result X E) (new more same : L) → OnOk r (new ≡ more) → OnErr r (new ≡ same) → P more → P same → P new
left_by P (Ok x) new more same ok err p q = subst P (sym ok) p
left_by P (Err e) new more same ok err p q = subst P (sym err) q

-- what the first has, or else what the second one has
pub or_else_is : {Q : Type 0} (first second result : Option ℕ) → MatchOption first Q (λ x. result ≡ Some x) → (Q → result ≡ second)
    → result ≡ option_or first second
or_else_is None second result here there = there here
or_else_is (Some x) second result here there = here
