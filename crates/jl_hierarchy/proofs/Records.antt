-- What a loader finds by name, as its map has it.
use Rattle.std.specs.Prelude.{◌≡◌, ℕ, Bool, true, false, cond, List, [], ◌∷◌, ◌++◌, Vec, find, None, option_map, option_and_then, Some, length}
use Rattle.std.specs.Prelude.{get_or, slice_get, slice_set, ◌<◌}
use Rattle.std.specs.Bool.{one_answer}
use Rattle.std.specs.List.{AllZip, each_same}
use Rattle.std.specs.Vec.{vec_len}
use Rattle.std.specs.Map.{lookup}
use Rattle.std.specs.Str.{bytes_eq}
use Rattle.indexmap.specs.IndexMap.{IndexMap, insert_entry}
use Rattle.indexmap.proofs.CallerLemmas.{insert_entry-new}
use Rattle.std.proofs.Common.{refl, ap, sym, ◌∙◌}
use Rattle.std.proofs.lemmas.Bool.Decides.{Decides-like}
use Rattle.std.proofs.lemmas.Slice.Eq.{bytes_eq-Decides}
use Rattle.std.specs.Option.{option_map_or}
use Rattle.std.proofs.lemmas.Option.{slice_get-get_or}
use Rattle.jl_types.specs.Values.Members.{recorded}
use Rattle.jl_types.specs.Events.Definitions.{with_record}
use Rattle.jl_hierarchy.specs.ForProofs.Kept.{named}

same_turned : (a b : List ℕ) → bytes_eq a b ≡ bytes_eq b a
same_turned a b = one_answer (bytes_eq a b) (bytes_eq b a) (bytes_eq-Decides a b) (Decides-like (bytes_eq b a) sym sym (bytes_eq-Decides b a))

-- what is recorded under the name is what the map has there
pub recorded_is : {A : Type 0} (name : List ℕ) (entries : List (Vec ℕ A × ℕ))
    → recorded name (named entries) ≡ lookup (λ k. bytes_eq name k.items) entries
recorded_is name [] = refl
recorded_is {A = A} name (e ∷ entries) =
    ap (λ (b : Bool). option_map (λ r. r.1) (cond b (Some (e.0.items, e.1)) (find (λ r. bytes_eq r.0 name) (named entries))))
    (same_turned e.0.items name)
    ∙ by_test (bytes_eq name e.0.items) (recorded_is name entries)
  where
    by_test : (b : Bool) → recorded name (named entries) ≡ lookup (λ k. bytes_eq name k.items) entries
        → option_map (λ r. r.1) (cond b (Some (e.0.items, e.1)) (find (λ r. bytes_eq r.0 name) (named entries)))
        ≡ cond b (Some e.1) (lookup (λ k. bytes_eq name k.items) entries)
    by_test true rest = refl
    by_test false rest = rest

named_end : {A : Type 0} (entries : List (Vec ℕ A × ℕ)) (e : Vec ℕ A × ℕ)
    → named (entries ++ e ∷ []) ≡ named entries ++ (e.0.items, e.1) ∷ []
named_end [] e = refl
named_end {A = A} (x ∷ entries) e = ap (λ (rs : List (List ℕ × ℕ)). (x.0.items, x.1) ∷ rs) (named_end entries e)

-- a name that isn't recorded comes after the others
pub new_entry : {A S : Type 0} (m : IndexMap (Vec ℕ A) ℕ S) (key : Vec ℕ A) (v : ℕ) → recorded key.items (named m.entries) ≡ None
    → named (insert_entry (λ k j. bytes_eq k.items j.items) m.entries key v) ≡ named m.entries ++ (key.items, v) ∷ []
new_entry m key v e =
    ap named (insert_entry-new (λ k j. bytes_eq k.items j.items) m key v (sym (recorded_is key.items m.entries) ∙ e))
    ∙ named_end m.entries (key, v)

-- the loader's records with one more, in their place
module _ (loaders : List (List (List ℕ × ℕ))) (loader : ℕ) (records d : List (List ℕ × ℕ)) (lt : loader < length loaders)
    (is : records ≡ get_or loaders loader d) where
  there : slice_get loaders loader ≡ Some records
  there = slice_get-get_or loaders loader d lt ∙ ap Some (sym is)

  pub with_one_more : (name : List ℕ) (c : ℕ) → slice_set loaders loader (records ++ (name, c) ∷ []) ≡ with_record loaders loader name c
  with_one_more name c = sym (ap (λ o. option_map_or (λ rs. slice_set loaders loader (rs ++ (name, c) ∷ [])) o loaders) there)

  pub none_there : (name : List ℕ) → option_and_then (recorded name) (slice_get loaders loader) ≡ None → recorded name records ≡ None
  none_there name e = sym (ap (option_and_then (recorded name)) there) ∙ e

-- ---- copies of the records

-- each entry has the same name and class
abbrev pub AreCopies : {A : Type 0} → List (Vec ℕ A × ℕ) → List (Vec ℕ A × ℕ) → Type 0
AreCopies es fs = AllZip (λ e f. (AllZip (λ (x y : ℕ). y ≡ x) e.0.items f.0.items × (vec_len f.0 ≡ vec_len e.0)) × (f.1 ≡ e.1)) es fs

pub named_same : {A : Type 0} (es fs : List (Vec ℕ A × ℕ)) → AreCopies es fs → named fs ≡ named es
named_same [] [] h = refl
named_same [] (f ∷ fs) h = absurd h
named_same (e ∷ es) [] h = absurd h
named_same {A = A} (e ∷ es) (f ∷ fs) h = λ i. (each_same e.0.items f.0.items h.0.0.0 i, h.0.1 i) ∷ named_same es fs h.1 i
