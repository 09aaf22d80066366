-- The keys of sketches.
use Rattle.std.proofs.Common.{◌≡◌, ap, refl, ℕ, List, [], ◌∷◌}
use Rattle.std.proofs.Common.{Bool, true, false, ◌||◌, if◌then◌else◌, map}
use Rattle.std.proofs.Common.{Option, Some, None, Global, String, string_bytes}
use Rattle.std.specs.List.{list_all, list_any, AllByRecursion}
use Rattle.std.specs.Str.{bytes_eq}
use denote.Ref.{Bor}
use Rattle.std.proofs.lemmas.Option.{none-some}
use Rattle.std.proofs.lemmas.Bool.{and_parts}
use Rattle.serde_json.specs.Data.{Data}
use Rattle.serde_json.specs.View.{members_view}
use Rattle.serde_json.specs.declared.value.Value.{Value}
use Rattle.jl_sketch.specs.declared.sketch.Sketch.{Sketch}
use Rattle.jl_json.specs.Members.{has_key, has_only, keys_of, member_keys, AreAmong}
use Rattle.jl_json.specs.Sketches.{sketch_keys, sketch_of}

all_hold : {A : Type 0} (test : A → Bool) (xs : List A) → list_all test xs ≡ true
    → AllByRecursion (λ x. test x ≡ true) xs
all_hold test [] h = tt
all_hold test (x ∷ xs) h =
    let p = and_parts (test x) (list_all test xs) h in
    (p.0, all_hold test xs p.1)

taken : {A : Type 0} (b : Bool) (o : Option A) (a : A) → (if b then o else None) ≡ Some a → b ≡ true
taken true o a e = refl
taken false o a e = absurd (none-some a e)

pub no_other_keys : (d : Data) (s : Sketch) → sketch_of d ≡ Some s → AreAmong (keys_of d) sketch_keys
no_other_keys d s e = all_hold (has_key sketch_keys) (keys_of d) (taken (has_only sketch_keys d) _ s e)

-- ---- keys of an object, and keys that are named

pub named_has : (key : List ℕ) (named : List (Bor (List ℕ)))
    → has_key (map (λ n. n.now) named) key ≡ list_any (λ n. bytes_eq key n.now) named
named_has key [] = refl
named_has key (n ∷ named) = ap (λ (b : Bool). bytes_eq key n.now || b) (named_has key named)

-- each of these keys is one of those named
abbrev pub fit : List (Bor (List ℕ)) → List (String Global) → Bool
fit named keys = list_all (λ key. list_any (λ n. bytes_eq (string_bytes key) n.now) named) keys

pub entries_fit : (named : List (Bor (List ℕ))) (entries : List (String Global × Value))
    → list_all (has_key (map (λ n. n.now) named)) (member_keys (members_view entries)) ≡ fit named (map (λ e. e.0) entries)
entries_fit named [] = refl
entries_fit named (e ∷ entries) = cc (named_has (string_bytes e.0) named, entries_fit named entries)
