-- Links of many receivers, and how many a link looks at.
use Rattle.std.specs.Prelude.{◌≡◌, ℕ, suc, ◌<◌, ◌≤◌, ◌&&◌, cond, nat_le, Bool, true, false, List, [], ◌∷◌, map, filter, length, if◌then◌else◌}
use Rattle.std.proofs.Common.{refl, ap, arith}
use Rattle.std.proofs.lemmas.List.FromFn.{length-range_with_len}
use Rattle.std.proofs.lemmas.Bool.{leb-true}
use Rattle.jl_types.specs.declared.answer.Outcome.{Outcome}
use Rattle.jl_types.specs.declared.link.Link.TheVariants.{Table, Mega}
use Rattle.jl_types.specs.declared.link.TableKind.{TableKind}
use Rattle.jl_types.specs.Linkage.Links.{table_or_mega}
use Rattle.jl_types.specs.Values.World.{World, Classes}
use Rattle.jl_types.specs.Values.Members.{is_concrete, numbers}
use Rattle.jl_types.specs.Values.Ancestry.{is_ancestor, receivers}
use Rattle.jl_types.specs.declared.key.Key.{Key}
use Rattle.jl_types.specs.declared.key.Key.TheVariants as key
use Rattle.jl_types.specs.Events.Footprints.{footprint, most_by, most_for}

length_map : {A B : Type 0} (f : A → B) (xs : List A) → length (map f xs) ≡ length xs
length_map f [] = refl
length_map f (x ∷ xs) = ap suc (length_map f xs)

pub of_many : (kind : TableKind) (f : ℕ → ℕ × Outcome) (xs : List ℕ) → 8 < length xs → table_or_mega kind (map f xs) ≡ Mega
of_many kind f xs many = by_size (nat_le (length (map f xs)) 8) refl
  where
    by_size : (b : Bool) → nat_le (length (map f xs)) 8 ≡ b → (if b then Table kind (map f xs) else Mega) ≡ Mega
    by_size true is = absurd (let le = leb-true (length (map f xs)) 8 is in let same = length_map f xs in omega arith)
    by_size false is = refl

-- ---- how many receivers

fewer : (p : ℕ → Bool) (xs : List ℕ) → length (filter p xs) ≤ length xs
fewer p [] = omega arith
fewer p (x ∷ xs) = by_test (p x) (fewer p xs)
  where
    by_test : (b : Bool) → length (filter p xs) ≤ length xs → length (cond b (x ∷ filter p xs) (filter p xs)) ≤ suc (length xs)
    by_test true h = omega arith
    by_test false h = omega arith

few_receivers : (cs : Classes) (c : ℕ) → length (receivers cs c) ≤ length cs.rows
few_receivers cs c =
    let le = fewer (λ x. is_concrete cs x && is_ancestor cs c x) (numbers cs) in
    let all = length-range_with_len 0 (length cs.rows) in
    omega arith

-- a link looks at no more receivers than there are classes, or takes one tick
pub few_ticks : (w : World) (s n : ℕ) → length w.classes.rows < n → 1 < n → most_for w s < n
few_ticks w s n rows one = by_keys (footprint w s)
  where
    by_keys : (ks : List Key) → most_by w.classes ks < n
    by_keys [] = one
    by_keys (key.Receivers c ∷ ks) = let le = few_receivers w.classes c in omega arith
    by_keys (key.Target c ∷ ks) = one
    by_keys (key.Valid p ∷ ks) = one
