-- Names whose units have one byte each, by lanes of a vector and by windows.
use Rattle.std.proofs.Common.{◌≡◌, ◌∙◌, refl, sym, ap, ap₂, subst, arith, ℕ, ◌+◌, ◌%◌, ◌^◌, ◌≤◌, leb, eqb, ◌&&◌, ◌||◌, not, Bool, true, false, List}
use Rattle.std.proofs.Common.{[], ◌∷◌, length, take, drop, map, replicate, bit_or}
use Rattle.std.specs.Prelude.{nat_lt}
use Rattle.std.specs.List.{list_any}
use Rattle.std.proofs.lemmas.Bool.Decides.{nat_tests}
use Rattle.std.proofs.lemmas.List.{take_all, length-drop}
use Rattle.std.proofs.lemmas.Simd.{length-chunk}
use lib.Lanes.{chunk, mask_l, zip2, top}
use Rattle.jl_pool.specs.ForProofs.Marks.{is_odd}
use Rattle.jl_pool.proofs.LaneLaws.{lane, equals, is_some_set, odd_lanes, some_set, covered, longer}
use Rattle.jl_json.specs.ForProofs.NameReading.{is_plain}

plain_or_odd : (byte : ℕ) → not (is_odd byte) ≡ (not (eqb byte 0) && nat_lt byte 128)
plain_or_odd byte = grind (arith, nat_tests)

neither : (a b : Bool) → not (a || b) ≡ (not a && not b)
neither true b = refl
neither false b = refl

-- a plain name has no odd byte
none_odd : (name : List ℕ) → not (list_any is_odd name) ≡ is_plain name
none_odd [] = refl
none_odd (x ∷ xs) = neither (is_odd x) (list_any is_odd xs) ∙ ap₂ (λ a b. a && b) (plain_or_odd x) (none_odd xs)

not_not : (a : Bool) → a ≡ not (not a)
not_not true = refl
not_not false = refl

-- the tests of a vector of n lanes, as the code makes them
abbrev odd_by_lanes : ℕ → List ℕ → List ℕ
odd_by_lanes n v = zip2 bit_or (equals 0 n v) (zip2 (λ a b. lane (leb a b)) (replicate n 128) v)

by_lanes : (v : List ℕ) → length v ≤ 64 → eqb (mask_l (map (top 7) (odd_by_lanes (length v) v)) % 2 ^ 64) 0 ≡ is_plain v
by_lanes v few = not_not _ ∙ ap not (ap is_some_set (odd_lanes v) ∙ some_set is_odd v few) ∙ none_odd v

pub plain_in_window : (name : List ℕ) (i n : ℕ) → i + n ≤ length name → n ≤ 64
    → eqb (mask_l (map (top 7) (odd_by_lanes n (chunk i n name))) % 2 ^ 64) 0 ≡ is_plain (chunk i n name)
plain_in_window name i n room few =
    let v = chunk i n name in
    let long : length v ≡ n = length-chunk i n name room in
    subst (λ m. eqb (mask_l (map (top 7) (odd_by_lanes m v)) % 2 ^ 64) 0 ≡ is_plain v) long (by_lanes v (omega (arith, long)))

both_plain : (x y z : List ℕ) → (list_any is_odd x || list_any is_odd y) ≡ list_any is_odd z → (is_plain x && is_plain y) ≡ is_plain z
both_plain x y z e =
    ap₂ (λ a b. a && b) (sym (none_odd x)) (sym (none_odd y)) ∙ sym (neither (list_any is_odd x) (list_any is_odd y)) ∙ ap not e ∙ none_odd z

-- a front and a window after it
pub window_more : (i n j : ℕ) (name : List ℕ) → j ≡ i + n → (is_plain (take i name) && is_plain (take n (drop i name))) ≡ is_plain (take j name)
window_more i n j name e = both_plain (take i name) (take n (drop i name)) (take j name) (longer is_odd i n j name e)

-- a front and the last window, which overlap
pub last_window : (i j n : ℕ) (name : List ℕ) → i ≤ j → length name ≤ i + n → (is_plain (take j name) && is_plain (take n (drop i name))) ≡ is_plain name
last_window i j n name le fits =
    ap (λ rest. is_plain (take j name) && is_plain rest) (take_all n (drop i name) (omega (arith, length-drop i name)))
    ∙ both_plain (take j name) (drop i name) name (covered is_odd i j name le)
