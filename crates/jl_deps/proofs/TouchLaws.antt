-- The sites that keys touch, by the footprints that a map has.
use Rattle.std.specs.Prelude.{◌≡◌, ℕ, ◌<◌, ◌==◌, ◌||◌, ◌&&◌, ◌++◌, Bool, true, false, cond, List, [], ◌∷◌, map, filter, find, Option, Some, None, option_map}
use Rattle.std.specs.List.{AllByRecursion, list_any}
use Rattle.std.specs.Option.{option_map_or}
use Rattle.std.proofs.Common.{refl, ap, sym, ◌∙◌, arith}
use Rattle.std.proofs.lemmas.Bool.Decides.{Decides-eqb}
use Rattle.std.proofs.lemmas.Cmp.{nat_eq_equiv}
use Rattle.std.proofs.lemmas.List.Folds.{list_any-append}
use Rattle.jl_hierarchy.specs.ForProofs.Kept as kept
use Rattle.jl_hierarchy.proofs.Rising.{has, none_up_to}
use Rattle.jl_types.specs.declared.key.Key.{Key}
use Rattle.jl_types.specs.declared.key.Key.TheVariants as key
use Rattle.jl_types.specs.Events.Footprints.{same_key, has_key, meets}
use Rattle.jl_types.specs.ForProofs.BySite.{value_at}
use Rattle.jl_types.proofs.BySite.{Rises}
use Rattle.jl_deps.specs.declared.form.Form.{Form}
use Rattle.jl_deps.specs.declared.form.Rests.{Rests}

-- ---- keys

key_turned : (k j : Key) → same_key k j ≡ same_key j k
key_turned (key.Receivers c) (key.Receivers d) = nat_eq_equiv.symm c d
key_turned (key.Receivers c) (key.Target d) = refl
key_turned (key.Receivers c) (key.Valid d) = refl
key_turned (key.Target c) (key.Receivers d) = refl
key_turned (key.Target c) (key.Target d) = nat_eq_equiv.symm c d
key_turned (key.Target c) (key.Valid d) = refl
key_turned (key.Valid c) (key.Receivers d) = refl
key_turned (key.Valid c) (key.Target d) = refl
key_turned (key.Valid c) (key.Valid d) = nat_eq_equiv.symm c d

none_any : {A : Type 0} (xs : List A) → list_any (λ (x : A). false) xs ≡ false
none_any [] = refl
none_any (x ∷ xs) = none_any xs

any_or : {A : Type 0} (p q : A → Bool) (xs : List A) → list_any (λ x. p x || q x) xs ≡ (list_any p xs || list_any q xs)
any_or p q [] = refl
any_or p q (x ∷ xs) = ap (λ (b : Bool). (p x || q x) || b) (any_or p q xs) ∙ by_tests (p x) (q x) (list_any p xs) (list_any q xs)
  where
    by_tests : (a b d e : Bool) → ((a || b) || (d || e)) ≡ ((a || d) || (b || e))
    by_tests true b d e = refl
    by_tests false true true e = refl
    by_tests false true false e = refl
    by_tests false false d e = refl

-- some key of the one is in the other, looked for the other way round
meets_turned : (footprint keys : List Key) → meets footprint keys ≡ list_any (has_key footprint) keys
meets_turned [] keys = sym (none_any keys)
meets_turned (k ∷ footprint) keys =
    (λ i. by_key keys i || meets_turned footprint keys i)
    ∙ sym (any_or (same_key k) (has_key footprint) keys)
  where
    by_key : (keys : List Key) → has_key keys k ≡ list_any (same_key k) keys
    by_key [] = refl
    by_key (j ∷ keys) = λ i. key_turned j k i || by_key keys i

-- ---- sites

all_kept : (n : ℕ) (p : Rests → Bool) (rows : List (ℕ × Rests)) → AllByRecursion (λ (r : ℕ × Rests). n < r.0) rows
    → AllByRecursion (λ m. n < m) (map (λ r. r.0) (filter (λ r. p r.1) rows))
all_kept n p [] h = tt
all_kept n p (row ∷ rows) h = by_test (p row.1) (all_kept n p rows h.1)
  where
    by_test : (b : Bool) → AllByRecursion (λ m. n < m) (map (λ r. r.0) (filter (λ r. p r.1) rows))
        → AllByRecursion (λ m. n < m) (map (λ r. r.0) (cond b (row ∷ filter (λ r. p r.1) rows) (filter (λ r. p r.1) rows)))
    by_test true rest = (h.0, rest)
    by_test false rest = rest

pub sites_rise : (p : Rests → Bool) (rows : List (ℕ × Rests)) → Rises rows → kept.Rises (map (λ r. r.0) (filter (λ r. p r.1) rows))
sites_rise p [] h = tt
sites_rise p (row ∷ rows) h = by_test (p row.1) (sites_rise p rows h.1)
  where
    by_test : (b : Bool) → kept.Rises (map (λ r. r.0) (filter (λ r. p r.1) rows))
        → kept.Rises (map (λ r. r.0) (cond b (row ∷ filter (λ r. p r.1) rows) (filter (λ r. p r.1) rows)))
    by_test true rest = (all_kept row.0 p rows h.0, rest)
    by_test false rest = rest

-- a site is among those that pass where its footprint does
pub passing : (p : Rests → Bool) (s : ℕ) (rows : List (ℕ × Rests)) → Rises rows
    → has s (map (λ r. r.0) (filter (λ r. p r.1) rows)) ≡ option_map_or p (value_at rows s) false
passing p s [] h = refl
passing p s (row ∷ rows) h = by_tests (p row.1) (row.0 == s) refl refl (passing p s rows h.1)
  where
    absent : row.0 ≡ s → has s (map (λ r. r.0) (filter (λ r. p r.1) rows)) ≡ false
    absent same = none_up_to row.0 s (map (λ r. r.0) (filter (λ r. p r.1) rows)) (all_kept row.0 p rows h.0) (omega arith)

    by_tests : (b d : Bool) → p row.1 ≡ b → (row.0 == s) ≡ d
        → has s (map (λ r. r.0) (filter (λ r. p r.1) rows)) ≡ option_map_or p (value_at rows s) false
        → has s (map (λ r. r.0) (cond b (row ∷ filter (λ r. p r.1) rows) (filter (λ r. p r.1) rows)))
        ≡ option_map_or p (option_map (λ r. r.1) (cond d (Some row) (find (λ r. r.0 == s) rows))) false
    by_tests true true passes is rest = ap (λ (b : Bool). b || has s (map (λ r. r.0) (filter (λ r. p r.1) rows))) is ∙ sym passes
    by_tests true false passes is rest = ap (λ (b : Bool). b || has s (map (λ r. r.0) (filter (λ r. p r.1) rows))) is ∙ rest
    by_tests false true passes is rest = absent ((Decides-eqb row.0 s).0 is) ∙ sym passes
    by_tests false false passes is rest = rest

-- ---- those of some forms alone

-- a test of what is touched, beside one of its form
abbrev pub OfForms : (Form → Bool) → (List Key → Rests → Bool) → Type 0
OfForms p test = (keys : List Key) (r : Rests) → test keys r ≡ (p r.form && list_any (has_key r.footprint) keys)

pub all_touched : OfForms (λ f. true) (λ keys r. meets r.footprint keys)
all_touched keys r = meets_turned r.footprint keys

module _ (p : Form → Bool) (test : List Key → Rests → Bool) (tests : OfForms p test) (index : List (ℕ × Rests)) (rising : Rises index) where
  abbrev pub picked : List Key → List ℕ
  picked keys = map (λ row. row.0) (filter (λ row. test keys row.1) index)

  picked_are : (keys : List Key) (s : ℕ)
      → has s (picked keys) ≡ option_map_or (λ (r : Rests). p r.form && list_any (has_key r.footprint) keys) (value_at index s) false
  picked_are keys s = passing (test keys) s index rising ∙ (λ i. option_map_or (λ (r : Rests). tests keys r i) (value_at index s) false)

  -- no keys touch a site
  pub by_none : (s : ℕ) → has s (picked []) ≡ false
  by_none s = picked_are [] s ∙ by_found (value_at index s)
    where
      never : (b : Bool) → (b && false) ≡ false
      never true = refl
      never false = refl

      by_found : (o : Option Rests) → option_map_or (λ (r : Rests). p r.form && list_any (has_key r.footprint) []) o false ≡ false
      by_found None = refl
      by_found (Some r) = never (p r.form)

  -- what one key touches
  pub by_one : (k : Key) (s : ℕ)
      → has s (picked (k ∷ [])) ≡ option_map_or (λ (r : Rests). p r.form && has_key r.footprint k) (value_at index s) false
  by_one k s = picked_are (k ∷ []) s ∙ by_found (value_at index s)
    where
      alone : (b : Bool) → (b || false) ≡ b
      alone true = refl
      alone false = refl

      by_found : (o : Option Rests) → option_map_or (λ (r : Rests). p r.form && list_any (has_key r.footprint) (k ∷ [])) o false
          ≡ option_map_or (λ (r : Rests). p r.form && has_key r.footprint k) o false
      by_found None = refl
      by_found (Some r) = ap (λ (b : Bool). p r.form && b) (alone (has_key r.footprint k))

  -- one key more
  pub by_more : (front : List Key) (k : Key) (s : ℕ) → has s (picked (front ++ k ∷ [])) ≡ (has s (picked front) || has s (picked (k ∷ [])))
  by_more front k s =
      picked_are (front ++ k ∷ []) s ∙ by_found (value_at index s) ∙ sym (λ i. picked_are front s i || picked_are (k ∷ []) s i)
    where
      any_of : Option Rests → List Key → Bool
      any_of o keys = option_map_or (λ (r : Rests). p r.form && list_any (has_key r.footprint) keys) o false

      spread : (a b d : Bool) → (a && (b || d)) ≡ ((a && b) || (a && d))
      spread true b d = refl
      spread false b d = refl

      by_found : (o : Option Rests) → any_of o (front ++ k ∷ []) ≡ (any_of o front || any_of o (k ∷ []))
      by_found None = refl
      by_found (Some r) =
          ap (λ (b : Bool). p r.form && b) (list_any-append (has_key r.footprint) front (k ∷ []))
          ∙ spread (p r.form) (list_any (has_key r.footprint) front) (list_any (has_key r.footprint) (k ∷ []))
