-- Rows by number, of which some are released.
use Rattle.std.specs.Prelude.{◌≡◌, ◌<◌, ◌⊎◌, ℕ, zero, suc, Bool, true, false, List, [], ◌∷◌, ◌++◌, map, filter_map, length, slice_get}
use Rattle.std.specs.Prelude.{slice_set, Option, Some, None, option_map, option_and_then, is_none, if◌then◌else◌}
use Rattle.std.specs.List.{cons_option}
use Rattle.std.proofs.Common.{refl, sym, ap, ◌∙◌, inl, inr}
use Rattle.jl_types.specs.Values.World.{unreleased, is_missing}
use Rattle.jl_types.specs.Events.Retirement.{is_listed}
use Rattle.jl_types.specs.Events.Release.{without}
use Rattle.jl_types.specs.Events.Verdict.{invalidated}
use Rattle.jl_types.proofs.Releasing.{unreleased_within, unreleased_without}
use Rattle.jl_renewal.specs.Moved.{moved, kept}
use Rattle.jl_renewal.proofs.MovedLists.{kept_at, kept_set, kept_unset, map_set, length_set}

module _ {A : Type 0} where
  -- ---- a row

  -- what isn't missing is there
  pub row_there : (rows : List (Option A)) (k : ℕ) → is_missing rows k ≡ false → (x : A) × (unreleased rows k ≡ Some x)
  row_there rows k = by_row (unreleased rows k)
    where
      by_row : (o : Option A) → is_none o ≡ false → (x : A) × (o ≡ Some x)
      by_row None e = cc
      by_row (Some x) e = (x, refl)

  pub not_missing : (rows : List (Option A)) (k : ℕ) (x : A) → unreleased rows k ≡ Some x → is_missing rows k ≡ false
  not_missing rows k x e = ap (λ (o : Option A). is_none o) e

  pub missing_row : (rows : List (Option A)) (k : ℕ) → is_missing rows k ≡ true → unreleased rows k ≡ None
  missing_row rows k = by_row (unreleased rows k)
    where
      by_row : (o : Option A) → is_none o ≡ true → o ≡ None
      by_row None e = refl
      by_row (Some x) e = cc

  pub row_at : (rows : List (Option A)) (k : ℕ) (x : A) → unreleased rows k ≡ Some x → slice_get rows k ≡ Some (Some x)
  row_at [] k x e = cc
  row_at (row ∷ rows) zero x e = ap Some e
  row_at (row ∷ rows) (suc k) x e = row_at rows k x e

  pub present_within : (rows : List (Option A)) (k : ℕ) → is_missing rows k ≡ false → k < length rows
  present_within rows k e = let here = row_there rows k e in unreleased_within rows k here.0 here.1

  -- ---- a row more, and another row

  pub row_more : (rows : List (Option A)) (x : Option A) (k : ℕ) (y : A) → unreleased (rows ++ x ∷ []) k ≡ Some y
      → (unreleased rows k ≡ Some y) ⊎ ((k ≡ length rows) × (x ≡ Some y))
  row_more [] x zero y e = inr (refl, e)
  row_more [] x (suc k) y e = cc
  row_more (row ∷ rows) x zero y e = inl e
  row_more (row ∷ rows) x (suc k) y e = elim (row_more rows x k y e) [ inl h ↦ inl h | inr h ↦ inr (ap suc h.0, h.1) ]

  pub row_before : (rows : List (Option A)) (x : Option A) (k : ℕ) (y : A) → unreleased rows k ≡ Some y → unreleased (rows ++ x ∷ []) k ≡ Some y
  row_before [] x k y e = cc
  row_before (row ∷ rows) x zero y e = e
  row_before (row ∷ rows) x (suc k) y e = row_before rows x k y e

  pub row_set : (rows : List (Option A)) (c : ℕ) (x : Option A) (k : ℕ) (y : A) → unreleased (slice_set rows c x) k ≡ Some y
      → (unreleased rows k ≡ Some y) ⊎ ((c ≡ k) × (x ≡ Some y))
  row_set [] c x k y e = cc
  row_set (row ∷ rows) zero x zero y e = inr (refl, e)
  row_set (row ∷ rows) zero x (suc k) y e = inl e
  row_set (row ∷ rows) (suc c) x zero y e = inl e
  row_set (row ∷ rows) (suc c) x (suc k) y e = elim (row_set rows c x k y e) [ inl h ↦ inl h | inr h ↦ inr (ap suc h.0, h.1) ]

  -- what isn't missing stays so where a row that isn't released takes the place of one
  pub present_set : (rows : List (Option A)) (c : ℕ) (x : A) (k : ℕ) → is_missing rows k ≡ false → is_missing (slice_set rows c (Some x)) k ≡ false
  present_set [] c x k e = e
  present_set (row ∷ rows) zero x zero e = refl
  present_set (row ∷ rows) zero x (suc k) e = e
  present_set (row ∷ rows) (suc c) x zero e = e
  present_set (row ∷ rows) (suc c) x (suc k) e = present_set rows c x k e

  pub present_more : (rows : List (Option A)) (x : Option A) (k : ℕ) → is_missing rows k ≡ false → is_missing (rows ++ x ∷ []) k ≡ false
  present_more rows x k e = let here = row_there rows k e in not_missing (rows ++ x ∷ []) k here.0 (row_before rows x k here.0 here.1)

  -- ---- rows that are let go

  -- what is left was there, and isn't among those that go
  pub row_left : (rows : List (Option A)) (going : List ℕ) (k : ℕ) (x : A) → unreleased (without rows going) k ≡ Some x
      → (is_listed going k ≡ false) × (unreleased rows k ≡ Some x)
  row_left rows going k x e = by_test (is_listed going k) (sym (unreleased_without going rows k) ∙ e)
    where
      by_test : (b : Bool) → (if b then None else unreleased rows k) ≡ Some x → (b ≡ false) × (unreleased rows k ≡ Some x)
      by_test true e = cc
      by_test false e = (refl, e)

  pub row_stays : (rows : List (Option A)) (going : List ℕ) (k : ℕ) → is_listed going k ≡ false → unreleased (without rows going) k ≡ unreleased rows k
  row_stays rows going k other = unreleased_without going rows k ∙ ap (λ (b : Bool). if b then None else unreleased rows k) other

  -- ---- what stays by flags

  pub row_kept : (stays : List Bool) (rows : List (Option A)) (j i : ℕ) → moved stays j ≡ Some i → unreleased (kept stays rows) i ≡ unreleased rows j
  row_kept stays rows j i e = ap (option_and_then (λ (row : Option A). row)) (kept_at stays rows j i e)

  pub kept_without : (stays : List Bool) (rows : List (Option A)) (going : List ℕ)
      → kept stays (without rows going) ≡ without (kept stays rows) (filter_map (moved stays) going)
  kept_without stays rows [] = refl
  kept_without stays rows (g ∷ going) = kept_without stays (slice_set rows g None) going ∙ by_number (moved stays g) refl
    where
      by_number : (o : Option ℕ) → moved stays g ≡ o
          → without (kept stays (slice_set rows g None)) (filter_map (moved stays) going)
          ≡ without (kept stays rows) (cons_option o (filter_map (moved stays) going))
      by_number None is = ap (λ (rs : List (Option A)). without rs (filter_map (moved stays) going)) (kept_unset stays rows g None is)
      by_number (Some i) is = ap (λ (rs : List (Option A)). without rs (filter_map (moved stays) going)) (kept_set stays rows g i None is)

-- ---- switch points that become invalid

pub length_invalidated : (switches : List (Option Bool)) (points : List ℕ) → length (invalidated switches points) ≡ length switches
length_invalidated switches [] = refl
length_invalidated switches (p ∷ points) =
    length_invalidated (slice_set switches p (Some false)) points ∙ length_set switches p (Some false)

-- they aren't released by that
pub present_invalidated : (switches : List (Option Bool)) (points : List ℕ) (p : ℕ) → is_missing switches p ≡ false
    → is_missing (invalidated switches points) p ≡ false
present_invalidated switches [] p e = e
present_invalidated switches (q ∷ points) p e =
    present_invalidated (slice_set switches q (Some false)) points p (present_set switches q false p e)

-- ---- rows under a map

module _ {A B : Type 0} (f : A → B) where
  pub row_map : (rows : List (Option A)) (k : ℕ) → unreleased (map (option_map f) rows) k ≡ option_map f (unreleased rows k)
  row_map [] k = refl
  row_map (row ∷ rows) zero = refl
  row_map (row ∷ rows) (suc k) = row_map rows k

  pub missing_map : (rows : List (Option A)) (k : ℕ) → is_missing (map (option_map f) rows) k ≡ is_missing rows k
  missing_map rows k = ap (λ (o : Option B). is_none o) (row_map rows k) ∙ by_row (unreleased rows k)
    where
      by_row : (o : Option A) → is_none (option_map f o) ≡ is_none o
      by_row None = refl
      by_row (Some x) = refl

  pub map_without : (rows : List (Option A)) (going : List ℕ) → map (option_map f) (without rows going) ≡ without (map (option_map f) rows) going
  map_without rows [] = refl
  map_without rows (g ∷ going) =
      map_without (slice_set rows g None) going ∙ ap (λ (rs : List (Option B)). without rs going) (map_set (option_map f) rows g None)
