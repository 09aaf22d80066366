-- Rows that a further class parts into those whose links it drops and the others.
use Rattle.std.proofs.Common.{◌≡◌, ◌∙◌, sym, ap, refl, append_assoc, append-nil, Decides, List, [], ◌∷◌, ◌++◌, reverse, cond}
use Rattle.std.specs.Prelude.{◌≢◌, MatchBool, Bool, true, false, filter, Option, Some, None, option_map, is_none}
use Rattle.std.specs.List.{cons_option}
use Rattle.std.proofs.lemmas.List.{reverse-reverse}
use Rattle.jl_types.specs.declared.key.Key.{Key}
use Rattle.jl_types.specs.Values.World.{Classes}
use Rattle.jl_report.specs.declared.row.Row.{Row}
use Rattle.jl_report.specs.declared.breaking.Dropped.{Dropped}
use Rattle.jl_report.specs.Drops.{now_changed, dropped_among, left_among, is_open}
use Rattle.jl_report.proofs.GatherLaws.{last_first}

-- ---- a test by equality

pub by_equality : {X : Type 0} (r b : Bool) (x y : X) → MatchBool r (x ≡ y) (x ≢ y) → Decides b (x ≡ y) → r ≡ b
by_equality true b x y is test = sym (test.1 is)
by_equality false true x y isnt test = absurd (isnt (test.0 refl))
by_equality false false x y isnt test = refl

-- ---- one element more of those that pass a test

pub one_passes : {X : Type 0} (test : X → Bool) (made : List X) (x : X) (rest : List X) → test x ≡ true
    → (made ++ x ∷ []) ++ filter test rest ≡ made ++ filter test (x ∷ rest)
one_passes test made x rest e =
    append_assoc made (x ∷ []) (filter test rest) ∙ sym (ap (λ (b : Bool). made ++ cond b (x ∷ filter test rest) (filter test rest)) e)

pub one_fails : {X : Type 0} (test : X → Bool) (made : List X) (x : X) (rest : List X) → test x ≡ false
    → made ++ filter test rest ≡ made ++ filter test (x ∷ rest)
one_fails test made x rest e = sym (ap (λ (b : Bool). made ++ cond b (x ∷ filter test rest) (filter test rest)) e)

-- ---- the rows that are open

-- those so far and those from here on are those of all
pub record OpenSoFar (cs : Classes) (first rows before kept : List Row) : Type 0 where
  pub all : kept ++ filter (is_open cs) (reverse rows) ≡ before ++ filter (is_open cs) first

pub open_begun : (cs : Classes) (first rows before : List Row) → rows ≡ reverse first → OpenSoFar cs first rows before before
open_begun cs first rows before is =
    record { all = ap (λ (xs : List Row). before ++ filter (is_open cs) xs) (ap reverse is ∙ reverse-reverse first) }

pub open_kept : (cs : Classes) (first rows before kept new : List Row) (row : Row) → OpenSoFar cs first (rows ++ row ∷ []) before kept
    → is_open cs row ≡ true → new ≡ kept ++ row ∷ [] → OpenSoFar cs first rows before new
open_kept cs first rows before kept new row so passes is = record {
  all =
      ap (λ (xs : List Row). xs ++ filter (is_open cs) (reverse rows)) is
      ∙ one_passes (is_open cs) kept row (reverse rows) passes
      ∙ sym (ap (λ (xs : List Row). kept ++ filter (is_open cs) xs) (last_first rows row))
      ∙ so.all;
}

pub open_left : (cs : Classes) (first rows before kept : List Row) (row : Row) → OpenSoFar cs first (rows ++ row ∷ []) before kept
    → is_open cs row ≡ false → OpenSoFar cs first rows before kept
open_left cs first rows before kept row so fails = record {
  all =
      one_fails (is_open cs) kept row (reverse rows) fails
      ∙ sym (ap (λ (xs : List Row). kept ++ filter (is_open cs) xs) (last_first rows row))
      ∙ so.all;
}

pub open_ended : (cs : Classes) (first rows before kept : List Row) → OpenSoFar cs first rows before kept → rows ≡ []
    → kept ≡ before ++ filter (is_open cs) first
open_ended cs first rows before kept so none =
    sym (append-nil kept) ∙ sym (ap (λ (xs : List Row). kept ++ filter (is_open cs) (reverse xs)) none) ∙ so.all

-- ---- the rows whose links are dropped

-- those that are left so far and those from here on are those of all, and so are those that are dropped
pub record Parted (cs : Classes) (keys : List Key) (first rows left : List Row) (earlier told : List Dropped) : Type 0 where
  pub all_left : left ++ left_among cs keys (reverse rows) ≡ left_among cs keys first
  pub all_told : told ++ dropped_among cs keys (reverse rows) ≡ earlier ++ dropped_among cs keys first

pub parted_begun : (cs : Classes) (keys : List Key) (first rows : List Row) (earlier : List Dropped) → rows ≡ reverse first
    → Parted cs keys first rows [] earlier earlier
parted_begun cs keys first rows earlier is =
    let same = ap reverse is ∙ reverse-reverse first in
    record { all_left = ap (left_among cs keys) same; all_told = ap (λ (xs : List Row). earlier ++ dropped_among cs keys xs) same }

module _ (cs : Classes) (keys : List Key) (first rows left : List Row) (row : Row) (earlier told : List Dropped) where
  rest : List Dropped
  rest = dropped_among cs keys (reverse rows)

  with_this : Option Row → List Dropped
  with_this now = cons_option (option_map (λ after. record { before = row; after = after }) now) rest

  pub parted_left : (new : List Row) → Parted cs keys first (rows ++ row ∷ []) left earlier told → now_changed cs keys row ≡ None
      → new ≡ left ++ row ∷ [] → Parted cs keys first rows new earlier told
  unfolding with_this rest
  parted_left new so none is = record {
    all_left =
        ap (λ (xs : List Row). xs ++ left_among cs keys (reverse rows)) is
        ∙ one_passes (λ r. is_none (now_changed cs keys r)) left row (reverse rows) (ap is_none none)
        ∙ sym (ap (λ (xs : List Row). left ++ left_among cs keys xs) (last_first rows row))
        ∙ so.all_left;
    all_told =
        sym (ap (λ (now : Option Row). told ++ with_this now) none)
        ∙ sym (ap (λ (xs : List Row). told ++ dropped_among cs keys xs) (last_first rows row))
        ∙ so.all_told;
  }

  pub parted_dropped : (new : List Dropped) (one : Dropped) (after : Row) → Parted cs keys first (rows ++ row ∷ []) left earlier told
      → now_changed cs keys row ≡ Some after → one ≡ record { before = row; after = after } → new ≡ told ++ one ∷ []
      → Parted cs keys first rows left earlier new
  unfolding with_this rest
  parted_dropped new one after so some made is = record {
    all_left =
        one_fails (λ r. is_none (now_changed cs keys r)) left row (reverse rows) (ap is_none some)
        ∙ sym (ap (λ (xs : List Row). left ++ left_among cs keys xs) (last_first rows row))
        ∙ so.all_left;
    all_told =
        ap (λ (xs : List Dropped). xs ++ rest) (is ∙ ap (λ (d : Dropped). told ++ d ∷ []) made)
        ∙ append_assoc told (record { before = row; after = after } ∷ []) rest
        ∙ sym (ap (λ (now : Option Row). told ++ with_this now) some)
        ∙ sym (ap (λ (xs : List Row). told ++ dropped_among cs keys xs) (last_first rows row))
        ∙ so.all_told;
  }
