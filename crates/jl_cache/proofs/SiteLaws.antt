-- Which numbers have links after a change, and what lists the links by their numbers.
use Rattle.std.specs.Prelude.{◌≡◌, ◌≤◌, ◌<◌, ◌^◌, ◌++◌, ◌==◌, ◌⊎◌, ℕ, Bool, true, false, not, nat_lt, List, [], ◌∷◌, Option, Some, None, if◌then◌else◌}
use Rattle.std.specs.List.{AllByRecursion}
use Rattle.std.proofs.Common.{refl, ap, sym, ◌∙◌, subst, arith, inl, inr}
use Rattle.std.proofs.lemmas.Bool.{cases_order, ltb-true}
use Rattle.std.proofs.lemmas.Bool.Decides.{Decides-eqb}
use Rattle.std.proofs.lemmas.Option.{same_Some}
use Rattle.jl_types.specs.declared.link.Link.{Link}
use Rattle.jl_types.proofs.BySite.{Rises, same_there, other_there, none_below, no_value}
use Rattle.jl_numbered.specs.Numbers.{entries_from}
use Rattle.jl_cache.specs.Links.{link_at, link_with}
use Rattle.jl_cache.specs.ForProofs.Sites.{HaveSites}

-- ---- past the numbers of sites

other : (site s : ℕ) → site < 2 ^ 32 → 2 ^ 32 ≤ s → (site == s) ≡ false
other site s low le = by_test (site == s) refl
  where
    by_test : (b : Bool) → (site == s) ≡ b → b ≡ false
    by_test true e = absurd (let same = (Decides-eqb site s).0 e in omega (arith, same, low, le))
    by_test false e = refl

-- one link is put or goes
pub one_changed : (links before : List (ℕ × Link)) (site : ℕ) (o : Option Link) → ((s : ℕ) → link_at links s ≡ (if site == s then o else link_at before s))
    → site < 2 ^ 32 → HaveSites before → HaveSites links
one_changed links before site o e low h s le =
    e s ∙ ap (λ (b : Bool). if b then o else link_at before s) (other site s low le) ∙ h s le

-- rows are put
pub rows_put : (links before rows : List (ℕ × Link)) → ((s : ℕ) → link_at links s ≡ link_with rows (link_at before s) s)
    → AllByRecursion (λ (r : ℕ × Link). r.0 < 2 ^ 32) rows → HaveSites before → HaveSites links
rows_put links before rows e low h s le = e s ∙ ap (λ (o : Option Link). link_with rows o s) (h s le) ∙ none rows low
  where
    none : (rows : List (ℕ × Link)) → AllByRecursion (λ (r : ℕ × Link). r.0 < 2 ^ 32) rows → link_with rows None s ≡ None
    none [] low = refl
    none (row ∷ rows) low = ap (λ (b : Bool). link_with rows (if b then Some row.1 else None) s) (other row.0 s low.0 le) ∙ none rows low.1

-- a site that has a link
pub is_site : (links : List (ℕ × Link)) → HaveSites links → (s : ℕ) (l : Link) → link_at links s ≡ Some l → s < 2 ^ 32
is_site links h s l e = by_order (cases_order s (2 ^ 32))
  where
    by_order : ((s ≡ 2 ^ 32) ⊎ ((s < 2 ^ 32) ⊎ (2 ^ 32 < s))) → s < 2 ^ 32
    by_order (inl same) = absurd (no_value l (sym e ∙ h s (omega (arith, same))))
    by_order (inr (inl lt)) = lt
    by_order (inr (inr gt)) = absurd (no_value l (sym e ∙ h s (omega (arith, gt))))

-- ---- the links from a number on

pub from_start : (rows : List (ℕ × Link)) → entries_from 0 rows ≡ rows
from_start [] = refl
from_start (row ∷ rows) = by_test (nat_lt row.0 0) refl (from_start rows)
  where
    by_test : (b : Bool) → nat_lt row.0 0 ≡ b → entries_from 0 rows ≡ rows → (if not b then row ∷ entries_from 0 rows else entries_from 0 rows) ≡ row ∷ rows
    by_test true e rest = absurd (let lt = ltb-true row.0 0 e in omega (arith, lt))
    by_test false e rest = ap (λ (left : List (ℕ × Link)). row ∷ left) rest

abbrev first : List (ℕ × Link) → Option (ℕ × Link)
first [] = None
first (row ∷ rows) = Some row

-- the first one is the link of its site
pub first_is : (n : ℕ) (rows : List (ℕ × Link)) → Rises rows → (s : ℕ) (l : Link) (rest : List (ℕ × Link)) → entries_from n rows ≡ (s, l) ∷ rest
    → link_at rows s ≡ Some l
first_is n [] h s l rest e = cc
first_is n (row ∷ rows) h s l rest e = by_test (nat_lt row.0 n) refl (first_is n rows h.1 s l rest) e
  where
    by_test : (b : Bool) → nat_lt row.0 n ≡ b → (entries_from n rows ≡ (s, l) ∷ rest → link_at rows s ≡ Some l)
        → (if not b then row ∷ entries_from n rows else entries_from n rows) ≡ (s, l) ∷ rest → link_at (row ∷ rows) s ≡ Some l
    by_test true lt later e =
        other_there row.0 s row.1 rows (λ same. no_value l (sym (later e) ∙ none_below s rows
        (subst (λ n. AllByRecursion (λ (r : ℕ × Link). n < r.0) rows) same h.0))) ∙ later e
    by_test false ge later e =
        let same : Some row ≡ Some (s, l) = ap first e in
        (λ i. link_at (row ∷ rows) (same_Some (s, l) row (sym same) i).0) ∙ same_there row.0 row.1 rows ∙ (λ i. Some (same_Some row (s, l) same i).1)

-- ---- bounds

pub up_to : (n m : ℕ) (rows : List (ℕ × Link)) → n ≤ m → AllByRecursion (λ (r : ℕ × Link). r.0 ≤ n) rows → AllByRecursion (λ (r : ℕ × Link). r.0 ≤ m) rows
up_to n m [] le h = tt
up_to n m (row ∷ rows) le h = (let low = h.0 in omega (arith, low, le), up_to n m rows le h.1)

-- one row more
pub one_more : (n : ℕ) (rows : List (ℕ × Link)) (row : ℕ × Link) → AllByRecursion (λ (r : ℕ × Link). r.0 ≤ n) rows → row.0 ≤ n
    → AllByRecursion (λ (r : ℕ × Link). r.0 ≤ n) (rows ++ row ∷ [])
one_more n [] row h le = (le, tt)
one_more n (r ∷ rows) row h le = (h.0, one_more n rows row h.1 le)
