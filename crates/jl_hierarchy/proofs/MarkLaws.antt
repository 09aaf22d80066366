-- The marks of methods that a subclass declares again, as some are added.
use Rattle.std.specs.Prelude.{◌≡◌, ℕ, zero, suc, ◌<◌, ◌==◌, ◌&&◌, Bool, true, false, List, [], ◌∷◌, ◌++◌, length, slice_set}
use Rattle.std.specs.List.{list_any}
use Rattle.std.proofs.Common.{refl, ap, ◌∙◌, arith}
use Rattle.std.proofs.lemmas.Bool.{or_left, or_right}
use Rattle.std.proofs.lemmas.Cmp.{nat_eq_equiv}
use Rattle.std.proofs.lemmas.List.Folds.{list_any-append}
use Rattle.jl_hierarchy.specs.declared.marks.Mark.{Mark}
use Rattle.jl_hierarchy.specs.Redeclared.{tells, is_listed, is_every}

-- the mark of a class and a print
abbrev one : ℕ → ℕ → Mark
one s p = record { class = s; print = p }

-- ---- one mark more

pub mark_stays : (ms new : List Mark) (mark : Mark) → new ≡ ms ++ mark ∷ [] → (s p : ℕ) → is_listed ms s p ≡ true → is_listed new s p ≡ true
mark_stays ms new mark e s p h =
    ap (list_any (tells s p)) e ∙ list_any-append (tells s p) ms (mark ∷ []) ∙ or_left (is_listed ms s p) (list_any (tells s p) (mark ∷ [])) h

pub mark_last : (ms new : List Mark) (mark : Mark) → new ≡ ms ++ mark ∷ [] → (s p : ℕ) → tells s p mark ≡ true → is_listed new s p ≡ true
mark_last ms new mark e s p h =
    ap (list_any (tells s p)) e ∙ list_any-append (tells s p) ms (mark ∷ [])
    ∙ or_right (is_listed ms s p) (list_any (tells s p) (mark ∷ [])) (or_left (tells s p mark) false h)

pub tells_itself : (s p : ℕ) → tells s p (one s p) ≡ true
tells_itself s p = ap (λ (b : Bool). b && (p == p)) (nat_eq_equiv.refl s) ∙ nat_eq_equiv.refl p

-- ---- classes of which every print is marked

-- one test more, which fails
pub every_longer : (every : List Bool) (s : ℕ) → is_every every s ≡ true → is_every (every ++ false ∷ []) s ≡ true
every_longer [] s h = cc
every_longer (b ∷ every) zero h = h
every_longer (b ∷ every) (suc s) h = every_longer every s h

-- one test set
pub every_set : (every : List Bool) (n s : ℕ) → is_every every s ≡ true → is_every (slice_set every n true) s ≡ true
every_set [] n s h = h
every_set (b ∷ every) zero zero h = refl
every_set (b ∷ every) zero (suc s) h = h
every_set (b ∷ every) (suc n) zero h = h
every_set (b ∷ every) (suc n) (suc s) h = every_set every n s h

pub every_here : (every : List Bool) (n : ℕ) → n < length every → is_every (slice_set every n true) n ≡ true
every_here [] n lt = absurd (omega arith)
every_here (b ∷ every) zero lt = refl
every_here (b ∷ every) (suc n) lt = every_here every n (omega arith)
