-- Legal lists: none, one entry more, beginnings, and what goes from entry to entry.
use Rattle.std.specs.Prelude.{◌≡◌, ℕ, zero, suc, ◌⊎◌, List, [], ◌∷◌, ◌++◌, take, length, slice_get, Some}
use Rattle.std.proofs.Common.{refl, ap, sym, subst, arith, inl, inr, append_assoc}
use Rattle.std.proofs.lemmas.List.{take-append-le, append-nil}
use Rattle.std.proofs.lemmas.Option.{slice_get_within}
use Rattle.std.proofs.Math.Seq.{take-append_seam}
use Rattle.jl_types.specs.declared.limits.Limits.{Limits}
use Rattle.jl_types.specs.Events.Event.{Event}
use Rattle.jl_types.specs.Events.Entries.{Entry, IsEntry, IsLegal, events_of}

pub legal_none : (limits : Limits) → IsLegal limits []
legal_none limits = record { each = λ n entry at. absurd (cc at) }

-- ---- one entry more

at_more : {A : Type 0} (xs : List A) (x : A) (n : ℕ) (y : A) → slice_get (xs ++ x ∷ []) n ≡ Some y
    → (slice_get xs n ≡ Some y) ⊎ ((n ≡ length xs) × (x ≡ y))
at_more [] x zero y at = inr (refl, cc at)
at_more [] x (suc n) y at = absurd (cc at)
at_more (z ∷ xs) x zero y at = inl at
at_more (z ∷ xs) x (suc n) y at = elim (at_more xs x n y at) [ inl h ↦ inl h | inr h ↦ inr (ap suc h.0, h.1) ]

module _ (limits : Limits) (entries : List Entry) (entry : Entry) (legal : IsLegal limits entries) (next : IsEntry limits (events_of entries) entry) where
  more_at : (n : ℕ) (x : Entry) → (slice_get entries n ≡ Some x) ⊎ ((n ≡ length entries) × (entry ≡ x))
      → IsEntry limits (events_of (take n (entries ++ entry ∷ []))) x
  more_at n x (inl at) =
      let lt = slice_get_within entries n x at in
      subst (λ (es : List Entry). IsEntry limits (events_of es) x) (sym (take-append-le n entries (entry ∷ []) (omega arith))) (legal.each n x at)
  more_at n x (inr same) =
      let whole : take n (entries ++ entry ∷ []) ≡ entries = rw (same.0) (take-append_seam entries (entry ∷ [])) in
      subst (λ (y : Entry). IsEntry limits (events_of (take n (entries ++ entry ∷ []))) y) (same.1)
      (subst (λ (es : List Entry). IsEntry limits (events_of es) entry) (sym whole) next)

  pub legal_more : IsLegal limits (entries ++ entry ∷ [])
  legal_more = record { each = λ n x at. more_at n x (at_more entries entry n x at) }

-- ---- beginnings

taken_at : {A : Type 0} (xs : List A) (n k : ℕ) (x : A) → slice_get (take n xs) k ≡ Some x → (slice_get xs k ≡ Some x) × (take k (take n xs) ≡ take k xs)
taken_at xs zero k x at = absurd (cc at)
taken_at [] (suc n) k x at = absurd (cc at)
taken_at (y ∷ xs) (suc n) zero x at = (at, refl)
taken_at (y ∷ xs) (suc n) (suc k) x at = let rest = taken_at xs n k x at in (rest.0, ap (λ ys. y ∷ ys) rest.1)

pub legal_beginning : (limits : Limits) (entries : List Entry) → IsLegal limits entries → (n : ℕ) → IsLegal limits (take n entries)
legal_beginning limits entries legal n = record {
  each = λ k entry at.
      let taken = taken_at entries n k entry at in
      subst (λ (es : List Entry). IsEntry limits (events_of es) entry) (sym taken.1) (legal.each k entry taken.0);
}

-- ---- from entry to entry

at_seam : {A : Type 0} (done rest : List A) (x : A) → slice_get (done ++ x ∷ rest) (length done) ≡ Some x
at_seam [] rest x = refl
at_seam (y ∷ done) rest x = at_seam done rest x

pub events_more : (entries : List Entry) (entry : Entry) → events_of (entries ++ entry ∷ []) ≡ events_of entries ++ entry.event ∷ []
events_more [] entry = refl
events_more (first ∷ entries) entry = ap (λ (h : List Event). first.event ∷ h) (events_more entries entry)

-- what holds of no entries, and stays with each entry, holds of a legal list
module _ (limits : Limits) (P : List Entry → Type 0)
    (more : (done : List Entry) (entry : Entry) → IsEntry limits (events_of done) entry → P done → P (done ++ entry ∷ [])) where
  on_from : (rest done : List Entry) → IsLegal limits (done ++ rest) → P done → P (done ++ rest)
  on_from [] done legal so = subst P (sym (append-nil done)) so
  on_from (entry ∷ rest) done legal so =
      let next : IsEntry limits (events_of done) entry =
      subst (λ (es : List Entry). IsEntry limits (events_of es) entry) (take-append_seam done (entry ∷ rest))
      (legal.each (length done) entry (at_seam done rest entry)) in
      let all : (done ++ entry ∷ []) ++ rest ≡ done ++ entry ∷ rest = append_assoc done (entry ∷ []) rest in
      subst P all (on_from rest (done ++ entry ∷ []) (subst (λ (es : List Entry). IsLegal limits es) (sym all) legal) (more done entry next so))

  pub by_entries : P [] → (entries : List Entry) → IsLegal limits entries → P entries
  by_entries none entries legal = on_from entries [] legal none
