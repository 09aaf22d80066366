-- The list of installed links: its sites are requested, each stands once, and none is left out.
use Rattle.std.specs.Prelude.{◌≡◌, ℕ, zero, suc, ◌+◌, ◌<◌, ◌≤◌, ◌⊎◌, ◌↔◌, List, length, slice_get, filter_map, Option, Some, None, option_map, Ok}
use Rattle.std.specs.Prelude.{AllPairs, Contains}
use Rattle.std.specs.List.{range_with_len, AllByRecursion, cons_option}
use Rattle.std.proofs.Common.{refl, ap, subst, ◌∙◌, arith, inl, inr}
use Rattle.std.proofs.lemmas.List.Elements.{All-from_recursion}
use Rattle.std.proofs.lemmas.List.Kept.{AllPairs-cons}
use Rattle.std.proofs.lemmas.Option.{same_Some, slice_get_within}
use Rattle.jl_types.specs.declared.ids.Place.{Place}
use Rattle.jl_types.specs.declared.link.Link.{Link}
use Rattle.jl_types.specs.Events.Event.{Event}
use Rattle.jl_types.specs.Values.World.{World}
use Rattle.jl_types.specs.Linkage.Stages.{stage_at}
use Rattle.jl_types.specs.Linkage.Links.{scratch, link_of}
use Rattle.jl_types.specs.Events.History.{world_after, installed, installed_links}
use Rattle.jl_types.proofs.Installed.{installed_to, settled_now}

pub requested : (w : World) (s : ℕ) (l : Link) → scratch w s ≡ Ok l → s < length w.places
requested w s l e = by_place (slice_get w.places s) refl e
  where
    by_place : (place : Option Place) → slice_get w.places s ≡ place → link_of w.classes (stage_at w s place) ≡ Ok l → s < length w.places
    by_place None is e = cc
    by_place (Some place) is e = slice_get_within w.places s place is

pub installed_requested : (h : List Event) (s : ℕ) (l : Link) → installed h s ≡ Some l → s < length (world_after h).places
installed_requested h s l e = requested (world_after h) s l (settled_now h s l (installed_to h s l e))

module _ (f : ℕ → Option Link) where
  abbrev pub row : ℕ → Option (ℕ × Link)
  row s = option_map (λ l. (s, l)) (f s)

  abbrev pub rows : ℕ → ℕ → List (ℕ × Link)
  rows a n = filter_map row (range_with_len a n)

  pub above : (b a n : ℕ) → b < a → AllByRecursion (λ (r : ℕ × Link). b < r.0) (rows a n)
  above b a zero h = tt
  above b a (suc n) h = by_first (f a) (above b (a + 1) n (omega arith))
    where
      by_first : (o : Option Link) → AllByRecursion (λ (r : ℕ × Link). b < r.0) (rows (a + 1) n)
          → AllByRecursion (λ (r : ℕ × Link). b < r.0) (cons_option (option_map (λ l. (a, l)) o) (rows (a + 1) n))
      by_first None rest = rest
      by_first (Some l) rest = (h, rest)

  rising : (a n : ℕ) → AllPairs (λ r q. r.0 < q.0) (rows a n)
  rising a zero = λ i j d lt le. absurd (omega arith)
  rising a (suc n) = by_first (f a) (rising (a + 1) n)
    where
      by_first : (o : Option Link) → AllPairs (λ r q. r.0 < q.0) (rows (a + 1) n)
          → AllPairs (λ r q. r.0 < q.0) (cons_option (option_map (λ l. (a, l)) o) (rows (a + 1) n))
      by_first None rest = rest
      by_first (Some l) rest =
          AllPairs-cons (λ (r q : ℕ × Link). r.0 < q.0) (a, l) (rows (a + 1) n)
          (All-from_recursion (λ (r : ℕ × Link). a < r.0) (rows (a + 1) n) (above a (a + 1) n (omega arith))) rest

  right : (a n : ℕ) → AllByRecursion (λ (r : ℕ × Link). f r.0 ≡ Some r.1) (rows a n)
  right a zero = tt
  right a (suc n) = by_first (f a) refl (right (a + 1) n)
    where
      by_first : (o : Option Link) → f a ≡ o → AllByRecursion (λ (r : ℕ × Link). f r.0 ≡ Some r.1) (rows (a + 1) n)
          → AllByRecursion (λ (r : ℕ × Link). f r.0 ≡ Some r.1) (cons_option (option_map (λ l. (a, l)) o) (rows (a + 1) n))
      by_first None e rest = rest
      by_first (Some l) e rest = (e, rest)

  found : (a n s : ℕ) (l : Link) → a ≤ s → s < a + n → f s ≡ Some l → Contains (rows a n) (s, l)
  found a zero s l h k e = absurd (omega arith)
  found a (suc n) s l h k e = elim (same_or_above a s h) [
    | inl same ↦ first (f a) (ap f same ∙ e) same
    | inr more ↦ later (f a) (found (a + 1) n s l more (omega arith) e)
  ]
    where
      same_or_above : (a s : ℕ) → a ≤ s → (a ≡ s) ⊎ (a + 1 ≤ s)
      same_or_above zero zero h = inl refl
      same_or_above zero (suc s) h = inr (omega arith)
      same_or_above (suc a) zero h = absurd (omega arith)
      same_or_above (suc a) (suc s) h = elim (same_or_above a s (omega arith)) [ inl e ↦ inl (ap suc e) | inr lt ↦ inr (omega arith) ]

      first : (o : Option Link) → o ≡ Some l → a ≡ s → Contains (cons_option (option_map (λ l. (a, l)) o) (rows (a + 1) n)) (s, l)
      first None e same = cc
      first (Some m) e same = (0, omega arith, λ i. (same i, same_Some m l e i))

      later : (o : Option Link) → Contains (rows (a + 1) n) (s, l) → Contains (cons_option (option_map (λ l. (a, l)) o) (rows (a + 1) n)) (s, l)
      later None c = c
      later (Some m) c = (suc c.0, let lt = c.1 in omega arith, c.2)

  among : (a n s : ℕ) (l : Link) → Contains (rows a n) (s, l) → f s ≡ Some l
  among a n s l c = subst (λ (r : ℕ × Link). f r.0 ≡ Some r.1) c.2 (All-from_recursion (λ (r : ℕ × Link). f r.0 ≡ Some r.1) (rows a n) (right a n) c.0
      (s, l) c.1)

pub links_rise : (h : List Event) → AllPairs (λ r q. r.0 < q.0) (installed_links h)
links_rise h = rising (installed h) 0 (length (world_after h).places)

pub links_are : (h : List Event) (s : ℕ) (l : Link) → (installed h s ≡ Some l) ↔ Contains (installed_links h) (s, l)
links_are h s l = (
  λ e. found (installed h) 0 (length (world_after h).places) s l (omega arith) (let lt = installed_requested h s l e in omega arith) e,
  λ c. among (installed h) 0 (length (world_after h).places) s l c,
)
