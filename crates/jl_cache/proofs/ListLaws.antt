-- Which rising lists of links are those of a function.
use Rattle.std.specs.Prelude.{◌≡◌, ℕ, zero, suc, ◌+◌, ◌<◌, ◌≤◌, ◌⊎◌, List, [], ◌∷◌, Option, Some, None, option_map}
use Rattle.std.specs.List.{cons_option}
use Rattle.std.proofs.Common.{refl, ap, sym, subst, ◌∙◌, arith, inl, inr}
use Rattle.std.proofs.lemmas.Bool.{cases_order}
use Rattle.jl_types.specs.declared.link.Link.{Link}
use Rattle.jl_types.proofs.InstalledLinks.{rows, above}
use Rattle.jl_cache.specs.Links.{link_at, AreRising}
use Rattle.jl_types.proofs.BySite.{Rises, same_there, other_there, none_below, same_values, rises_of}

-- ---- the links of the first sites

module _ (f : ℕ → Option Link) where
  pub rows_rise : (a n : ℕ) → Rises (rows f a n)
  rows_rise a zero = tt
  rows_rise a (suc n) = by_first (f a) (rows_rise (a + 1) n)
    where
      by_first : (o : Option Link) → Rises (rows f (a + 1) n) → Rises (cons_option (option_map (λ l. (a, l)) o) (rows f (a + 1) n))
      by_first None rest = rest
      by_first (Some l) rest = (above f a (a + 1) n (omega arith), rest)

  module _ (end : ℕ) (within : (s : ℕ) (l : Link) → f s ≡ Some l → s < end) where
    nothing_past : (s : ℕ) → end ≤ s → (o : Option Link) → f s ≡ o → None ≡ o
    nothing_past s le None e = refl
    nothing_past s le (Some l) e = absurd (let lt = within s l e in omega arith)

    pub found_from : (a n : ℕ) → a + n ≡ end → (s : ℕ) → a ≤ s → link_at (rows f a n) s ≡ f s
    found_from a zero e s h = nothing_past s (omega arith) (f s) refl
    found_from a (suc n) e s h = by_place (cases_order a s) (found_from (a + 1) n (omega arith) s)
      where
        here : (o : Option Link) → a ≡ s → f a ≡ o → link_at (cons_option (option_map (λ l. (a, l)) o) (rows f (a + 1) n)) s ≡ o
        here None same is = subst (λ k. link_at (rows f (a + 1) n) k ≡ None) same (none_below a (rows f (a + 1) n) (above f a (a + 1) n (omega arith)))
        here (Some l) same is = subst (λ k. link_at ((a, l) ∷ rows f (a + 1) n) k ≡ Some l) same (same_there a l (rows f (a + 1) n))

        later : (o : Option Link) → a < s → link_at (rows f (a + 1) n) s ≡ f s → link_at (cons_option (option_map (λ l. (a, l)) o) (rows f (a + 1) n)) s ≡ f s
        later None lt rest = rest
        later (Some l) lt rest = other_there a s l (rows f (a + 1) n) (λ same. omega arith) ∙ rest

        by_place : ((a ≡ s) ⊎ ((a < s) ⊎ (s < a))) → (a + 1 ≤ s → link_at (rows f (a + 1) n) s ≡ f s) → link_at (rows f a (suc n)) s ≡ f s
        by_place (inr (inl lt)) rest = later (f a) lt (rest (omega arith))
        by_place (inl same) rest = here (f a) same refl ∙ ap f same
        by_place (inr (inr gt)) rest = absurd (omega arith)

-- a rising list is that of the links of its sites
pub rows_are : (links : List (ℕ × Link)) → Rises links → (end : ℕ) → ((s : ℕ) (l : Link) → link_at links s ≡ Some l → s < end)
    → rows (link_at links) 0 end ≡ links
rows_are links h end within = same_values (rows (link_at links) 0 end) links (rows_rise (link_at links) 0 end) h
    (λ s. found_from (link_at links) end within 0 end (omega arith) s (omega arith))

-- a rising list is that of a function by which each site has its link
pub rows_found : (links : List (ℕ × Link)) → AreRising links → (f : ℕ → Option Link) (n : ℕ) → ((s : ℕ) → link_at links s ≡ f s)
    → ((s : ℕ) (l : Link) → f s ≡ Some l → s < n) → rows f 0 n ≡ links
rows_found links h f n found within =
    same_values (rows f 0 n) links (rows_rise f 0 n) (rises_of links h) (λ s. found_from f n within 0 n (omega arith) s (omega arith) ∙ sym (found s))
