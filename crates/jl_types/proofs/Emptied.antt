-- What an event drops are the sites of the slots that it empties; and how many classes a list makes.
use Rattle.std.specs.Prelude.{◌≡◌, ℕ, zero, suc, ◌+◌, ◌≤◌, ◌&&◌, Bool, true, false, cond, List, [], ◌∷◌, ◌++◌, filter, length, Option, Some, None}
use Rattle.std.specs.Prelude.{option_map, is_some, is_none, if◌then◌else◌}
use Rattle.std.specs.List.{range_with_len, cons_option}
use Rattle.std.proofs.Common.{refl, ap, sym, ◌∙◌, arith}
use Rattle.jl_types.specs.declared.limits.Limits.{Limits}
use Rattle.jl_types.specs.declared.link.Link.{Link}
use Rattle.jl_types.specs.Events.Event.{Event}
use Rattle.jl_types.specs.Events.Verdict.{verdict}
use Rattle.jl_types.specs.Events.History.{world_after, installed, has_link, dropped}
use Rattle.jl_types.specs.Events.Entries.{Entry, IsEntry, change, emptied}
use Rattle.jl_types.proofs.Written.{rows, unrequested}
use Rattle.jl_types.proofs.Places.{accepted_of, places_grow}

module _ (before after : ℕ → Option Link) where
  abbrev goes : ℕ → Bool
  goes s = is_some (before s) && is_none (after s)

  abbrev changes : ℕ → Option (Option Link)
  changes s = change (before s) (after s)

  -- the first site, by what stands there before and afterwards
  by_slots : (s : ℕ) (rest : List (ℕ × Option Link)) (sites : List ℕ) → emptied rest ≡ sites → (b a : Option Link)
      → emptied (cons_option (option_map (λ slot. (s, slot)) (change b a)) rest) ≡ cond (is_some b && is_none a) (s ∷ sites) sites
  by_slots s rest sites e None None = e
  by_slots s rest sites e None (Some l) = e
  by_slots s rest sites e (Some l) None = ap (λ (xs : List ℕ). s ∷ xs) e
  by_slots s rest sites e (Some l) (Some m) = by_test (has_link (Some m) l)
    where
      by_test : (t : Bool) → emptied (cons_option (option_map (λ slot. (s, slot)) (if t then None else Some (Some m))) rest) ≡ sites
      by_test true = e
      by_test false = e

  emptied_sites : (n a : ℕ) → emptied (rows changes a n) ≡ filter goes (range_with_len a n)
  emptied_sites zero a = refl
  emptied_sites (suc n) a = by_slots a (rows changes (a + 1) n) (filter goes (range_with_len (a + 1) n)) (emptied_sites n (a + 1)) (before a) (after a)

none_passes : (p : ℕ → Bool) (n a : ℕ) → ((s : ℕ) → a ≤ s → p s ≡ false) → filter p (range_with_len a n) ≡ []
none_passes p zero a never = refl
none_passes p (suc n) a never =
    ap (λ (b : Bool). cond b (a ∷ filter p (range_with_len (a + 1) n)) (filter p (range_with_len (a + 1) n))) (never a (omega arith))
    ∙ none_passes p n (a + 1) (λ s le. never s (omega arith))

-- a longer range has no more that pass, if none beyond the shorter does
range_longer : (p : ℕ → Bool) (m n a : ℕ) → m ≤ n → ((s : ℕ) → a + m ≤ s → p s ≡ false) → filter p (range_with_len a n) ≡ filter p (range_with_len a m)
range_longer p zero n a le never = none_passes p n a (λ s h. never s (omega arith))
range_longer p (suc m) zero a le never = absurd (omega arith)
range_longer p (suc m) (suc n) a le never =
    ap (λ (xs : List ℕ). cond (p a) (a ∷ xs) xs) (range_longer p m n (a + 1) (omega arith) (λ s h. never s (omega arith)))

pub dropped_are_emptied : (limits : Limits) (h : List Event) (entry : Entry) → IsEntry limits h entry → entry.reply.dropped ≡ emptied entry.slots
dropped_are_emptied limits h entry is =
    let e = entry.event in
    let old = length (world_after h).places in
    let new = length (world_after (h ++ e ∷ [])).places in
    let never : (s : ℕ) → old ≤ s → goes (installed h) (installed (h ++ e ∷ [])) s ≡ false =
    λ s le. ap (λ (o : Option Link). is_some o && is_none (installed (h ++ e ∷ []) s)) (unrequested h s le) in
    sym (accepted_of (dropped h e) (verdict limits (world_after h) e) entry.reply is.answered).1
    ∙ sym (range_longer (goes (installed h) (installed (h ++ e ∷ []))) old new 0 (places_grow h e) (λ s le. never s (omega arith)))
    ∙ sym (emptied_sites (installed h) (installed (h ++ e ∷ [])) new 0)
    ∙ sym (ap emptied is.slots)
