-- What is listed of the links that were installed at the begin are the links of the core.
use Rattle.std.specs.Prelude.{◌≡◌, ◌+◌, ◌<◌, ◌≤◌, ℕ, zero, suc, List, [], ◌∷◌, ◌++◌, filter_map, length, Option, Some, None, option_map}
use Rattle.std.specs.Prelude.{option_and_then, slice_get, AllPairs, Result, Ok, Err, IsOk}
use Rattle.std.specs.List.{range_with_len, cons_option}
use Rattle.std.proofs.Common.{refl, sym, ap, subst, ◌∙◌, arith, append_assoc}
use Rattle.std.proofs.lemmas.List.{append-nil}
use Rattle.std.proofs.lemmas.List.Elements.{All-from_recursion}
use Rattle.std.proofs.lemmas.List.Kept.{AllPairs-cons}
use Rattle.jl_types.specs.declared.event.Made.{Made}
use Rattle.jl_types.specs.declared.limits.Limits.{Limits}
use Rattle.jl_types.specs.declared.link.Link.{Link}
use Rattle.jl_types.specs.declared.refusal.Refusal.{Refusal}
use Rattle.jl_types.specs.Values.World.{World}
use Rattle.jl_types.specs.Events.Event.{Event}
use Rattle.jl_types.specs.Events.Verdict.{verdict}
use Rattle.jl_types.specs.Events.History.{world_after, installed}
use Rattle.jl_types.proofs.InstalledLinks.{rows, above}
use Rattle.jl_types.proofs.Places.{world_more, limit_step}
use Rattle.jl_relink.specs.Laws.{AreAccepted}
use Rattle.jl_core.specs.State.{State, events, world_of, links_of}
use Rattle.jl_renewal.specs.declared.released.Released.{Released}
use Rattle.jl_renewal.specs.Adds.{AreFresh}
use Rattle.jl_renewal.specs.Numbers.{Numbers}
use Rattle.jl_renewal.specs.Renewal.{fresh_rows}
use Rattle.jl_renewal.specs.Staying.{numbers_of, staying_sites}
use Rattle.jl_renewal.proofs.InstallLaws.{rows_fresh}
use Rattle.jl_renewal.proofs.MovedLaw.{next_accepted}
use Rattle.jl_renewal.proofs.MovedNumbers.{mapped}
use Rattle.jl_host.specs.Seats.{room_for, seen_of}
use Rattle.jl_host.specs.Renewing.{row_at, listed}

-- ---- no more places are requested than may be

given : (r : Result Made Refusal) → IsOk r → (made : Made) × (r ≡ Ok made)
given (Ok made) ok = (made, refl)
given (Err refusal) ok = cc

places_within : (limits : Limits) (front rest : List Event) → AreAccepted limits (front ++ rest) → length (world_after front).places ≤ limits.sites
    → length (world_after (front ++ rest)).places ≤ limits.sites
places_within limits front [] accepted few =
    subst (λ (h : List Event). length (world_after h).places ≤ limits.sites) (sym (append-nil front)) few
places_within limits front (e ∷ rest) accepted few =
    let made = given (verdict limits (world_after front) e) (next_accepted limits front e rest accepted) in
    subst (λ (h : List Event). length (world_after h).places ≤ limits.sites) (append_assoc front (e ∷ []) rest)
    (places_within limits (front ++ e ∷ []) rest (subst (AreAccepted limits) (sym (append_assoc front (e ∷ []) rest)) accepted)
    (subst (λ (w : World). length w.places ≤ limits.sites) (sym (world_more front e)) (limit_step limits (world_after front) e made.0 made.1 few)))

pub few_places : (begun : State) → AreAccepted begun.limits (events begun) → length (world_of begun).places ≤ begun.limits.sites
few_places begun accepted = places_within begun.limits [] (events begun) accepted (omega arith)

-- ---- what is listed

same_listed : {B : Type 0} (f g : ℕ → Option B) (most a n : ℕ) → a + n ≤ most → ((s : ℕ) → s < most → f s ≡ g s)
    → filter_map f (range_with_len a n) ≡ filter_map g (range_with_len a n)
same_listed f g most a zero le same = refl
same_listed f g most a (suc n) le same =
    let first = same a (omega (arith, le)) in
    let rest = same_listed f g most (a + 1) n (omega (arith, le)) same in
    λ i. cons_option (first i) (rest i)

room : (places max_sites : ℕ) → places ≤ max_sites → places ≤ room_for max_sites
room places max_sites le = omega arith

pub listed_links : (begun : State) → AreAccepted begun.limits (events begun)
    → listed (seen_of begun).links (length (world_of begun).places) ≡ links_of begun
listed_links begun accepted =
    same_listed (row_at (seen_of begun).links) (λ s. option_map (λ (l : Link). (s, l)) (installed (events begun) s))
    (length (world_of begun).places) 0 (length (world_of begun).places) (omega arith) (λ s lt.
    let few = room (length (world_of begun).places) begun.limits.sites (few_places begun accepted) in
    let at : 0 + s ≡ s = omega arith in
    ap (λ (o : Option (Option Link)). option_map (λ (l : Link). (s, l)) (option_and_then (λ slot. slot) o))
    (mapped (installed (events begun)) 0 (room_for begun.limits.sites) s (omega (arith, lt, few)))
    ∙ ap (λ (t : ℕ). option_map (λ (l : Link). (s, l)) (installed (events begun) t)) at)

-- ---- their sites rise, so that none of them is refused

module _ (links : List (Option Link)) where
  abbrev slot_of : ℕ → Option Link
  slot_of s = option_and_then (λ slot. slot) (slice_get links s)

  abbrev Rises : List (ℕ × Link) → Type 0
  Rises rows = AllPairs (λ a b. a.0 < b.0) rows

  rise_from : (a n : ℕ) → Rises (rows slot_of a n)
  rise_from a zero = λ i j d lt within. absurd (omega (arith, lt, within))
  rise_from a (suc n) = by_slot (slot_of a) (rise_from (a + 1) n)
    where
      by_slot : (o : Option Link) → Rises (rows slot_of (a + 1) n)
          → Rises (cons_option (option_map (λ (l : Link). (a, l)) o) (rows slot_of (a + 1) n))
      by_slot None rest = rest
      by_slot (Some l) rest =
          AllPairs-cons (λ (r q : ℕ × Link). r.0 < q.0) (a, l) (rows slot_of (a + 1) n)
          (All-from_recursion (λ (r : ℕ × Link). a < r.0) (rows slot_of (a + 1) n) (above slot_of a (a + 1) n (omega arith))) rest

  pub listed_fresh : (sites : ℕ) (w v : World) (released : Released) (n : Numbers) (there linked : List (ℕ × Link)) → n ≡ numbers_of w released
      → there ≡ fresh_rows v n linked → linked ≡ listed links sites → AreFresh v there
  listed_fresh sites w v released n there linked numbers are is =
      subst (AreFresh v) (sym are)
      (rows_fresh v n (staying_sites w.classes w.places) (ap (λ (m : Numbers). m.sites) numbers) linked (subst Rises (sym is) (rise_from 0 sites)))
