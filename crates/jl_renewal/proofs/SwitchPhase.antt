-- The fresh core's switch points: as many as stay, all valid, and then those that were invalid become so.
use Rattle.std.specs.Prelude.{◌≡◌, ◌<◌, ◌≤◌, ◌+◌, ℕ, zero, suc, Bool, true, false, not, List, [], ◌∷◌, ◌++◌, filter_map, length, slice_get, slice_set}
use Rattle.std.specs.Prelude.{Option, Some, None, option_map, option_and_then, option_to_list, is_ok}
use Rattle.std.specs.Bool.{then_some}
use Rattle.std.specs.Option.{option_map_or}
use Rattle.std.specs.List.{cons_option, list_any, range_with_len}
use Rattle.std.proofs.Common.{refl, sym, ap, subst, ◌∙◌, arith, length-append, append_assoc, append-nil, zero-add, subst₂}
use Rattle.std.proofs.lemmas.List.Elements.{filter_map-append}
use Rattle.std.proofs.lemmas.Bool.{lt-leb, or_from, ne_eqb, both_ways}
use Rattle.jl_types.specs.declared.limits.Limits.{Limits}
use Rattle.jl_types.specs.declared.refusal.CallSiteFault.TheVariants as fault
use Rattle.jl_types.specs.declared.event.EventOf.TheVariants as event
use Rattle.jl_types.specs.declared.event.Made.TheVariants as made
use Rattle.jl_types.specs.declared.refusal.Refusal.TheVariants.{CallSite}
use Rattle.jl_types.specs.Values.World.{World, Classes, Sites, is_missing}
use Rattle.jl_types.specs.Events.Verdict.{unless, invalidated}
use Rattle.jl_renewal.specs.Numbers.{Numbers, numbered_from, numbered, staying, how_many}
use Rattle.jl_renewal.specs.Renewal.{new_switches, invalid_point, invalid_points, invalidation}
use Rattle.jl_renewal.proofs.Phases.{Leads, OneStep, leads_through, leads_nowhere, leads_on}

-- the fresh core once its classes are there, with these switch points
abbrev pub with_points : Classes → List (Option Bool) → World
with_points cs switches = record { classes = cs; places = []; bindings = []; sites = record { call_sites = []; switches = switches } }

-- ---- as many as stay

-- the valid switch points that are made of these numbers
abbrev all_valid : List (Option ℕ) → List (Option Bool)
all_valid numbers = filter_map (option_map (λ number. Some true)) numbers

-- a valid one for each of those that stay
abbrev made_valid : List Bool → List (Option Bool)
made_valid [] = []
made_valid (true ∷ stays) = Some true ∷ made_valid stays
made_valid (false ∷ stays) = made_valid stays

valid_are : (m : ℕ) (stays : List Bool) → all_valid (numbered_from m stays) ≡ made_valid stays
valid_are m [] = refl
valid_are m (true ∷ stays) = ap (λ (rest : List (Option Bool)). Some true ∷ rest) (valid_are (m + 1) stays)
valid_are m (false ∷ stays) = valid_are m stays

valid_many : (stays : List Bool) → length (made_valid stays) ≡ how_many stays
valid_many [] = refl
valid_many (true ∷ stays) = ap suc (valid_many stays)
valid_many (false ∷ stays) = valid_many stays

module _ (limits : Limits) (cs : Classes) where
  abbrev once_valid : List (Option ℕ) → World
  once_valid numbers = with_points cs (all_valid numbers)

  one_valid : (numbers : List (Option ℕ)) (o : Option ℕ) → length (all_valid (numbers ++ o ∷ [])) ≤ limits.switches
      → OneStep limits (once_valid numbers) (option_map (λ number. event.NewSwitch) o) (once_valid (numbers ++ o ∷ []))
  one_valid numbers None few = ap (with_points cs) (filter_map-append (option_map (λ number. Some true)) numbers (None ∷ []) ∙ append-nil (all_valid numbers))
  one_valid numbers (Some k) few = (
    ap (λ (b : Bool). is_ok (unless (then_some b (CallSite fault.Full)) (made.Switch (length (all_valid numbers)))))
        (let all = ap length (filter_map-append (option_map (λ number. Some true)) numbers (Some k ∷ [])) in
        let more = length-append (all_valid numbers) (Some true ∷ []) in
        lt-leb limits.switches (length (all_valid numbers)) (omega (arith, all, more, few))),
    ap (with_points cs) (sym (filter_map-append (option_map (λ number. Some true)) numbers (Some k ∷ []))),
  )

  leads_to_valid : (stays : List Bool) → how_many stays ≤ limits.switches
      → Leads limits (with_points cs []) (new_switches (numbered stays)) (with_points cs (made_valid stays))
  leads_to_valid stays le = subst
      (λ (switches : List (Option Bool)). Leads limits (with_points cs []) (new_switches (numbered stays)) (with_points cs switches))
      (valid_are 0 stays)
      (leads_through limits (option_map (λ number. event.NewSwitch)) once_valid (numbered stays) (λ front o rest e.
      let split = ap (λ numbers. length (all_valid numbers)) (e ∙ sym (append_assoc front (o ∷ []) rest)) in
      let parts = ap length (filter_map-append (option_map (λ number. Some true)) (front ++ o ∷ []) rest) in
      let long = length-append (all_valid (front ++ o ∷ [])) (all_valid rest) in
      let as_many = ap length (valid_are 0 stays) ∙ valid_many stays in
      one_valid front o (omega (arith, split, parts, long, as_many, le))))

-- ---- the invalid ones

-- of those that stay, the new numbers of those that are invalid, from m on
abbrev invalid_from : ℕ → List Bool → List (Option Bool) → List ℕ
invalid_from m [] valid = []
invalid_from m (b ∷ stays) [] = []
invalid_from m (true ∷ stays) (v ∷ valid) = cons_option (then_some (not (option_map_or (λ b. b) v false)) m) (invalid_from (m + 1) stays valid)
invalid_from m (false ∷ stays) (v ∷ valid) = invalid_from m stays valid

-- the list goes on from place p as the other one
module _ {A : Type 0} (xs ys : List A) (y : A) (p : ℕ) (same : (i : ℕ) → slice_get xs (p + i) ≡ slice_get (y ∷ ys) i) where
  at_first : slice_get xs p ≡ Some y
  at_first = let here : p ≡ p + 0 = omega arith in ap (slice_get xs) here ∙ same 0

  goes_on : (i : ℕ) → slice_get xs (p + 1 + i) ≡ slice_get ys i
  goes_on i = let next : p + 1 + i ≡ p + suc i = omega arith in ap (slice_get xs) next ∙ same (suc i)

module _ (sites : Sites) (n : Numbers) where
  abbrev point_of : Option (Option ℕ) → Option (Option Bool) → Option ℕ
  point_of number row = option_and_then
      (λ k. then_some (not (option_map_or (λ valid. valid) (option_and_then (λ row. row) row) false)) k)
      (option_and_then (λ number. number) number)

  point_is : (p : ℕ) (number : Option ℕ) (v : Option Bool) → slice_get n.switches p ≡ Some number → slice_get sites.switches p ≡ Some v
      → invalid_point sites n p ≡ point_of (Some number) (Some v)
  point_is p number v e k = λ i. point_of (e i) (k i)

  points_from : (m p : ℕ) (stays : List Bool) (valid : List (Option Bool)) → length stays ≡ length valid
      → ((i : ℕ) → slice_get n.switches (p + i) ≡ slice_get (numbered_from m stays) i) → ((i : ℕ) → slice_get sites.switches (p + i) ≡ slice_get valid i)
      → filter_map (invalid_point sites n) (range_with_len p (length stays)) ≡ invalid_from m stays valid
  points_from m p [] [] e h k = refl
  points_from m p [] (v ∷ valid) e h k = cc
  points_from m p (b ∷ stays) [] e h k = cc
  points_from m p (true ∷ stays) (v ∷ valid) e h k =
      let first = point_is p (Some m) v (at_first n.switches (numbered_from (m + 1) stays) (Some m) p h) (at_first sites.switches valid v p k) in
      let rest = points_from (m + 1) (p + 1) stays valid (omega (arith, e)) (goes_on n.switches (numbered_from (m + 1) stays) (Some m) p h)
      (goes_on sites.switches valid v p k) in
      λ i. cons_option (first i) (rest i)
  points_from m p (false ∷ stays) (v ∷ valid) e h k =
      let first = point_is p None v (at_first n.switches (numbered_from m stays) None p h) (at_first sites.switches valid v p k) in
      let rest = points_from m (p + 1) stays valid (omega (arith, e)) (goes_on n.switches (numbered_from m stays) None p h)
      (goes_on sites.switches valid v p k) in
      λ i. cons_option (first i) (rest i)

-- those that are made are there
made_there : (stays : List Bool) (q : ℕ) → q < length (made_valid stays) → is_missing (made_valid stays) q ≡ false
made_there [] q lt = absurd (omega (arith, lt))
made_there (true ∷ stays) zero lt = refl
made_there (true ∷ stays) (suc q) lt = made_there stays q (omega (arith, lt))
made_there (false ∷ stays) q lt = made_there stays q lt

-- so each of them is there
points_there : (rows : List (Option Bool)) (m most : ℕ) (stays : List Bool) (valid : List (Option Bool))
    → ((q : ℕ) → q < most → is_missing rows q ≡ false) → m + length (made_valid stays) ≤ most
    → list_any (is_missing rows) (invalid_from m stays valid) ≡ false
points_there rows m most [] valid there le = refl
points_there rows m most (b ∷ stays) [] there le = refl
points_there rows m most (true ∷ stays) (v ∷ valid) there le =
    by_test (option_map_or (λ b. b) v false) (points_there rows (m + 1) most stays valid there (omega (arith, le)))
  where
    by_test : (b : Bool) → list_any (is_missing rows) (invalid_from (m + 1) stays valid) ≡ false
        → list_any (is_missing rows) (cons_option (then_some (not b) m) (invalid_from (m + 1) stays valid)) ≡ false
    by_test true rest = rest
    by_test false rest =
        or_from (is_missing rows m) (list_any (is_missing rows) (invalid_from (m + 1) stays valid)) (there m (omega (arith, le))) rest
points_there rows m most (false ∷ stays) (v ∷ valid) there le = points_there rows m most stays valid there le

set_after : (front rest : List (Option Bool)) (b c : Option Bool) → slice_set (front ++ b ∷ rest) (length front) c ≡ (front ++ c ∷ []) ++ rest
set_after [] rest b c = refl
set_after (a ∷ front) rest b c = ap (λ (bs : List (Option Bool)). a ∷ bs) (set_after front rest b c)

-- they leave what stays, where none of that is released
invalid_are : (front : List (Option Bool)) (stays : List Bool) (valid : List (Option Bool)) → length stays ≡ length valid
    → ((p : ℕ) → slice_get stays p ≡ Some true → is_missing valid p ≡ false)
    → invalidated (front ++ made_valid stays) (invalid_from (length front) stays valid) ≡ front ++ staying stays valid
invalid_are front [] [] e there = refl
invalid_are front [] (v ∷ valid) e there = cc
invalid_are front (b ∷ stays) [] e there = cc
invalid_are front (true ∷ stays) (None ∷ valid) e there = absurd (both_ways true (there zero refl) refl)
invalid_are front (true ∷ stays) (Some true ∷ valid) e there =
    let longer = sym (length-append front (Some true ∷ [])) in
    (λ i. invalidated (sym (append_assoc front (Some true ∷ []) (made_valid stays)) i) (invalid_from (longer i) stays valid))
    ∙ invalid_are (front ++ Some true ∷ []) stays valid (omega (arith, e)) (λ p. there (suc p))
    ∙ append_assoc front (Some true ∷ []) (staying stays valid)
invalid_are front (true ∷ stays) (Some false ∷ valid) e there =
    let longer = sym (length-append front (Some false ∷ [])) in
    (λ i. invalidated (set_after front (made_valid stays) (Some true) (Some false) i) (invalid_from (longer i) stays valid))
    ∙ invalid_are (front ++ Some false ∷ []) stays valid (omega (arith, e)) (λ p. there (suc p))
    ∙ append_assoc front (Some false ∷ []) (staying stays valid)
invalid_are front (false ∷ stays) (v ∷ valid) e there = invalid_are front stays valid (omega (arith, e)) (λ p. there (suc p))

module _ (limits : Limits) (cs : Classes) where
  leads_to_invalid : (switches : List (Option Bool)) (points : List ℕ) → list_any (is_missing switches) points ≡ false
      → Leads limits (with_points cs switches) (invalidation points) (with_points cs (invalidated switches points))
  leads_to_invalid switches [] e = leads_nowhere limits (with_points cs switches)
  leads_to_invalid switches (p ∷ points) e = subst
      (λ (b : Bool). Leads limits (with_points cs switches) (option_to_list (then_some (not b) (event.Invalidate (p ∷ points))))
      (with_points cs (invalidated switches (p ∷ points))))
      (sym (ne_eqb (length (p ∷ points)) 0 (λ none. omega (arith, none))))
      (record {
        follow = (ap (λ (b : Bool). is_ok (unless (option_map CallSite (then_some b fault.UnknownSwitch)) made.Nothing)) e, tt);
        after = refl;
      })

  -- the switch points that stay, as they are
  pub switches_lead : (sites : Sites) (n : Numbers) (stays : List Bool) → n.switches ≡ numbered stays → length stays ≡ length sites.switches
      → ((p : ℕ) → slice_get stays p ≡ Some true → is_missing sites.switches p ≡ false) → how_many stays ≤ limits.switches
      → Leads limits (with_points cs []) (new_switches n.switches ++ invalidation (invalid_points sites n)) (with_points cs (staying stays sites.switches))
  switches_lead sites n stays is e there le =
      let points : invalid_points sites n ≡ invalid_from 0 stays sites.switches =
      ap (λ k. filter_map (invalid_point sites n) (range_with_len 0 k)) (sym e)
      ∙ points_from sites n 0 0 stays sites.switches e (λ i. λ j. slice_get (is j) (zero-add i j)) (λ i. ap (slice_get sites.switches) (zero-add i)) in
      leads_on limits (with_points cs []) (with_points cs (made_valid stays)) (with_points cs (staying stays sites.switches))
      (new_switches n.switches) (invalidation (invalid_points sites n))
      (subst (λ numbers. Leads limits (with_points cs []) (new_switches numbers) (with_points cs (made_valid stays))) (sym is)
      (leads_to_valid limits cs stays le))
      (subst₂ (λ (ps : List ℕ) (switches : List (Option Bool)). Leads limits (with_points cs (made_valid stays)) (invalidation ps) (with_points cs switches))
      (sym points) (invalid_are [] stays sites.switches e there)
      (leads_to_invalid (made_valid stays) (invalid_from 0 stays sites.switches)
      (points_there (made_valid stays) 0 (length (made_valid stays)) stays sites.switches (made_there stays) (omega arith))))
