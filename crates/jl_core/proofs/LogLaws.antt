-- A log tells the same as classes are added, and one entry more tells one event more.
use Rattle.std.specs.Prelude.{◌≡◌, ℕ, suc, ◌&&◌, Bool, true, List, [], ◌∷◌, ◌++◌, length, slice_get, Option, Some, None, option_map, is_some}
use Rattle.std.specs.List.{cons_option}
use Rattle.std.proofs.Common.{refl, ap, ◌∙◌}
use Rattle.std.proofs.lemmas.List.Elements.{filter_map-append}
use Rattle.std.proofs.lemmas.List.Folds.{list_all-append}
use Rattle.std.proofs.lemmas.Bool.{and_parts}
use Rattle.jl_types.specs.Events.Event.{Event}
use Rattle.jl_types.specs.declared.event.Reply.{Reply}
use Rattle.jl_types.specs.Values.World.{Class}
use Rattle.jl_events.specs.Accepted.{Accepted, event_of}
use Rattle.jl_events.proofs.AcceptedLaws.{event_still}
use Rattle.jl_core.specs.Logs.{Entry, told, are_told, shown}

-- ---- where the classes stay

module _ (rows more : List Class) (stay : (c : ℕ) (row : Class) → slice_get rows c ≡ Some row → slice_get more c ≡ Some row) where
  some_event : (o : Option Event) (reply : Reply) → is_some {T = Event × Reply} (option_map (λ (e : Event). (e, reply)) o) ≡ true → is_some o ≡ true
  some_event None reply e = cc
  some_event (Some x) reply e = refl

  pub told_still : (entry : Entry) → is_some (told rows entry) ≡ true → told more entry ≡ told rows entry
  told_still entry e =
      ap (λ (o : Option Event). option_map (λ (x : Event). (x, entry.reply)) o)
      (event_still rows more stay entry.event (some_event (event_of rows entry.event) entry.reply e))

  pub all_still : (entries : List Entry) → are_told rows entries ≡ true → (are_told more entries ≡ true) × (shown more entries ≡ shown rows entries)
  all_still [] e = (refl, refl)
  all_still (entry ∷ entries) e =
      let parts = and_parts (is_some (told rows entry)) (are_told rows entries) e in
      let here = told_still entry parts.0 in
      let rest = all_still entries parts.1 in (
        (λ i. is_some (here i) && rest.0 i) ∙ ap (λ (b : Bool). b && true) parts.0,
        λ i. cons_option (here i) (rest.1 i),
      )

-- ---- one entry more

module _ (rows : List Class) (a : Accepted) (reply : Reply) (e : Event) (is : event_of rows a ≡ Some e) where
  abbrev newest : Entry
  newest = record { event = a; reply = reply }

  tells : told rows newest ≡ Some (e, reply)
  tells = ap (λ (o : Option Event). option_map (λ (x : Event). (x, reply)) o) is

  pub told_more : (entries : List Entry) → are_told rows entries ≡ true → are_told rows (entries ++ newest ∷ []) ≡ true
  told_more entries k = list_all-append (λ (one : Entry). is_some (told rows one)) entries (newest ∷ []) ∙ (λ i. k i && (is_some (tells i) && true))

  pub shown_more : (entries : List Entry) → shown rows (entries ++ newest ∷ []) ≡ shown rows entries ++ (e, reply) ∷ []
  shown_more entries = filter_map-append (told rows) entries (newest ∷ []) ∙ (λ i. shown rows entries ++ cons_option (tells i) [])

-- ---- lengths

pub length_told : (rows : List Class) (entries : List Entry) → are_told rows entries ≡ true → length (shown rows entries) ≡ length entries
length_told rows [] e = refl
length_told rows (entry ∷ entries) e = by_one (told rows entry) e (length_told rows entries)
  where
    by_one : (o : Option (Event × Reply)) → (is_some o && are_told rows entries) ≡ true
        → (are_told rows entries ≡ true → length (shown rows entries) ≡ length entries) → length (cons_option o (shown rows entries)) ≡ suc (length entries)
    by_one None k rest = cc
    by_one (Some x) k rest = ap suc (rest k)
