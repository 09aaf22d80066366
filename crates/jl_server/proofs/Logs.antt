-- Lists of entries, and the cores whose logs they are.
use Rattle.std.specs.Prelude.{◌≡◌, ℕ, suc, List, [], ◌∷◌, ◌++◌, fold, length, Option, Result, IsOk}
use Rattle.std.proofs.Common.{refl, ap, sym, ◌∙◌, subst, inr}
use Rattle.std.proofs.lemmas.List.{map-append}
use Rattle.std.proofs.lemmas.List.Sums.{fold-append}
use Rattle.jl_types.specs.declared.limits.Limits.{Limits}
use Rattle.jl_types.specs.Events.Event.{Event}
use Rattle.jl_types.specs.declared.event.EventOf.TheVariants as event
use Rattle.jl_types.specs.declared.event.Reply.{Reply}
use Rattle.jl_types.specs.Events.Entries.{Entry, IsEntry, events_of, classes_of}
use Rattle.jl_types.specs.declared.event.Made.{Made}
use Rattle.jl_types.specs.declared.link.Link.{Link}
use Rattle.jl_types.specs.declared.refusal.Refusal.{Refusal}
use Rattle.jl_types.specs.declared.refusal.Refusal.TheVariants.{Memory}
use Rattle.jl_types.specs.Values.World.{World}
use Rattle.jl_types.specs.Events.Verdict.{verdict}
use Rattle.jl_types.specs.Events.History.{world_after, dropped}
use Rattle.jl_types.proofs.Places.{accepted_of}
use Rattle.jl_core.specs.State.{State, events, world_of, IsAccepted, IsRefused}
use Rattle.jl_core.specs.Plans.{Plan, IsPlanned}
use Rattle.jl_server.specs.History.{logged_of, core_of, entry_after, planned_entry}

pub events_logged : (n : Limits) (entries : List Entry) → events (core_of n entries) ≡ events_of entries
events_logged n [] = refl
events_logged n (entry ∷ entries) = ap (λ (h : List Event). entry.event ∷ h) (events_logged n entries)

pub length_logged : (entries : List Entry) → length (logged_of entries) ≡ length entries
length_logged [] = refl
length_logged (entry ∷ entries) = ap suc (length_logged entries)

logged_more : (entries : List Entry) (entry : Entry) → logged_of (entries ++ entry ∷ []) ≡ logged_of entries ++ (entry.event, entry.reply) ∷ []
logged_more entries entry = map-append (λ (e : Entry). (e.event, e.reply)) entries (entry ∷ [])

-- the last event of a log
last_event : (log : List (Event × Reply)) (e : Event) (reply : Reply) → fold (λ last row. row.0) event.NewSwitch (log ++ (e, reply) ∷ []) ≡ e
last_event log e reply = fold-append (λ (last : Event) (row : Event × Reply). row.0) event.NewSwitch log ((e, reply) ∷ [])

-- an event that is planned for the core of a list
module _ (n : Limits) (entries : List Entry) (e : Event) (plan : Plan) (planned : IsPlanned (core_of n entries) e plan) where
  abbrev entry : Entry
  entry = record { event = e; reply = plan.reply; slots = plan.slots }

  entry_is : planned_entry plan ≡ entry
  entry_is =
      let last : fold (λ (last : Event) (row : Event × Reply). row.0) event.NewSwitch plan.after.log ≡ e =
      ap (λ (s : State). fold (λ (last : Event) (row : Event × Reply). row.0) event.NewSwitch s.log) planned.accepted.logged
      ∙ last_event (logged_of entries) e plan.reply in
      ap (λ (x : Event). record { event = x; reply = plan.reply; slots = plan.slots }) last

  is_entry : IsEntry n (events_of entries) entry
  is_entry = subst (λ (h : List Event). IsEntry n h entry) (events_logged n entries) planned.entry

  pub entry_next : IsEntry n (events_of entries) (planned_entry plan)
  entry_next = subst (λ (x : Entry). IsEntry n (events_of entries) x) (sym entry_is) is_entry

  -- the entry that comes after the list
  pub entry_exact : planned_entry plan ≡ entry_after entries e plan.reply
  entry_exact = entry_is ∙ ap (λ (slots : List (ℕ × Option Link)). record { event = e; reply = plan.reply; slots = slots }) is_entry.slots

  -- the entry is of this event
  pub event_planned : (planned_entry plan).event ≡ e
  event_planned = ap (λ (x : Entry). x.event) entry_is

  -- the core that the event leads to is that of the list with the entry
  pub core_next : plan.after ≡ core_of n (entries ++ planned_entry plan ∷ [])
  core_next =
      planned.accepted.logged
      ∙ (ap (λ (log : List (Event × Reply)). record { limits = n; log = log }) (sym (logged_more entries entry))
      ∙ ap (λ (x : Entry). core_of n (entries ++ x ∷ [])) (sym entry_is))

  pub accepted_next : IsAccepted (core_of n entries) (core_of n (entries ++ planned_entry plan ∷ [])) e plan.reply
  accepted_next = subst (λ (s : State). IsAccepted (core_of n entries) s e plan.reply) core_next planned.accepted

  -- where it is accepted, want of memory is a refusal
  pub memory_refused : IsRefused (verdict n (world_after (events_of entries)) e) Memory
  memory_refused =
      let said = accepted_of (dropped (events_of entries) e) (verdict n (world_after (events_of entries)) e) plan.reply is_entry.answered in
      inr (refl, subst (λ (r : Result Made Refusal). IsOk r) (sym said.0) refl)

  -- as a step of the book comes by it
  module _ (new : List Entry) (reply : Reply) (grown : new ≡ entries ++ planned_entry plan ∷ []) (replied : reply ≡ plan.reply) where
    pub accepted_step : IsAccepted (core_of n entries) (core_of n new) e reply
    accepted_step =
        subst (λ (r : Reply). IsAccepted (core_of n entries) (core_of n new) e r) (sym replied)
        (subst (λ (es : List Entry). IsAccepted (core_of n entries) (core_of n es) e plan.reply) (sym grown) accepted_next)

    pub entry_step : new ≡ entries ++ entry_after entries e reply ∷ []
    entry_step = grown ∙ ap (λ (x : Entry). entries ++ x ∷ []) (entry_exact ∙ ap (λ (r : Reply). entry_after entries e r) (sym replied))

  pub refused_step : (r : Refusal) → r ≡ Memory → IsRefused (verdict n (world_after (events_of entries)) e) r
  refused_step r is = subst (λ (k : Refusal). IsRefused (verdict n (world_after (events_of entries)) e) k) (sym is) memory_refused

pub refused_logged : (n : Limits) (entries : List Entry) (e : Event) (r : Refusal) → IsRefused (verdict n (world_of (core_of n entries)) e) r
    → IsRefused (verdict n (world_after (events_of entries)) e) r
refused_logged n entries e r = subst (λ (h : List Event). IsRefused (verdict n (world_after h) e) r) (events_logged n entries)

-- what a snapshot of the core has
pub world_logged : (n : Limits) (entries : List Entry) (core : State) → core ≡ core_of n entries → world_of core ≡ world_after (events_of entries)
world_logged n entries core is = ap world_of is ∙ ap world_after (events_logged n entries)

pub serial_logged : (n : Limits) (entries : List Entry) (core : State) → core ≡ core_of n entries → length core.log ≡ length entries
serial_logged n entries core is = ap (λ (s : State). length s.log) is ∙ length_logged entries

-- as many classes as after the list
pub classes_logged : (n : Limits) (entries : List Entry) (core : State) → core ≡ core_of n entries → length (world_of core).classes.rows ≡ classes_of entries
classes_logged n entries core is = ap (λ (w : World). length w.classes.rows) (world_logged n entries core is)

-- what is accepted in a world is accepted by a core that has this world
pub accepted_logged : (n : Limits) (entries : List Entry) (core : State) (e : Event) (w : World) → core ≡ core_of n entries
    → world_after (events_of entries) ≡ w
    → IsOk (verdict n w e) → IsOk (verdict core.limits (world_of core) e)
accepted_logged n entries core e w is same accepted =
    subst (λ (v : World). IsOk (verdict core.limits v e)) (sym (world_logged n entries core is ∙ same))
    (subst (λ (s : State). IsOk (verdict s.limits w e)) (sym is) accepted)
