-- The slots of an event that leads from one instance to another.
use Rattle.std.specs.Prelude.{◌≡◌, ◌≤◌, ◌+◌, ℕ, ◌==◌, ◌||◌, Bool, true, false, List, [], ◌∷◌, ◌++◌, map, filter_map, length, slice_get, Option, Some}
use Rattle.std.specs.Prelude.{None, option_map}
use Rattle.std.specs.List.{list_any}
use Rattle.std.proofs.Common.{refl, ap, sym, ◌∙◌, arith, length-append}
use Rattle.std.proofs.lemmas.List.{map-append}
use Rattle.std.proofs.lemmas.Option.{same_Some, slice_get_within}
use Rattle.jl_types.specs.declared.link.Link.{Link}
use Rattle.jl_types.specs.Events.Event.{Event}
use Rattle.jl_types.specs.declared.event.EventOf.TheVariants as event
use Rattle.jl_types.specs.declared.event.Reply.{Reply}
use Rattle.jl_types.specs.Values.World.{Class}
use Rattle.jl_types.specs.Events.Verdict.{verdict}
use Rattle.jl_types.specs.Events.History.{installed, installs, dropped}
use Rattle.jl_types.specs.Events.Entries.{slots_changed}
use Rattle.jl_types.proofs.Lists.{at_end}
use Rattle.jl_types.proofs.Places.{accepted_of}
use Rattle.jl_cache.specs.Links.{link_at}
use Rattle.jl_events.specs.Accepted.{Accepted, event_of}
use Rattle.jl_core.specs.State.{State, events, world_of, IsAccepted}
use Rattle.jl_core.specs.Logs.{Entry, are_told, shown}
use Rattle.jl_core.specs.ForProofs.Touched.{has, touched_by, AreTouched, slot_at}
use Rattle.jl_core.proofs.LogLaws.{length_told}
use Rattle.jl_core.proofs.CatchUpLaws.{told_at, event_told, no_more}
use Rattle.jl_core.proofs.SlotLaws.{slots_are}

has_both : (s : ℕ) (xs ys : List ℕ) → has s (xs ++ ys) ≡ false → (has s xs ≡ false) × (has s ys ≡ false)
has_both s [] ys e = (refl, e)
has_both s (x ∷ xs) ys e = by_test (x == s) (has s (xs ++ ys)) (has_both s xs ys) e
  where
    by_test : (b r : Bool) → (r ≡ false → (has s xs ≡ false) × (has s ys ≡ false)) → (b || r) ≡ false → ((b || has s xs) ≡ false) × (has s ys ≡ false)
    by_test true r rest f = absurd (cc f)
    by_test false r rest f = rest f

pub installs_has : (s : ℕ) (rows : List (ℕ × Link)) → list_any (λ row. row.0 == s) rows ≡ has s (map (λ row. row.0) rows)
installs_has s [] = refl
installs_has s (row ∷ rows) = ap (λ (b : Bool). (row.0 == s) || b) (installs_has s rows)

module _ (rows : List Class) (e : Event) (dropped_by : List ℕ) (s : ℕ) where
  as_event : (x : Event) → Some x ≡ Some e → installs s x ≡ false → installs s e ≡ false
  as_event x is none = ap (installs s) (sym (same_Some x e is)) ∙ none

  of_class : (loader : ℕ) (o : Option Class) → option_map (λ (row : Class). event.Define loader row.file) o ≡ Some e → installs s e ≡ false
  of_class loader None is = absurd (cc is)
  of_class loader (Some row) is = as_event (event.Define loader row.file) is refl

  -- an event changes no other site
  outside : (a : Accepted) → event_of rows a ≡ Some e → has s (touched_by a dropped_by) ≡ false → (has s dropped_by ≡ false) × (installs s e ≡ false)
  outside event.NewLoader is f = (f, as_event event.NewLoader is refl)
  outside (event.Define loader c) is f = (f, of_class loader (slice_get rows c) is)
  outside (event.Delegate loader name to) is f = (f, as_event (event.Delegate loader name to) is refl)
  outside (event.Request place) is f = (f, as_event (event.Request place) is refl)
  outside (event.NewCallSite kind ty target) is f = (f, as_event (event.NewCallSite kind ty target) is refl)
  outside (event.SetTarget c target) is f = (f, as_event (event.SetTarget c target) is refl)
  outside event.NewSwitch is f = (f, as_event event.NewSwitch is refl)
  outside (event.Invalidate points) is f = (f, as_event (event.Invalidate points) is refl)
  outside (event.Bind site c) is f = (f, as_event (event.Bind site c) is refl)
  outside (event.Retire loader) is f = (f, as_event (event.Retire loader) is refl)
  outside (event.RetireAll loaders) is f = (f, as_event (event.RetireAll loaders) is refl)
  outside (event.Release call_sites points) is f = (f, as_event (event.Release call_sites points) is refl)
  outside (event.Install links) is f =
      let parts = has_both s dropped_by (map (λ (row : ℕ × Link). row.0) links) f in
      (parts.0, as_event (event.Install links) is (installs_has s links ∙ parts.1))

module _ (old new : State) (past rows : List Class) (before after : List Entry)
    (told_before : are_told past before ≡ true) (told_after : are_told rows after ≡ true)
    (is_old : shown past before ≡ old.log) (is_new : shown rows after ≡ new.log)
    (e : Event) (reply : Reply) (led : IsAccepted old new e reply) where
  at : slice_get (shown rows after) (length before) ≡ Some (e, reply)
  at =
      (λ i. slice_get ((is_new ∙ ap (λ (s : State). s.log) led.logged) i) ((sym (length_told past before told_before) ∙ ap length is_old) i))
      ∙ at_end old.log (e, reply)

  pub at_most_one : (place : ℕ) → place ≡ length before → length after ≤ place + 1
  at_most_one place is =
      let here : length before ≡ length old.log = sym (length_told past before told_before) ∙ ap length is_old in
      let there : length after ≡ length old.log + 1 =
      sym (length_told rows after told_after) ∙ ap length (is_new ∙ ap (λ (s : State). s.log) led.logged) ∙ length-append old.log ((e, reply) ∷ []) in
      omega arith

  pub has_last : {A : Type 0} → slice_get after (length before) ≡ None → A
  has_last none =
      let le = no_more after (length before) none in
      let lt = slice_get_within (shown rows after) (length before) (e, reply) at in
      let same = length_told rows after told_after in
      absurd (omega arith)

  pub events_led : events new ≡ events old ++ e ∷ []
  events_led = ap events led.logged ∙ map-append (λ (p : Event × Reply). p.0) old.log ((e, reply) ∷ [])

  pub slots_led : (entry : Entry) → slice_get after (length before) ≡ Some entry
      → (sites : List ℕ) → AreTouched (touched_by entry.event entry.reply.dropped) sites
      → (links now : List (ℕ × Link)) → ((s : ℕ) → link_at links s ≡ installed (events old) s) → ((s : ℕ) → link_at now s ≡ installed (events new) s)
      → filter_map (slot_at links now) sites ≡ slots_changed (events old) e
  slots_led entry is sites are links now is_links is_now =
      let one = told_at rows after (length before) entry told_after is in
      let tells =
      event_told e reply (event_of rows entry.event) entry.reply
      (one.1 ∙ sym one.2 ∙ at)
      in
      let said = accepted_of (dropped (events old) e) (verdict old.limits (world_of old) e) reply led.answered in
      slots_are (events old) e entry.reply.dropped (touched_by entry.event entry.reply.dropped) sites (link_at links) (link_at now)
      (ap (λ (r : Reply). r.dropped) tells.1 ∙ sym said.1) is_links (λ s. is_now s ∙ ap (λ (h : List Event). installed h s) events_led)
      (λ s none. outside rows e entry.reply.dropped s entry.event tells.0 none) are
