-- One event more, as the whole history says it.
use Rattle.std.specs.Prelude.{◌≡◌, ◌<◌, ◌^◌, ℕ, ◌&&◌, true, List, [], ◌∷◌, ◌++◌, map, filter, length, slice_get, Some, option_map, Ok, IsOk, is_some, is_none}
use Rattle.std.specs.List.{list_all, range_with_len}
use Rattle.std.proofs.Common.{ap, sym, subst, ◌∙◌}
use Rattle.std.proofs.lemmas.List.{map-append}
use Rattle.std.proofs.lemmas.List.Sums.{fold-append}
use Rattle.jl_types.specs.declared.limits.Limits.{Limits}
use Rattle.jl_types.specs.declared.link.Link.{Link}
use Rattle.jl_types.specs.Events.Event.{Event}
use Rattle.jl_types.specs.declared.event.Reply.{Reply}
use Rattle.jl_types.specs.Values.World.{Class, World, nothing_yet}
use Rattle.jl_types.specs.Linkage.Links.{scratch}
use Rattle.jl_types.specs.Events.Verdict.{verdict, step}
use Rattle.jl_types.specs.Events.History.{world_after, installed, installs, kept, dropped, replied}
use Rattle.jl_types.specs.Events.History as history
use Rattle.jl_types.proofs.Installed.{installed_to, settled_now}
use Rattle.jl_types.proofs.OneMore.{installed_step}
use Rattle.jl_types.specs.Events.Limits.{AreAllowed, IsWithin}
use Rattle.jl_types.proofs.Within.{within_step}
use Rattle.jl_select.specs.Constancy.{IsConstant}
use Rattle.jl_cache.specs.Links.{link_at}
use Rattle.jl_deps.specs.declared.form.Rests.{Rests}
use Rattle.jl_deps.specs.Indexes.{rests_at, IsIndex, rests_if}
use Rattle.jl_relink.specs.Laws.{has_read_file}
use Rattle.jl_events.specs.Accepted.{event_of}
use Rattle.jl_events.proofs.AcceptedLaws.{rows_stay}
use Rattle.jl_core.specs.State.{State, events, world_of, AreAnswered, IsAccepted}
use Rattle.jl_core.specs.Logs.{Entry, are_told, shown, AreToldThen, IsLogged}
use Rattle.jl_core.specs.ForProofs.Changes.{AreScratch, IsDone}
use Rattle.jl_core.proofs.LogLaws.{all_still, told_more, shown_more, length_told}
use Rattle.jl_core.proofs.HeadlineLaws.{answered_more, files_more, then_more}

-- the core of a log
abbrev pub core_of : Limits → World → List Entry → State
core_of m w log = record { limits = m; log = shown w.classes.rows log }

-- the world and the links are what the log says
pub record IsExact (m : Limits) (w : World) (cached : List (ℕ × Link)) (log : List Entry) : Type 0 where
  pub world : w ≡ world_of (core_of m w log)
  pub links : (s : ℕ) → link_at cached s ≡ installed (events (core_of m w log)) s
  pub told : are_told w.classes.rows log ≡ true
  pub answered : AreAnswered (core_of m w log)
  pub told_then : AreToldThen (core_of m w log) log
  pub files : list_all has_read_file (events (core_of m w log)) ≡ true

-- as an instance has it
pub exact_inside : (m : Limits) (w : World) (links : List (ℕ × Link)) (log : List Entry) (index : List (ℕ × Rests))
    → ((w ≡ world_of (core_of m w log)) × ((s : ℕ) → link_at links s ≡ installed (events (core_of m w log)) s)
    × (are_told w.classes.rows log ≡ true) × IsWithin m w × (m.sites < 2 ^ 32) × AreAnswered (core_of m w log)
    × IsIndex w (link_at links) index × AreToldThen (core_of m w log) log × (list_all has_read_file (events (core_of m w log)) ≡ true) × AreAllowed m)
    → IsExact m w links log
exact_inside m w links log index is =
    record { world = is.0; links = is.1; told = is.2; answered = is.5; told_then = is.7; files = is.8 }

-- so each link is the one from scratch
pub exact_links : (m : Limits) (w : World) (links : List (ℕ × Link)) (log : List Entry) → IsExact m w links log → AreScratch w links
exact_links m w links log is = λ s l e.
    let h = events (core_of m w log) in
    ap (λ (v : World). scratch v s) is.world ∙ settled_now h s l (installed_to h s l (sym (is.links s) ∙ e))

-- ---- a world and a log that come one event further

module _ (old new : World) (log more : List Entry) (e : Event) (reply : Reply)
    (told : are_told old.classes.rows log ≡ true) (moved : new ≡ step old e) (logged : IsLogged new.classes.rows e reply log more) where
  stay : (c : ℕ) (row : Class) → slice_get old.classes.rows c ≡ Some row → slice_get new.classes.rows c ≡ Some row
  stay c row is = ap (λ (w : World). slice_get w.classes.rows c) moved ∙ rows_stay old e c row is

  still : (are_told new.classes.rows log ≡ true) × (shown new.classes.rows log ≡ shown old.classes.rows log)
  still = all_still old.classes.rows new.classes.rows stay log told

  pub shown_further : shown new.classes.rows more ≡ shown old.classes.rows log ++ (e, reply) ∷ []
  shown_further =
      ap (shown new.classes.rows) logged.last
      ∙ shown_more new.classes.rows logged.accepted reply e logged.is log
      ∙ ap (λ (xs : List (Event × Reply)). xs ++ (e, reply) ∷ []) still.1

  pub told_further : are_told new.classes.rows more ≡ true
  told_further = ap (are_told new.classes.rows) logged.last ∙ told_more new.classes.rows logged.accepted reply e logged.is log still.0

-- ---- one event more

module _ (m : Limits) (old new : World) (before after : List (ℕ × Link)) (log more : List Entry) (e : Event) (reply : Reply)
    (exact : IsExact m old before log) (accepted : IsOk (verdict m old e)) (done : IsDone old new before after log more e reply) where
  abbrev h : List Event
  h = events (core_of m old log)

  shown_after : shown new.classes.rows more ≡ shown old.classes.rows log ++ (e, reply) ∷ []
  shown_after = shown_further old new log more e reply exact.told done.moved.step done.logged

  events_after : events (core_of m new more) ≡ h ++ e ∷ []
  events_after =
      ap (map (λ (entry : Event × Reply). entry.0)) shown_after
      ∙ map-append (λ (entry : Event × Reply). entry.0) (shown old.classes.rows log) ((e, reply) ∷ [])

  world_more : new ≡ world_after (h ++ e ∷ [])
  world_more = done.moved.step ∙ ap (λ (w : World). step w e) exact.world ∙ sym (fold-append step nothing_yet h (e ∷ []))

  links_more : (s : ℕ) → link_at after s ≡ installed (h ++ e ∷ []) s
  links_more s = done.links s ∙ (λ i. kept (installs s e) (exact.links s i) (scratch (world_more i) s)) ∙ sym (installed_step h e s)

  same_dropped : dropped h e ≡ reply.dropped
  same_dropped =
      (λ i. filter (λ s. is_some (sym (exact.links s) i) && is_none (sym (links_more s) i)) (range_with_len 0 (length (sym exact.world i).places)))
      ∙ sym done.dropped

  answered : history.reply m h e ≡ Ok reply
  answered =
      (λ i. replied (same_dropped i) (verdict m (sym exact.world i) e))
      ∙ ap (replied reply.dropped) (done.moved.made_is m accepted)

  then_after : AreToldThen (record { limits = m; log = shown old.classes.rows log ++ (e, reply) ∷ [] }) more
  then_after =
      let tells = ap (λ (w : World). option_map (λ (x : Event). (x, reply)) (event_of w.classes.rows done.logged.accepted)) (sym world_more)
      ∙ ap (option_map (λ (x : Event). (x, reply))) done.logged.is in
      subst (AreToldThen (record { limits = m; log = shown old.classes.rows log ++ (e, reply) ∷ [] })) (sym done.logged.last)
      (then_more m (shown old.classes.rows log) e reply log (record { event = done.logged.accepted; reply = reply })
      (sym (length_told old.classes.rows log exact.told)) tells exact.told_then)

  pub exact_after : has_read_file e ≡ true → IsExact m new after more
  exact_after read = record {
    world = world_more ∙ ap world_after (sym events_after);
    links = λ s. links_more s ∙ ap (λ (es : List Event). installed es s) (sym events_after);
    told = told_further old new log more e reply exact.told done.moved.step done.logged;
    answered =
        subst (λ (entries : List (Event × Reply)). AreAnswered (record { limits = m; log = entries })) (sym shown_after)
        (answered_more m (shown old.classes.rows log) e reply exact.answered answered);
    told_then = subst (λ (entries : List (Event × Reply)). AreToldThen (record { limits = m; log = entries }) more) (sym shown_after) then_after;
    files =
        subst (λ (entries : List (Event × Reply)). list_all has_read_file (events (record { limits = m; log = entries })) ≡ true) (sym shown_after)
        (files_more m (shown old.classes.rows log) e reply exact.files read);
  }

  pub accepted_after : IsAccepted (core_of m old log) (core_of m new more) e reply
  accepted_after = record {
    answered = answered;
    logged = λ i. record { limits = m; log = shown_after i };
    constant = subst (λ (w : World). IsConstant w.classes (world_of (core_of m new more)).classes) exact.world
        (subst (λ (w : World). IsConstant old.classes w.classes) (world_more ∙ ap world_after (sym events_after)) done.moved.constant);
  }

  -- with no more of any kind than there may be
  pub kept_after : has_read_file e ≡ true → IsWithin m old → IsExact m new after more × IsWithin m new
  kept_after read within =
      (exact_after read, subst (IsWithin m) (sym done.moved.step) (within_step m old e reply.made (done.moved.made_is m accepted) within))

-- the same verdict, by what the core's parts are
pub accepted_inside : (m : Limits) (w : World) (log : List Entry) (core : State) (e : Event) → w ≡ world_of (core_of m w log) → core_of m w log ≡ core
    → IsOk (verdict core.limits (world_of core) e) → IsOk (verdict m w e)
accepted_inside m w log core e world same accepted =
    subst (λ (v : World). IsOk (verdict m v e)) (sym world) (subst (λ (s : State). IsOk (verdict s.limits (world_of s) e)) (sym same) accepted)

-- the same world, links and log
pub exact_same : (m : Limits) (w v : World) (links same : List (ℕ × Link)) (log more : List Entry) → v ≡ w → same ≡ links → more ≡ log
    → IsExact m w links log → IsExact m v same more
exact_same m w v links same log more e f g exact = subst (λ (x : World). IsExact m x same more) (sym e)
    (subst (λ (ls : List (ℕ × Link)). IsExact m w ls more) (sym f) (subst (IsExact m w links) (sym g) exact))

-- and the index of the links
pub index_same : (old new : World) (before after : List (ℕ × Link)) (index further : List (ℕ × Rests)) → new ≡ old → after ≡ before → further ≡ index
    → IsIndex old (link_at before) index → IsIndex new (link_at after) further
index_same old new before after index further w l x is s =
    (λ i. rests_at (x i) s) ∙ is s ∙ sym (λ i. rests_if (w i) s (link_at (l i) s))
