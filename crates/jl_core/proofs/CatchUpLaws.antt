-- An instance that is one event behind another one, and what it is once the event was replayed.
use Rattle.std.specs.Prelude.{◌≡◌, ℕ, zero, suc, ◌+◌, ◌≤◌, true, List, [], ◌∷◌, ◌++◌, map, take, length}
use Rattle.std.specs.Prelude.{slice_get, Option, Some, None, option_map, is_some, IsOk, Ok, if◌then◌else◌}
use Rattle.std.specs.List.{cons_option, list_all}
use Rattle.std.proofs.Common.{refl, ap, sym, subst, ◌∙◌, arith}
use Rattle.std.proofs.lemmas.List.{map-append}
use Rattle.std.proofs.lemmas.Option.{same_Some}
use Rattle.std.proofs.lemmas.Bool.{and_parts}
use Rattle.jl_types.specs.declared.limits.Limits.{Limits}
use Rattle.jl_types.specs.Events.Limits.{AreAllowed, IsWithin}
use Rattle.jl_types.specs.declared.link.Link.{Link}
use Rattle.jl_types.specs.Events.Event.{Event}
use Rattle.jl_types.specs.declared.event.Reply.{Reply}
use Rattle.jl_types.specs.Values.World.{Class, World}
use Rattle.jl_types.specs.Linkage.Links.{scratch}
use Rattle.jl_types.specs.Events.Verdict.{verdict, step}
use Rattle.jl_types.specs.Events.History.{world_after, installed, installs, kept, dropped}
use Rattle.jl_types.specs.Events.History as history
use Rattle.jl_types.proofs.OneMore.{installed_step}
use Rattle.jl_types.proofs.Places.{accepted_of, world_more}
use Rattle.jl_relink.specs.Laws.{IsInOrder, has_read_file}
use Rattle.jl_cache.specs.Links.{link_at}
use Rattle.jl_deps.specs.declared.form.Rests.{Rests}
use Rattle.jl_deps.specs.Indexes.{AreRising, IsIndex}
use Rattle.jl_events.specs.Accepted.{event_of}
use Rattle.jl_events.specs.Changes.{IsNext}
use Rattle.jl_core.specs.State.{State, events, world_of, AreAnswered}
use Rattle.jl_core.specs.Logs.{Entry, told, are_told, shown, AreToldThen, IsLogged}
use Rattle.jl_core.specs.ForProofs.Replays.{AreDropped, IsBehind, IsFurther}
use Rattle.jl_core.specs.ForProofs.Touched.{has}
use Rattle.jl_core.proofs.LogLaws.{length_told}
use Rattle.jl_core.proofs.HeadlineLaws.{then_more}
use Rattle.jl_core.proofs.ToldLaws.{installs_so}
use Rattle.jl_core.proofs.SlotLaws.{left_after}
use Rattle.jl_core.proofs.HistoryLaws.{core_of, IsExact, exact_links, shown_further, told_further}

-- ---- what an entry tells

pub told_at : (rows : List Class) (log : List Entry) (n : ℕ) (entry : Entry) → are_told rows log ≡ true → slice_get log n ≡ Some entry
    → (p : Event × Reply) × (told rows entry ≡ Some p) × (slice_get (shown rows log) n ≡ Some p)
told_at rows [] n entry all at = absurd (cc at)
told_at rows (one ∷ log) n entry all at =
    let parts = and_parts (is_some (told rows one)) (are_told rows log) all in
    by_first n (told rows one) refl parts.0 (λ k. told_at rows log k entry parts.1) at
  where
    by_first : (n : ℕ) (o : Option (Event × Reply)) → told rows one ≡ o → is_some o ≡ true
        → ((k : ℕ) → slice_get log k ≡ Some entry → (p : Event × Reply) × (told rows entry ≡ Some p) × (slice_get (shown rows log) k ≡ Some p))
        → slice_get (one ∷ log) n ≡ Some entry
        → (p : Event × Reply) × (told rows entry ≡ Some p) × (slice_get (cons_option o (shown rows log)) n ≡ Some p)
    by_first n None is some rest at = cc
    by_first zero (Some p) is some rest at = (p, ap (told rows) (sym (same_Some one entry at)) ∙ is, refl)
    by_first (suc n) (Some p) is some rest at = rest n at

pub event_told : (e : Event) (reply : Reply) (o : Option Event) (r : Reply) → option_map {U = Event × Reply} (λ (x : Event). (x, r)) o ≡ Some (e, reply)
    → (o ≡ Some e) × (r ≡ reply)
event_told e reply None r is = absurd (cc is)
event_told e reply (Some x) r is =
    let pair : (x, r) ≡ (e, reply) = same_Some (x, r) (e, reply) is in
    (ap (λ (p : Event × Reply). Some p.0) pair, ap (λ (p : Event × Reply). p.1) pair)

-- ---- a list with one element more

pub last_is : {A : Type 0} (xs : List A) (n : ℕ) (x : A) → slice_get xs n ≡ Some x → length xs ≤ n + 1 → xs ≡ take n xs ++ x ∷ []
last_is [] n x at le = absurd (cc at)
last_is (y ∷ []) zero x at le = ap (λ z. z ∷ []) (same_Some y x at)
last_is (y ∷ z ∷ xs) zero x at le = absurd (omega arith)
last_is (y ∷ xs) (suc n) x at le = ap (λ ys. y ∷ ys) (last_is xs n x at (omega arith))

map_take : {A B : Type 0} (f : A → B) (n : ℕ) (xs : List A) → take n (map f xs) ≡ map f (take n xs)
map_take f zero xs = refl
map_take f (suc n) [] = refl
map_take f (suc n) (x ∷ xs) = ap (λ ys. f x ∷ ys) (map_take f n xs)

pub no_more : {A : Type 0} (xs : List A) (n : ℕ) → slice_get xs n ≡ None → length xs ≤ n
no_more [] n e = omega arith
no_more (x ∷ xs) zero e = cc
no_more (x ∷ xs) (suc n) e = let le = no_more xs n e in omega arith

take_whole : {A : Type 0} (xs : List A) (n : ℕ) → length xs ≤ n → take n xs ≡ xs
take_whole [] zero le = refl
take_whole [] (suc n) le = refl
take_whole (x ∷ xs) zero le = absurd (omega arith)
take_whole (x ∷ xs) (suc n) le = ap (λ ys. x ∷ ys) (take_whole xs n (omega arith))

-- ---- no event behind

-- it is so of what is seen of both, as it is of what they have
pub behind_inside : {inner core inner_ahead ahead : State} → inner ≡ core → inner_ahead ≡ ahead → IsBehind core ahead → IsBehind inner inner_ahead
behind_inside {inner} {core} {inner_ahead} {ahead} same same_ahead behind =
    subst (λ (s : State). IsBehind s inner_ahead) (sym same) (subst (IsBehind core) (sym same_ahead) behind)

pub not_behind : (core ahead : State) → IsBehind core ahead → length ahead.log ≤ length core.log → core ≡ ahead
not_behind core ahead behind le = behind.0 ∙ ap (λ (log : List (Event × Reply)). record ahead { log = log }) (take_whole ahead.log (length core.log) le)

pub none_behind : (m k : Limits) (old ahead : World) (log entries : List Entry) → are_told old.classes.rows log ≡ true
    → are_told ahead.classes.rows entries ≡ true
    → IsBehind (core_of m old log) (core_of k ahead entries) → slice_get entries (length log) ≡ None → core_of m old log ≡ core_of k ahead entries
none_behind m k old ahead log entries told_old told_ahead behind none =
    let le = no_more entries (length log) none in
    let here = length_told old.classes.rows log told_old in
    let there = length_told ahead.classes.rows entries told_ahead in
    not_behind (core_of m old log) (core_of k ahead entries) behind (omega arith)

-- the entry after those of the instance that is behind is the last one of the instance ahead, so it is there
pub next_entry : (m k : Limits) (old ahead : World) (log entries : List Entry) {place : ℕ} {o : Option Entry} → place ≡ length log
    → are_told old.classes.rows log ≡ true → are_told ahead.classes.rows entries ≡ true → IsBehind (core_of m old log) (core_of k ahead entries)
    → (length entries ≤ place + 1 → o ≡ slice_get entries place) → slice_get entries (length log) ≡ o
next_entry m k old ahead log entries {place} {o} is told_old told_ahead behind there =
    let here = length_told old.classes.rows log told_old in
    let further = length_told ahead.classes.rows entries told_ahead in
    let le = behind.1 in
    (λ i. slice_get entries (sym is i)) ∙ sym (there (omega arith))

-- ---- one event behind

pub record HasNext (core ahead : State) (e : Event) (reply : Reply) : Type 0 where
  pub limit : core.limits ≡ ahead.limits
  pub more : ahead.log ≡ core.log ++ (e, reply) ∷ []
  pub answered : history.reply core.limits (events core) e ≡ Ok reply

pub has_next : (core ahead : State) (e : Event) (reply : Reply) → IsBehind core ahead → AreAnswered ahead
    → slice_get ahead.log (length core.log) ≡ Some (e, reply) → HasNext core ahead e reply
has_next core ahead e reply behind answered at =
    let start : core.log ≡ take (length core.log) ahead.log = ap (λ (s : State). s.log) behind.0 in
    record {
      limit = ap (λ (s : State). s.limits) behind.0;
      more = last_is ahead.log (length core.log) (e, reply) at behind.1 ∙ ap (λ (xs : List (Event × Reply)). xs ++ (e, reply) ∷ []) (sym start);
      answered =
          (λ i. history.reply (behind.0 i).limits
          ((ap (map (λ (p : Event × Reply). p.0)) start ∙ sym (map_take (λ (p : Event × Reply). p.0) (length core.log) ahead.log)) i) e)
          ∙ answered (length core.log) e reply at;
    }

module _ (m : Limits) (old : World) (links : List (ℕ × Link)) (log : List Entry) (k : Limits) (ahead : World) (entries : List Entry) (entry : Entry)
    (exact : IsExact m old links log)
    (is_world : ahead ≡ world_of (core_of k ahead entries))
    (all_told : are_told ahead.classes.rows entries ≡ true)
    (answered : AreAnswered (core_of k ahead entries))
    (behind : IsBehind (core_of m old log) (core_of k ahead entries))
    (at : slice_get entries (length log) ≡ Some entry) (allowed : AreAllowed m) where
  abbrev core : State
  core = core_of m old log

  abbrev further : State
  further = core_of k ahead entries

  abbrev h : List Event
  h = events core

  one : (p : Event × Reply) × (told ahead.classes.rows entry ≡ Some p) × (slice_get (shown ahead.classes.rows entries) (length log) ≡ Some p)
  one = told_at ahead.classes.rows entries (length log) entry all_told at

  abbrev e : Event
  e = one.0.0

  abbrev reply : Reply
  reply = one.0.1

  tells : (event_of ahead.classes.rows entry.event ≡ Some e) × (entry.reply ≡ reply)
  tells = event_told e reply (event_of ahead.classes.rows entry.event) entry.reply one.1

  next : HasNext core further e reply
  next = has_next core further e reply behind answered
      (ap (slice_get further.log) (length_told old.classes.rows log exact.told) ∙ one.2)

  events_further : events further ≡ h ++ e ∷ []
  events_further = ap (map (λ (p : Event × Reply). p.0)) next.more ∙ map-append (λ (p : Event × Reply). p.0) core.log ((e, reply) ∷ [])

  moved : ahead ≡ step old e
  moved = is_world ∙ ap world_after events_further ∙ world_more h e ∙ ap (λ (w : World). step w e) (sym exact.world)

  judged : (verdict m old e ≡ Ok reply.made) × (dropped h e ≡ reply.dropped)
  judged =
      let parts = accepted_of (dropped h e) (verdict m (world_of core) e) reply next.answered in
      (ap (λ (w : World). verdict m w e) exact.world ∙ parts.0, parts.1)

  pub is_next : IsNext old ahead entry.event
  is_next = record { event = e; tells = tells.0; accepted = record { limits = m; allowed = allowed; accepted = subst IsOk (sym judged.0) refl }; step = moved }

  -- ---- what it begins with to catch up

  module _ (index further_index : List (ℕ × Rests)) (order : IsInOrder old) (rising : AreRising index) (indexed : IsIndex old (link_at links) index)
      (linked : List (ℕ × Link)) (are_links : (s : ℕ) → link_at linked s ≡ installed (events further) s)
      (ahead_indexed : IsIndex ahead (link_at linked) further_index) where
    pub is_further : IsFurther old ahead entry.event links linked index further_index
    unfolding is_next
    is_further = record {
      next = is_next;
      were_scratch = exact_links m old links log exact;
      order = order;
      rising = rising;
      indexed = indexed;
      kept_so = λ s.
          are_links s ∙ ap (λ (es : List Event). installed es s) events_further
          ∙ installed_step h e s
          ∙ (λ i. kept (installs s e) (sym (exact.links s) i) (scratch (sym (is_world ∙ ap world_after events_further) i) s));
      ahead_indexed = ahead_indexed;
    }

    -- and what is gone
    pub are_gone : AreDropped entry links linked
    unfolding is_next
    are_gone s none =
        (λ i. if has s ((ap (λ (r : Reply). r.dropped) tells.1 ∙ sym judged.1) i) then None else exact.links s i)
        ∙ left_after h e s (installs_so ahead.classes.rows e s entry.event tells.0 ∙ none)
        ∙ ap (λ (es : List Event). installed es s) (sym events_further) ∙ sym (are_links s)

  -- ---- once it has followed

  pub within_so : (new : World) → new ≡ ahead → IsWithin k ahead → IsWithin m new
  within_so new came within = subst (λ (n : Limits). IsWithin n new) (sym next.limit) (subst (IsWithin k) (sym came) within)

  module _ (new : World) (after : List (ℕ × Link)) (more : List Entry) (came : new ≡ ahead)
      (linked : List (ℕ × Link)) (are_links : (s : ℕ) → link_at linked s ≡ installed (events further) s)
      (same_links : (s : ℕ) → link_at after s ≡ link_at linked s)
      (logged : more ≡ log ++ entry ∷ []) where
    is_logged : IsLogged new.classes.rows e reply log more
    is_logged = record {
      accepted = entry.event;
      is = ap (λ (w : World). event_of w.classes.rows entry.event) came ∙ tells.0;
      last = logged ∙ ap (λ (r : Reply). log ++ record { event = entry.event; reply = r } ∷ []) tells.1;
    }

    pub same_core : core_of m new more ≡ further
    same_core = λ i. record {
      limits = next.limit i;
      log = (shown_further old new log more e reply exact.told (came ∙ moved) is_logged ∙ sym next.more) i;
    }

    then_so : AreToldThen (record { limits = m; log = core.log ++ (e, reply) ∷ [] }) more
    then_so =
        let tells = ap (λ (w : World). told w.classes.rows entry) (sym (is_world ∙ ap world_after events_further)) ∙ one.1 in
        subst (AreToldThen (record { limits = m; log = core.log ++ (e, reply) ∷ [] })) (sym logged)
        (then_more m core.log e reply log entry (sym (length_told old.classes.rows log exact.told)) tells exact.told_then)

    pub exact_so : list_all has_read_file (events further) ≡ true → IsExact m new after more
    exact_so files = record {
      world = came ∙ is_world ∙ ap world_of (sym same_core);
      links = λ s. same_links s ∙ are_links s ∙ ap (λ (es : List Event). installed es s) (ap events (sym same_core));
      told = told_further old new log more e reply exact.told (came ∙ moved) is_logged;
      answered = subst AreAnswered (sym same_core) answered;
      told_then = subst (λ (core : State). AreToldThen core more)
          ((λ i. record { limits = next.limit i; log = sym next.more i }) ∙ sym same_core) then_so;
      files = ap (λ (core : State). list_all has_read_file (events core)) same_core ∙ files;
    }

    -- with no more of any kind than there may be
    pub kept_so : list_all has_read_file (events further) ≡ true → IsWithin k ahead → IsExact m new after more × IsWithin m new
    kept_so files within = (exact_so files, within_so new came within)
