-- That the links stay behind the core as it takes events, and are its links once the touched sites were written.
use Rattle.std.specs.Prelude.{◌≡◌, ◌||◌, ◌<◌, ℕ, zero, suc, Bool, true, false, List, [], ◌∷◌, ◌++◌, map, drop, length, replicate, slice_get, Option}
use Rattle.std.specs.Prelude.{Some, None, option_map, is_some, Result, Ok, Err, ◌-◌, ◌+◌, ◌^◌, ◌==◌, get_or, nat_le, if◌then◌else◌}
use Rattle.std.specs.Option.{option_map_or}
use Rattle.std.specs.Prelude.{◌&&◌}
use Rattle.std.specs.List.{Contains, list_any, range_with_len, cons_option}
use Rattle.std.proofs.Common.{refl, sym, ap, ◌∙◌, subst, arith, length-append, inl, inr, ◌⊎◌}
use Rattle.std.proofs.lemmas.List.{drop-append-le, ext_get_or, length-replicate, get_or-replicate, map-append}
use Rattle.std.proofs.lemmas.Bool.Decides.{Decides-eqb}
use Rattle.std.proofs.lemmas.List.Folds.{list_any-append, list_any_at}
use Rattle.std.proofs.lemmas.List.FromFn.{get_or-map-range_with_len, length-map-range_with_len}
use Rattle.std.proofs.lemmas.Option.{none-some, same_Some}
use Rattle.std.proofs.lemmas.Bool.{and_parts}
use Rattle.jl_types.specs.declared.answer.Unlinked.{Unlinked}
use Rattle.jl_types.specs.declared.limits.Limits.{Limits}
use Rattle.jl_types.specs.declared.link.Link.{Link}
use Rattle.jl_types.specs.Events.Event.{Event}
use Rattle.jl_types.specs.declared.event.EventOf.TheVariants as event
use Rattle.jl_types.specs.declared.event.Reply.{Reply}
use Rattle.jl_types.specs.declared.refusal.Refusal.{Refusal}
use Rattle.jl_types.specs.Values.World.{Class}
use Rattle.jl_types.specs.Events.Verdict.{verdict}
use Rattle.jl_types.specs.Events.History.{world_after, installed, installs, dropped, installed_at, installed_of, settled_since, scratch_after, is_link}
use Rattle.jl_types.specs.Events.History.{all_below, any_below}
use Rattle.jl_types.specs.Linkage.Links.{scratch}
use Rattle.jl_types.proofs.InstalledLinks.{links_are}
use Rattle.jl_types.proofs.Lists.{element_at}
use Rattle.jl_types.proofs.Places.{accepted_of}
use Rattle.jl_events.specs.Accepted.{Accepted, event_of}
use Rattle.jl_core.specs.State.{State, events, world_of, links_of, IsAccepted, IsApplied}
use Rattle.jl_core.specs.Logs.{Entry, told, are_told, shown}
use Rattle.jl_core.specs.ForProofs.Touched.{has}
use Rattle.jl_core.proofs.SlotLaws.{untouched}
use Rattle.jl_core.proofs.LogLaws.{length_told}
use Rattle.jl_host.specs.Linkers.{last_dropped}
use Rattle.jl_host.specs.Seats.{room_for}
use Rattle.jl_host.specs.ForProofs.Behind.{touches, installs_at, touched_by, IsNow, IsBehind}

both_false : (a b : Bool) → (a || b) ≡ false → (a ≡ false) × (b ≡ false)
both_false false b e = (refl, e)
both_false true b e = cc

-- ---- one event more

module _ (links : List (Option Link)) (n : ℕ) (m : Limits) (log : List (Event × Reply)) (e : Event) (reply : Reply) where
  abbrev before : State
  before = record { limits = m; log = log }

  abbrev after : State
  after = record { limits = m; log = log ++ (e, reply) ∷ [] }

  events_after : events after ≡ events before ++ e ∷ []
  events_after = map-append (λ (entry : Event × Reply). entry.0) log ((e, reply) ∷ [])

  stays : (s : ℕ) → reply.dropped ≡ dropped (events before) e → touches s (e, reply) ≡ false → installed (events after) s ≡ installed (events before) s
  stays s same quiet =
      let parts = both_false (installs s e) (has s reply.dropped) quiet in
      ap (λ h. installed h s) events_after
      ∙ untouched (events before) e s parts.0 (ap (has s) (sym same) ∙ parts.1)

  one_behind : IsBehind links n before → reply.dropped ≡ dropped (events before) e → IsBehind links n after
  one_behind is same = record {
    few = is.few;
    all = is.all;
    reached = let le = is.reached in omega (arith, le, length-append log ((e, reply) ∷ []));
    same = λ s low quiet.
        let parts = both_false (list_any (touches s) (drop n log)) (list_any (touches s) ((e, reply) ∷ []))
        (sym (ap (list_any (touches s)) (drop-append-le n log ((e, reply) ∷ []) is.reached) ∙ list_any-append (touches s) (drop n log) ((e, reply) ∷ []))
        ∙ quiet) in
        is.same s low parts.0 ∙ sym (stays s same (both_false (touches s (e, reply)) false parts.1).0);
  }

pub accepted_behind : (links : List (Option Link)) (n : ℕ) (old new : State) (e : Event) (reply : Reply) → IsBehind links n old → IsAccepted old new e reply
    → IsBehind links n new
accepted_behind links n old new e reply is accepted =
    subst (IsBehind links n) (sym accepted.logged)
    (one_behind links n old.limits old.log e reply is
    (sym (accepted_of (dropped (events old) e) (verdict old.limits (world_after (events old)) e) reply accepted.answered).1))

pub applied_behind : (links : List (Option Link)) (n : ℕ) (old new : State) (e : Event) (outcome : Result Reply Refusal) → IsBehind links n old
    → IsApplied old e outcome new → IsBehind links n new
applied_behind links n old new e (Ok reply) is applied = accepted_behind links n old new e reply is applied
applied_behind links n old new e (Err r) is applied = subst (IsBehind links n) (sym applied.1) is

pub grown_behind : (links : List (Option Link)) (n : ℕ) (old new : State) → IsBehind links n old
    → ((new ≡ old) ⊎ ((e : Event) × (reply : Reply) × IsAccepted old new e reply)) → IsBehind links n new
grown_behind links n old new is (inl same) = subst (IsBehind links n) (sym same) is
grown_behind links n old new is (inr more) = accepted_behind links n old new more.0 more.1 is more.2

-- ---- what a log keeps of its events

same_installs : (rows : List Class) (a : Accepted) (e : Event) (s : ℕ) → event_of rows a ≡ Some e → installs_at s a ≡ installs s e
same_installs rows event.NewLoader e s is = ap (installs s) (same_Some event.NewLoader e is)
same_installs rows (event.Define loader c) e s is = by_row (slice_get rows c) is
  where
    by_row : (o : Option Class) → option_map (λ row. event.Define loader row.file) o ≡ Some e → false ≡ installs s e
    by_row None k = cc
    by_row (Some row) k = ap (installs s) (same_Some (event.Define loader row.file) e k)
same_installs rows (event.Delegate loader name to) e s is = ap (installs s) (same_Some (event.Delegate loader name to) e is)
same_installs rows (event.Request place) e s is = ap (installs s) (same_Some (event.Request place) e is)
same_installs rows (event.NewCallSite kind ty target) e s is = ap (installs s) (same_Some (event.NewCallSite kind ty target) e is)
same_installs rows (event.SetTarget c target) e s is = ap (installs s) (same_Some (event.SetTarget c target) e is)
same_installs rows event.NewSwitch e s is = ap (installs s) (same_Some event.NewSwitch e is)
same_installs rows (event.Invalidate points) e s is = ap (installs s) (same_Some (event.Invalidate points) e is)
same_installs rows (event.Bind site c) e s is = ap (installs s) (same_Some (event.Bind site c) e is)
same_installs rows (event.Install links) e s is = ap (installs s) (same_Some (event.Install links) e is)
same_installs rows (event.Retire loader) e s is = ap (installs s) (same_Some (event.Retire loader) e is)
same_installs rows (event.RetireAll loaders) e s is = ap (installs s) (same_Some (event.RetireAll loaders) e is)
same_installs rows (event.Release call_sites points) e s is = ap (installs s) (same_Some (event.Release call_sites points) e is)

module _ (rows : List Class) (s : ℕ) where
  same_touch : (entry : Entry) (o : Option Event) → event_of rows entry.event ≡ o → (rest : List (Event × Reply))
      → is_some {T = Event × Reply} (option_map (λ e. (e, entry.reply)) o) ≡ true
      → list_any (touches s) (cons_option (option_map (λ e. (e, entry.reply)) o) rest) ≡ (touched_by s entry || list_any (touches s) rest)
  same_touch entry None is rest e = cc
  same_touch entry (Some x) is rest e =
      λ i. (sym (same_installs rows entry.event x s is) i || has s entry.reply.dropped) || list_any (touches s) rest

  one_dropped : (entry : Entry) (o : Option Event) → event_of rows entry.event ≡ o → (rest : List (Event × Reply)) (n : ℕ)
      → is_some {T = Event × Reply} (option_map (λ e. (e, entry.reply)) o) ≡ true
      → drop (suc n) (cons_option (option_map (λ e. (e, entry.reply)) o) rest) ≡ drop n rest
  one_dropped entry None is rest n e = cc
  one_dropped entry (Some x) is rest n e = refl

  pub same_touches : (entries : List Entry) (n : ℕ) → are_told rows entries ≡ true
      → list_any (touched_by s) (drop n entries) ≡ list_any (touches s) (drop n (shown rows entries))
  same_touches [] zero e = refl
  same_touches [] (suc n) e = refl
  same_touches (entry ∷ entries) zero e =
      let parts = and_parts (is_some (told rows entry)) (are_told rows entries) e in
      ap (λ b. touched_by s entry || b) (same_touches entries zero parts.1)
      ∙ sym (same_touch entry (event_of rows entry.event) refl (shown rows entries) parts.0)
  same_touches (entry ∷ entries) (suc n) e =
      let parts = and_parts (is_some (told rows entry)) (are_told rows entries) e in
      same_touches entries n parts.1
      ∙ sym (ap (list_any (touches s)) (one_dropped entry (event_of rows entry.event) refl (shown rows entries) n parts.0))

-- ---- all links

-- of links that were behind, once those of the touched sites were written
pub caught_up : (core : State) (old new : List (Option Link)) (n : ℕ) (rows : List Class) (entries : List Entry) → IsBehind old n core
    → are_told rows entries ≡ true → shown rows entries ≡ core.log → length new ≡ room_for core.limits.sites
    → ((s : ℕ) → IsNow core old s → IsNow core new s)
    → ((s : ℕ) → s < room_for core.limits.sites → list_any (touched_by s) (drop n entries) ≡ true → IsNow core new s)
    → (s : ℕ) → s < room_for core.limits.sites → IsNow core new s
caught_up core old new n rows entries is all_told shown_is all kept written s low = by_test (list_any (touched_by s) (drop n entries)) refl
  where
    by_test : (b : Bool) → list_any (touched_by s) (drop n entries) ≡ b → IsNow core new s
    by_test true e = written s low e
    by_test false e =
        kept s (is.same s low (ap (λ log. list_any (touches s) (drop n log)) (sym shown_is) ∙ sym (same_touches rows s entries n all_told) ∙ e))

pub all_links : (core : State) (links : List (Option Link)) → length links ≡ room_for core.limits.sites
    → ((s : ℕ) → s < room_for core.limits.sites → IsNow core links s)
    → links ≡ map (installed (events core)) (range_with_len 0 (room_for core.limits.sites))
all_links core links all now =
    ext_get_or None links (map (installed (events core)) (range_with_len 0 (room_for core.limits.sites)))
    (all ∙ sym (length-map-range_with_len (installed (events core)) 0 (room_for core.limits.sites)))
    (λ i low. let few : i < room_for core.limits.sites = omega (arith, low, all) in
    now i few ∙ sym (get_or-map-range_with_len (installed (events core)) 0 (room_for core.limits.sites) i i None few (omega arith)))

-- ---- all links, written anew

-- a site without a row has no link
unlisted : (core : State) (s : ℕ) → list_any (λ row. row.0 == s) (links_of core) ≡ false → installed (events core) s ≡ None
unlisted core s none = by_link (installed (events core) s) refl
  where
    by_link : (o : Option Link) → installed (events core) s ≡ o → o ≡ None
    by_link None is = refl
    by_link (Some l) is = absurd (apart (sym (listed_at (links_of core) ((links_are (events core) s l).0 is)) ∙ none))
      where
        apart : true ≡ false → ⊥
        apart e = cc

        listed_at : (rows : List (ℕ × Link)) → Contains rows (s, l) → list_any (λ row. row.0 == s) rows ≡ true
        listed_at rows c =
            list_any_at (λ (row : ℕ × Link). row.0 == s) rows c.0 (s, l) c.1 (ap (λ (row : ℕ × Link). row.0 == s) c.2 ∙ (Decides-eqb s s).1 refl)

-- of no links, once those of the listed sites were written
pub written_anew : (core : State) (blank new : List (Option Link)) → blank ≡ replicate (room_for core.limits.sites) None
    → ((s : ℕ) → IsNow core blank s → IsNow core new s)
    → ((s : ℕ) → s < room_for core.limits.sites → list_any (λ row. row.0 == s) (links_of core) ≡ true → IsNow core new s)
    → (s : ℕ) → s < room_for core.limits.sites → IsNow core new s
written_anew core blank new none kept written s low = by_test (list_any (λ row. row.0 == s) (links_of core)) refl
  where
    by_test : (b : Bool) → list_any (λ row. row.0 == s) (links_of core) ≡ b → IsNow core new s
    by_test true e = written s low e
    by_test false e =
        kept s (ap (λ links. get_or links s nothing) none ∙ (get_or-replicate (room_for core.limits.sites) s nothing nothing low ∙ sym (unlisted core s e)))
      where
        nothing : Option Link
        nothing = None

-- ---- the last entry

module _ (rows : List Class) where
  at_first : (o : Option (Event × Reply)) (rest : List (Event × Reply)) (reply : Reply) → ((x : Event × Reply) → o ≡ Some x → x.1 ≡ reply) → is_some o ≡ true
      → option_map_or (λ e. e.1.dropped) (slice_get (cons_option o rest) 0) [] ≡ reply.dropped
  at_first None rest reply same e = cc
  at_first (Some x) rest reply same e = ap (λ (r : Reply). r.dropped) (same x refl)

  at_later : (o : Option (Event × Reply)) (rest : List (Event × Reply)) (n : ℕ) → is_some o ≡ true → slice_get (cons_option o rest) (suc n) ≡ slice_get rest n
  at_later None rest n e = cc
  at_later (Some x) rest n e = refl

  reply_of : (entry : Entry) (o : Option Event) (x : Event × Reply) → option_map (λ e. (e, entry.reply)) o ≡ Some x → x.1 ≡ entry.reply
  reply_of entry None x e = cc
  reply_of entry (Some y) x e = sym (ap (λ (p : Event × Reply). p.1) (same_Some (y, entry.reply) x e))

  dropped_at : (entries : List Entry) (n : ℕ) (entry : Entry) → are_told rows entries ≡ true → slice_get entries n ≡ Some entry
      → option_map_or (λ e. e.1.dropped) (slice_get (shown rows entries) n) [] ≡ entry.reply.dropped
  dropped_at [] n entry e at = cc
  dropped_at (first ∷ entries) zero entry e at =
      at_first (told rows first) (shown rows entries) first.reply (reply_of first (event_of rows first.event))
      (and_parts (is_some (told rows first)) (are_told rows entries) e).0
      ∙ ap (λ (x : Entry). x.reply.dropped) (same_Some first entry at)
  dropped_at (first ∷ entries) (suc n) entry e at =
      let parts = and_parts (is_some (told rows first)) (are_told rows entries) e in
      ap (λ o. option_map_or (λ e. e.1.dropped) o []) (at_later (told rows first) (shown rows entries) n parts.0)
      ∙ dropped_at entries n entry parts.1 at

  pub last_is : (core : State) (entries : List Entry) (entry : Entry) → are_told rows entries ≡ true → shown rows entries ≡ core.log
      → slice_get entries (length entries - 1) ≡ Some entry → last_dropped core ≡ entry.reply.dropped
  last_is core entries entry all_told shown_is at =
      ap (λ log. option_map_or (λ e. e.1.dropped) (slice_get log (length log - 1)) []) (sym shown_is)
      ∙ ap (λ n. option_map_or (λ e. e.1.dropped) (slice_get (shown rows entries) (n - 1)) []) (length_told rows entries all_told)
      ∙ dropped_at entries (length entries - 1) entry all_told at

  -- if there is none
  pub none_is : (core : State) (entries : List Entry) → shown rows entries ≡ core.log → slice_get entries (length entries - 1) ≡ None
      → [] ≡ last_dropped core
  none_is core [] shown_is at = ap (λ log. option_map_or (λ e. e.1.dropped) (slice_get log (length log - 1)) []) shown_is
  none_is core (entry ∷ entries) shown_is at =
      let found = element_at (entry ∷ entries) (length (entry ∷ entries) - 1) (omega arith) in
      absurd (none-some found.0 (sym at ∙ found.1))

-- ---- a linker that was opened just now

-- what no event has installed is not installed
module _ (s : ℕ) where
  touches_none : (log : List (Event × Reply)) → list_any (touches s) log ≡ false → (k : ℕ)
      → option_map_or (installs s) (slice_get (map (λ (entry : Event × Reply). entry.0) log) k) false ≡ false
  touches_none [] quiet k = refl
  touches_none (entry ∷ log) quiet zero =
      let first = both_false (touches s entry) (list_any (touches s) log) quiet in
      (both_false (installs s entry.0) (has s entry.1.dropped) first.0).0
  touches_none (entry ∷ log) quiet (suc k) = touches_none log (both_false (touches s entry) (list_any (touches s) log) quiet).1 k

  none_below : (p : ℕ → Bool) → ((k : ℕ) → p k ≡ false) → (n : ℕ) → any_below p n ≡ false
  none_below p none zero = refl
  none_below p none (suc n) = ap (λ b. b || any_below p n) (none n) ∙ none_below p none n

  unsettled : (h : List Event) → ((k : ℕ) → installed_at h k s ≡ false) → (r : Result Link Unlinked) → installed_of h s r ≡ None
  unsettled h none (Ok l) =
      ap (λ b. if b then Some l else None)
      (none_below (settled_since h s l)
      (λ k. ap (λ b. b && all_below (λ n. nat_le n k || is_link (scratch_after h n s) l) (length h + 1)) (none k)) (length h))
  unsettled h none (Err reason) = refl

pub nothing_behind : (core : State) (max_sites : ℕ) (links : List (Option Link)) → core.limits.sites ≡ max_sites → max_sites < 2 ^ 32
    → links ≡ replicate (room_for max_sites) None → IsBehind links 0 core
nothing_behind core max_sites links is few all =
    subst (λ xs. IsBehind xs 0 core) (sym (all ∙ ap (λ m. replicate (room_for m) none) (sym is))) (record {
      few = omega (arith, is, few);
      all = length-replicate (room_for core.limits.sites) none;
      reached = omega arith;
      same = λ s low quiet. get_or-replicate (room_for core.limits.sites) s none none low
          ∙ sym (unsettled s (events core) (touches_none s core.log quiet) (scratch (world_of core) s));
    })
  where
    none : Option Link
    none = None

pub same_length : (core : State) (rows : List Class) (entries : List Entry) → are_told rows entries ≡ true → shown rows entries ≡ core.log
    → length entries ≡ length core.log
same_length core rows entries all_told shown_is = sym (length_told rows entries all_told) ∙ ap length shown_is
