-- A fresh core that stands beside the old one takes what that has accepted, and stands beside it then.
use Rattle.std.specs.Prelude.{◌≡◌, ℕ, ◌+◌, ◌≤◌, ◌<◌, Bool, true, false, List, [], ◌∷◌, ◌++◌, map, length, take}
use Rattle.std.specs.Prelude.{position, slice_set, get_or, Option, Some, None, option_map, Result, Ok, Err, IsOk, is_ok, not, is_some, if◌then◌else◌}
use Rattle.std.specs.List.{list_all, list_any}
use Rattle.std.specs.Option.{option_map_or}
use Rattle.std.proofs.Common.{refl, sym, ap, subst, subst₂, ◌∙◌, arith, inl, inr, length-append}
use Rattle.std.proofs.lemmas.Bool.{both_ways, and_from}
use Rattle.std.proofs.lemmas.List.{length-map, map-append}
use Rattle.std.proofs.lemmas.List.Folds.{list_all-append}
use Rattle.std.proofs.lemmas.List.FromFn.{length-map-range_with_len}
use Rattle.std.proofs.lemmas.List.Quantifiers.{position-Some}
use Rattle.std.proofs.lemmas.Map.Keys.{any_passes_from_place}
use Rattle.std.proofs.lemmas.Option.{same_Some, slice_get_within, slice_get-get_or}
use Rattle.jl_types.specs.declared.limits.Limits.{Limits}
use Rattle.jl_class.specs.Site.{Site}
use Rattle.jl_types.specs.declared.ids.Place.{Place}
use Rattle.jl_types.specs.declared.event.EventOf.TheVariants as event
use Rattle.jl_types.specs.declared.event.Made.{Made}
use Rattle.jl_types.specs.declared.event.Made.TheVariants as made
use Rattle.jl_types.specs.declared.event.Reply.{Reply}
use Rattle.jl_types.specs.declared.link.Link.{Link}
use Rattle.jl_types.specs.declared.refusal.Refusal.{Refusal}
use Rattle.jl_types.specs.declared.refusal.Refusal.TheVariants.{UnknownClass}
use Rattle.jl_types.specs.Values.World.{World, CallSite, nothing_yet, unreleased}
use Rattle.jl_types.specs.Values.Target.{Target}
use Rattle.jl_types.specs.Values.Members.{lookup, is_present, is_retired}
use Rattle.jl_types.specs.Linkage.Stages.{invocation_at}
use Rattle.jl_types.specs.Events.Event.{Event}
use Rattle.jl_types.specs.Events.Definitions.{with_record, class_made}
use Rattle.jl_types.specs.Events.Retirement.{emptied}
use Rattle.jl_types.specs.Events.Limits.{AreNoFewer}
use Rattle.jl_types.specs.Events.Verdict.{verdict, step, unless, same_place, request_place, if_invoked, new_place_fault}
use Rattle.jl_types.specs.Events.History.{world_after, dropped}
use Rattle.jl_types.specs.Values.Ancestry.{AreOrdered}
use Rattle.jl_types.proofs.Orders.{world_good}
use Rattle.jl_types.proofs.Releasing.{length_without}
use Rattle.jl_types.proofs.Places.{world_more, accepted_of}
use Rattle.jl_relink.specs.Laws.{AreAccepted, has_read_file, IsInOrder}
use Rattle.jl_relink.proofs.InOrder.{accepted_in_order}
use Rattle.jl_core.specs.State.{State, events, world_of, IsAccepted}
use Rattle.jl_renewal.specs.declared.released.Released.{Released}
use Rattle.jl_renewal.specs.Numbers.{Numbers}
use Rattle.jl_renewal.specs.Staying.{numbers_of}
use Rattle.jl_renewal.specs.Renewed.{renewed}
use Rattle.jl_renewal.specs.Carries.{carried, made_number, with_number, with_made, IsMade}
use Rattle.jl_renewal.specs.Moved.{Flags, Rests, Names, moved, kept, moved_place, moved_call_site, moved_class, moved_record, moved_world}
use Rattle.jl_renewal.specs.Moved.{flags_of, event_there, numbers_there, all_numbers, IsBeside}
use Rattle.jl_renewal.proofs.MovedFollows.{Follows}
use Rattle.jl_renewal.proofs.AlikeSites.{SitesAlike}
use Rattle.jl_renewal.proofs.ClassPhase.{loaders_after}
use Rattle.jl_renewal.proofs.FitLaws.{fit_after}
use Rattle.jl_renewal.proofs.MovedScratch.{sites_alike}
use Rattle.jl_renewal.proofs.FitParts.{at_more}
use Rattle.jl_renewal.proofs.ReleasedRows.{length_invalidated}
use Rattle.jl_renewal.proofs.StayLaws.{call_sites_length, switches_length}
use Rattle.jl_renewal.proofs.MovedLists.{moved_end, length_set, length_emptied}
use Rattle.jl_renewal.proofs.MovedClasses.{invocation_same}
use Rattle.jl_renewal.proofs.MovedTargets.{inv_map}
use Rattle.jl_renewal.proofs.MovedSites.{any_place, none_any}
use Rattle.jl_renewal.proofs.MovedEvents.{each_follows}
use Rattle.jl_renewal.proofs.MovedRests.{rests_after, record_length}
use Rattle.jl_renewal.proofs.MovedNumbers.{new_is_noted, old_is_noted, numbered_there}
use Rattle.jl_renewal.proofs.MovedCarries.{event_is_there}
use Rattle.jl_renewal.proofs.MovedNames.{names_first, names_after}
use Rattle.jl_renewal.proofs.MovedLaw.{take_front, take_whole, rests_there, world_there}

-- ---- what a verdict gives

same_made : (a b : Made) → ◌≡◌ {A = Result Made Refusal} (Ok a) (Ok b) → a ≡ b
same_made a b e = ap given e
  where
    given : Result Made Refusal → Made
    given (Ok m) = m
    given (Err r) = a

given_is : (o : Option Refusal) (m given : Made) → unless o m ≡ Ok given → given ≡ m
given_is None m given e = sym (same_made m given e)
given_is (Some r) m given e = cc

-- ---- the numbers after an event

module _ (k : Flags) (w : World) (rests : Rests k w) where
  abbrev v : World
  v = moved_world k w

  abbrev n : Numbers
  n = all_numbers k w

  -- a list with one more
  counted : {A : Type 0} (xs : List A) (x : A) → length (xs ++ x ∷ []) ≡ length xs + 1
  counted xs x = length-append xs (x ∷ [])

  noted : {A B : Type 0} (f : A → B) (stays : List Bool) (xs : List A) (x : A) → length stays ≤ length xs
      → with_number (numbers_there stays (length xs)) (length xs) (Some (length (map f (kept stays xs)))) ≡ numbers_there stays (length (xs ++ x ∷ []))
  noted f stays xs x le =
      new_is_noted stays (length xs) (Some (length (map f (kept stays xs)))) (moved_end stays xs le ∙ ap Some (sym (length-map (kept stays xs) f)))
      ∙ ap (numbers_there stays) (sym (counted xs x))

  with_loaders : (count : ℕ) → count ≡ length w.classes.loaders → n ≡ record n { loaders = numbers_there k.loaders count }
  with_loaders count e = ap (λ (c : ℕ). record n { loaders = numbers_there k.loaders c }) (sym e)

  delegated_length : (loader : ℕ) (name : List ℕ) (o : Option ℕ)
      → length (option_map_or (with_record w.classes.loaders loader name) o w.classes.loaders) ≡ length w.classes.loaders
  delegated_length loader name None = refl
  delegated_length loader name (Some c) = record_length w.classes.loaders loader name c

  retargeted_length : (c : ℕ) (t : Target) (o : Option CallSite)
      → length (option_map_or (λ site. slice_set w.sites.call_sites c (Some (record site { target = t }))) o w.sites.call_sites)
      ≡ length w.sites.call_sites
  retargeted_length c t None = refl
  retargeted_length c t (Some site) = length_set w.sites.call_sites c (Some (record site { target = t }))

  module _ (limits more : Limits) where
    -- ---- a request

    module _ (place : Place) (d : ℕ) (at : moved k.classes place.class ≡ Some d) where
      abbrev there : Place
      there = record place { class = d }

      among : list_any (same_place there) v.places ≡ list_any (same_place place) w.places
      among = any_place k place d at k.sites w.places rests.sites

      abbrev Noted : Made → Made → Type 0
      Noted old new = with_made n old (made_number new)
          ≡ record n { sites = numbers_there k.sites (length (if list_any (same_place place) w.places then w.places else w.places ++ place ∷ [])) }

      found : (u : World) (p : Place) (s : ℕ) → position (same_place p) u.places ≡ Some s → (list_any (same_place p) u.places ≡ true) × (s < length u.places)
      found u p s is =
          let h = position-Some (same_place p) u.places s p is in
          (any_passes_from_place (same_place p) u.places s (get_or u.places s p) (slice_get-get_or u.places s p h.0) h.1, h.0)

      by_places : (o q : Option ℕ) (site : Site) (old new : Made) → position (same_place place) w.places ≡ o → position (same_place there) v.places ≡ q
          → request_place limits w o site ≡ Ok old → request_place more v q site ≡ Ok new → Noted old new
      by_places (Some s) q site old new is iq eo en =
          let h = found w place s is in
          ap (λ (m : Made). with_made n m (made_number new)) (sym (same_made (made.Site s) old eo))
          ∙ (ap (λ (numbers : List (Option ℕ)). record n { sites = numbers }) (old_is_noted k.sites (length w.places) s (made_number new) h.1)
          ∙ ap (λ (b : Bool). record n { sites = numbers_there k.sites (length (if b then w.places else w.places ++ place ∷ [])) }) (sym h.0))
      by_places None (Some s) site old new is iq eo en =
          absurd (both_ways (list_any (same_place place) w.places) (none_any (same_place place) w.places is) (sym among ∙ (found v there s iq).0))
      by_places None None site old new is iq eo en =
          (λ i. with_made n (given_is (new_place_fault limits w site) (made.Site (length w.places)) old eo i)
          (made_number (given_is (new_place_fault more v site) (made.Site (length v.places)) new en i)))
          ∙ (ap (λ (numbers : List (Option ℕ)). record n { sites = numbers }) (noted (moved_place k) k.sites w.places place rests.few_sites)
          ∙ ap (λ (b : Bool). record n { sites = numbers_there k.sites (length (if b then w.places else w.places ++ place ∷ [])) })
          (sym (none_any (same_place place) w.places is)))

      by_sites : (o q : Option Site) (old new : Made) → o ≡ q → if_invoked limits w place o ≡ Ok old → if_invoked more v there q ≡ Ok new → Noted old new
      by_sites None q old new same eo en = cc
      by_sites (Some site) None old new same eo en = cc
      by_sites (Some site) (Some other) old new same eo en =
          by_places (position (same_place place) w.places) (position (same_place there) v.places) site old new refl refl eo
          (ap (request_place more v (position (same_place there) v.places)) (same_Some site other same) ∙ en)

      by_classes : (a b : Bool) (old new : Made)
          → (if a then if_invoked limits w place (invocation_at w.classes place) else Err UnknownClass) ≡ Ok old
          → (if b then if_invoked more v there (invocation_at v.classes there) else Err UnknownClass) ≡ Ok new → Noted old new
      by_classes false b old new eo en = cc
      by_classes true false old new eo en = cc
      by_classes true true old new eo en =
          by_sites (invocation_at w.classes place) (invocation_at v.classes there) old new (sym (invocation_same k w rests place d at)) eo en

      pub request_noted : (old new : Made) → verdict limits w (event.Request place) ≡ Ok old → verdict more v (event.Request there) ≡ Ok new → Noted old new
      request_noted = by_classes (is_present w.classes place.class) (is_present v.classes d)

    -- ---- each event

    abbrev IsNoted : Event → Made → Made → Type 0
    IsNoted e old new = with_made n old (made_number new) ≡ all_numbers k (step w e)

    none_made : (o : Option Refusal) (old new : Made) (m : Numbers) → unless o made.Nothing ≡ Ok old → n ≡ m → with_made n old (made_number new) ≡ m
    none_made o old new m e same = ap (λ (x : Made). with_made n x (made_number new)) (given_is o made.Nothing old e) ∙ same

    pub all_noted : (e f : Event) (old new : Made) → event_there k e ≡ Some f → verdict limits w e ≡ Ok old → verdict more v f ≡ Ok new → IsNoted e old new
    all_noted event.NewLoader f old new there eo en =
        (λ i. with_made n (given_is _ (made.Loader (length w.classes.loaders)) old eo i)
        (made_number (given_is _ (made.Loader (length v.classes.loaders)) new (ap (verdict more v) (same_Some event.NewLoader f there) ∙ en) i)))
        ∙ ap (λ (numbers : List (Option ℕ)). record n { loaders = numbers })
        (noted (map (moved_record k)) k.loaders w.classes.loaders [] rests.few_loaders)
    all_noted (event.Define loader file) f old new there eo en =
        let l = inv_map (λ (l : ℕ). event.Define l file) (moved k.loaders loader) f there in
        (λ i. with_made n (given_is _ (made.Class (length w.classes.rows)) old eo i)
        (made_number (given_is _ (made.Class (length v.classes.rows)) new (ap (verdict more v) l.2 ∙ en) i)))
        ∙ (λ i. record n {
          loaders = numbers_there k.loaders (sym (record_length w.classes.loaders loader file.name (length w.classes.rows)) i);
          classes = noted (moved_class k) k.classes w.classes.rows (class_made w.classes loader file) rests.few_classes i;
        })
    all_noted (event.Delegate loader name to) f old new there eo en =
        none_made _ old new (all_numbers k (step w (event.Delegate loader name to))) eo
        (with_loaders (length (step w (event.Delegate loader name to)).classes.loaders) (delegated_length loader name (lookup w.classes to name)))
    all_noted (event.Request place) f old new there eo en =
        let d = inv_map (λ (c : ℕ). event.Request (record place { class = c })) (moved k.classes place.class) f there in
        request_noted place d.0 d.1 old new eo (ap (verdict more v) d.2 ∙ en)
    all_noted (event.NewCallSite kind ty t) f old new there eo en =
        let u = inv_map (event.NewCallSite kind ty) _ f there in
        (λ i. with_made n (given_is _ (made.CallSite (length w.sites.call_sites)) old eo i)
        (made_number (given_is _ (made.CallSite (length v.sites.call_sites)) new (ap (verdict more v) u.2 ∙ en) i)))
        ∙ ap (λ (numbers : List (Option ℕ)). record n { call_sites = numbers })
        (noted (option_map (moved_call_site k)) k.call_sites w.sites.call_sites (Some (record { kind = kind; ty = ty; target = t }))
        rests.few_call_sites)
    all_noted (event.SetTarget c t) f old new there eo en =
        none_made _ old new (all_numbers k (step w (event.SetTarget c t))) eo
        (ap (λ (count : ℕ). record n { call_sites = numbers_there k.call_sites count }) (sym (retargeted_length c t (unreleased w.sites.call_sites c))))
    all_noted event.NewSwitch f old new there eo en =
        (λ i. with_made n (given_is _ (made.Switch (length w.sites.switches)) old eo i)
        (made_number (given_is _ (made.Switch (length v.sites.switches)) new (ap (verdict more v) (same_Some event.NewSwitch f there) ∙ en) i)))
        ∙ ap (λ (numbers : List (Option ℕ)). record n { switches = numbers })
        (new_is_noted k.switches (length w.sites.switches) (Some (length v.sites.switches)) (moved_end k.switches w.sites.switches rests.few_switches)
        ∙ ap (numbers_there k.switches) (sym (counted w.sites.switches (Some true))))
    all_noted (event.Invalidate points) f old new there eo en =
        none_made _ old new (all_numbers k (step w (event.Invalidate points))) eo
        (ap (λ (count : ℕ). record n { switches = numbers_there k.switches count }) (sym (length_invalidated w.sites.switches points)))
    all_noted (event.Bind s c) f old new there eo en = none_made _ old new (all_numbers k (step w (event.Bind s c))) eo refl
    all_noted (event.Install rows) f old new there eo en = cc
    all_noted (event.Retire loader) f old new there eo en =
        none_made _ old new (all_numbers k (step w (event.Retire loader))) eo
        (with_loaders (length (emptied w.classes.loaders (loader ∷ []))) (length_emptied w.classes.loaders (loader ∷ [])))
    all_noted (event.RetireAll loaders) f old new there eo en =
        none_made _ old new (all_numbers k (step w (event.RetireAll loaders))) eo
        (with_loaders (length (emptied w.classes.loaders loaders)) (length_emptied w.classes.loaders loaders))
    all_noted (event.Release call_sites points) f old new there eo en =
        none_made _ old new (all_numbers k (step w (event.Release call_sites points))) eo
        (λ i. record n {
          call_sites = numbers_there k.call_sites (sym (length_without call_sites w.sites.call_sites) i);
          switches = numbers_there k.switches (sym (length_without points w.sites.switches) i);
        })

-- ---- one event of an old core, and of a fresh one beside it

one_more_accepted : (limits : Limits) (h : List Event) (e : Event) → AreAccepted limits h → IsOk (verdict limits (world_after h) e) → has_read_file e ≡ true
    → AreAccepted limits (h ++ e ∷ [])
one_more_accepted limits h e all ok read = record {
  each = λ i f at. elim (at_more h e i f at) [
    | inl before ↦
        let lt = slice_get_within h i f before in
        subst (λ (es : List Event). IsOk (verdict limits (world_after es) f)) (sym (take_front h (e ∷ []) i (omega (arith, lt)))) (all.each i f before)
    | inr last ↦
        subst (λ (es : List Event). IsOk (verdict limits (world_after es) f)) (sym (ap (λ (j : ℕ). take j (h ++ e ∷ [])) last.0
        ∙ (take_front h (e ∷ []) (length h) (omega arith) ∙ take_whole h)))
        (subst (λ (g : Event). IsOk (verdict limits (world_after h) g)) last.1 ok)
  ];
  files = list_all-append has_read_file h (e ∷ [])
      ∙ and_from (list_all has_read_file h) (list_all has_read_file (e ∷ [])) all.files (and_from (has_read_file e) true read refl);
}

module _ (k : Flags) (old fresh : State) (n : Numbers) (beside : IsBeside k old fresh n) (e f : Event) (carries : carried n e ≡ Some f)
    (ok : IsOk (verdict old.limits (world_of old) e)) where
  abbrev w : World
  w = world_of old

  order : IsInOrder w
  order = accepted_in_order old.limits (events old) beside.accepted

  is_there : event_there k e ≡ Some f
  is_there = event_is_there k w old.limits e f ok (ap (λ (m : Numbers). carried m e) (sym beside.numbers) ∙ carries)

  follows : Follows fresh.limits k w e f
  follows = each_follows k w beside.rests beside.names (fit_after old.limits (events old) beside.accepted.each) order.classes.closed order.classes.ordered
      old.limits fresh.limits beside.limit e f is_there ok

  pub taken : IsOk (verdict fresh.limits (world_of fresh) f)
  taken = subst (λ (v : World). IsOk (verdict fresh.limits v f)) (sym beside.world) follows.accepted

  module _ (after fresh_after : State) (m : Numbers) (reply : Reply) (read : has_read_file e ≡ true) (accepted : IsAccepted old after e reply)
      (made_there : IsMade f reply.made n m fresh fresh_after) where
    old_events : events after ≡ events old ++ e ∷ []
    old_events = ap events accepted.logged ∙ map-append (λ entry. entry.0) old.log ((e, reply) ∷ [])

    old_world : world_of after ≡ step w e
    old_world = ap world_after old_events ∙ world_more (events old) e

    fresh_world : world_of fresh_after ≡ step (world_of fresh) f
    fresh_world =
        ap (λ (s : State). world_of s) made_there.accepted.logged
        ∙ (ap world_after (map-append (λ entry. entry.0) fresh.log ((f, made_there.reply) ∷ [])) ∙ world_more (events fresh) f)

    gave : verdict old.limits w e ≡ Ok reply.made
    gave = (accepted_of (dropped (events old) e) (verdict old.limits w e) reply accepted.answered).0

    gave_there : verdict fresh.limits (moved_world k w) f ≡ Ok made_there.reply.made
    gave_there =
        ap (λ (v : World). verdict fresh.limits v f) (sym beside.world)
        ∙ (accepted_of (dropped (events fresh) f) (verdict fresh.limits (world_of fresh) f) made_there.reply made_there.accepted.answered).0

    old_limit : after.limits ≡ old.limits
    old_limit = ap (λ (s : State). s.limits) accepted.logged

    fresh_limit : fresh_after.limits ≡ fresh.limits
    fresh_limit = ap (λ (s : State). s.limits) made_there.accepted.logged

    pub still_beside : IsBeside k after fresh_after m
    still_beside = record {
      accepted = subst (λ (limits : Limits). AreAccepted limits (events after)) (sym old_limit)
          (subst (AreAccepted old.limits) (sym old_events) (one_more_accepted old.limits (events old) e beside.accepted ok read));
      rests = subst (Rests k) (sym old_world) (rests_after k w beside.rests old.limits e ok);
      names = subst (Names k) (sym old_world) (names_after k w beside.rests beside.names e f is_there);
      limit = subst₂ AreNoFewer (sym old_limit) (sym fresh_limit) beside.limit;
      world = fresh_world ∙ (ap (λ (v : World). step v f) beside.world ∙ (follows.after ∙ ap (moved_world k) (sym old_world)));
      numbers = made_there.numbers ∙ (ap (λ (ns : Numbers). with_made ns reply.made (made_number made_there.reply.made)) beside.numbers
          ∙ (all_noted k w beside.rests old.limits fresh.limits e f reply.made made_there.reply.made is_there gave gave_there
          ∙ ap (all_numbers k) (sym old_world)));
    }

-- ---- installs

-- a fresh core with the same world stands there, too
pub beside_as : (k : Flags) (old fresh other : State) (n : Numbers) → IsBeside k old fresh n → world_of other ≡ world_of fresh
    → other.limits ≡ fresh.limits → IsBeside k old other n
beside_as k old fresh other n beside same_world same_limit = record {
  accepted = beside.accepted;
  rests = beside.rests;
  names = beside.names;
  limit = subst (AreNoFewer old.limits) (sym same_limit) beside.limit;
  world = same_world ∙ beside.world;
  numbers = beside.numbers;
}

-- an install leaves the world
module _ (k : Flags) (old fresh : State) (n : Numbers) (beside : IsBeside k old fresh n) (rows : List (ℕ × Link)) where
  abbrev z : World
  z = world_of old

  -- one of the old core is passed over
  module _ (after : State) (reply : Reply) (accepted : IsAccepted old after (event.Install rows) reply) where
    more_events : events after ≡ events old ++ event.Install rows ∷ []
    more_events = ap events accepted.logged ∙ map-append (λ entry. entry.0) old.log ((event.Install rows, reply) ∷ [])

    same_world : world_of after ≡ z
    same_world = ap world_after more_events ∙ world_more (events old) (event.Install rows)

    same_limit : after.limits ≡ old.limits
    same_limit = ap (λ (s : State). s.limits) accepted.logged

    was_ok : IsOk (verdict old.limits z (event.Install rows))
    was_ok = ap is_ok (accepted_of (dropped (events old) (event.Install rows)) (verdict old.limits z (event.Install rows)) reply accepted.answered).0

    pub beside_passed : IsBeside k after fresh n
    beside_passed = record {
      accepted = subst (λ (limits : Limits). AreAccepted limits (events after)) (sym same_limit)
          (subst (AreAccepted old.limits) (sym more_events)
          (one_more_accepted old.limits (events old) (event.Install rows) beside.accepted was_ok refl));
      rests = subst (Rests k) (sym same_world) beside.rests;
      names = subst (Names k) (sym same_world) beside.names;
      limit = subst (λ (limits : Limits). AreNoFewer limits fresh.limits) (sym same_limit) beside.limit;
      world = beside.world ∙ ap (moved_world k) (sym same_world);
      numbers = beside.numbers ∙ ap (all_numbers k) (sym same_world);
    }

  -- one of the fresh core changes nothing
  module _ (fresh_after : State) (reply : Reply) (accepted : IsAccepted fresh fresh_after (event.Install rows) reply) where
    still_world : world_of fresh_after ≡ world_of fresh
    still_world =
        ap (λ (s : State). world_of s) accepted.logged
        ∙ (ap world_after (map-append (λ entry. entry.0) fresh.log ((event.Install rows, reply) ∷ [])) ∙ world_more (events fresh) (event.Install rows))

    still_limit : fresh_after.limits ≡ fresh.limits
    still_limit = ap (λ (s : State). s.limits) accepted.logged

    pub beside_linked : IsBeside k old fresh_after n
    beside_linked = beside_as k old fresh fresh_after n beside still_world still_limit

-- ---- a fresh core that was refilled

module _ (old fresh : State) (released : Released) (n : Numbers) (accepted : AreAccepted old.limits (events old)) (limit : AreNoFewer old.limits fresh.limits)
    (world : world_of fresh ≡ renewed (world_of old) released) (numbers : n ≡ numbers_of (world_of old) released) where
  abbrev x : World
  x = world_of old

  abbrev flags : Flags
  flags = flags_of x released

  are_there : numbers_of x released ≡ all_numbers flags x
  are_there = λ i. record {
    loaders = numbered_there flags.loaders (length x.classes.loaders)
        (length-map-range_with_len (λ l. not (is_retired x.classes l)) 0 (length x.classes.loaders)) i;
    classes = numbered_there flags.classes (length x.classes.rows) (length-map-range_with_len (is_present x.classes) 0 (length x.classes.rows)) i;
    sites = numbered_there flags.sites (length x.places) (length-map x.places (λ place. is_present x.classes place.class)) i;
    call_sites = numbered_there flags.call_sites (length x.sites.call_sites) (call_sites_length x released) i;
    switches = numbered_there flags.switches (length x.sites.switches) (switches_length x released) i;
  }

  pub beside_first : IsBeside (flags_of (world_of old) released) old fresh n
  beside_first = record {
    accepted = accepted;
    rests = rests_there old released accepted;
    names = names_first x released (fit_after old.limits (events old) accepted.each);
    limit = limit;
    world = world ∙ sym (world_there old released accepted);
    numbers = numbers ∙ are_there;
  }

-- ---- linking in a fresh core that stands beside the old one

module _ (k : Flags) (old fresh : State) (n : Numbers) (beside : IsBeside k old fresh n) where
  abbrev y : World
  y = world_of old

  its_order : IsInOrder y
  its_order = accepted_in_order old.limits (events old) beside.accepted

  moved_alike : SitesAlike (all_numbers k y) y (moved_world k y) (λ c. is_some (moved k.call_sites c))
  moved_alike =
      sites_alike k y beside.rests beside.names (fit_after old.limits (events old) beside.accepted.each) its_order.classes.closed (world_good (events old))
      (let more = loaders_after (events old) nothing_yet in omega (arith, more))
      (subst (λ (v : World). AreOrdered v.classes.rows) beside.world (world_good (events fresh)).ordered)

  pub beside_alike : SitesAlike n (world_of old) (world_of fresh) (λ c. is_some (moved k.call_sites c))
  beside_alike =
      subst₂ (λ (m : Numbers) (v : World). SitesAlike m y v (λ c. is_some (moved k.call_sites c))) (sym beside.numbers) (sym beside.world) moved_alike
