-- How many places are requested: an event takes none back, and a legal list keeps to the limit.
use Rattle.std.specs.Prelude.{◌≡◌, ℕ, ◌<◌, ◌≤◌, ◌==◌, ◌&&◌, nat_le, Bool, true, false, List, [], ◌∷◌, ◌++◌, length, position, get_or, Option, Some, None}
use Rattle.std.specs.Prelude.{Result, Ok, Err, if◌then◌else◌}
use Rattle.std.specs.Bool.{then_some}
use Rattle.std.specs.List.{list_any}
use Rattle.std.proofs.Common.{refl, ap, sym, ◌∙◌, subst, arith, length-append}
use Rattle.std.proofs.lemmas.Bool.{leb-false, both_ways}
use Rattle.std.proofs.lemmas.Bool.Decides.{Decides-eqb}
use Rattle.std.proofs.lemmas.List.Sums.{fold-append}
use Rattle.std.proofs.lemmas.List.Quantifiers.{position-Some}
use Rattle.std.proofs.lemmas.Option.{slice_get-get_or}
use Rattle.std.proofs.lemmas.Map.Keys.{any_passes_from_place}
use Rattle.jl_types.specs.declared.limits.Limits.{Limits}
use Rattle.jl_class.specs.Site.{Site}
use Rattle.jl_types.specs.declared.ids.Place.{Place}
use Rattle.jl_types.specs.Events.Event.{Event}
use Rattle.jl_types.specs.declared.event.EventOf.TheVariants as event
use Rattle.jl_types.specs.declared.event.Made.{Made}
use Rattle.jl_types.specs.declared.event.Reply.{Reply}
use Rattle.jl_types.specs.declared.event.Made.TheVariants as made
use Rattle.jl_types.specs.declared.refusal.Refusal.{Refusal}
use Rattle.jl_types.specs.declared.refusal.Refusal.TheVariants as refusal
use Rattle.jl_types.specs.Values.World.{World, nothing_yet}
use Rattle.jl_types.specs.Events.Verdict.{verdict, step, unless, same_place, request_place, if_invoked, new_place_fault, names_array, is_polymorphic}
use Rattle.jl_types.specs.Values.Members.{is_present}
use Rattle.jl_types.specs.Linkage.Stages.{invocation_at}
use Rattle.jl_types.specs.Events.History.{world_after, replied, dropped}
use Rattle.jl_types.specs.Events.Entries.{Entry, IsEntry, IsLegal, events_of}
use Rattle.jl_types.proofs.Firsts.{first_none, test_none}
use Rattle.jl_types.proofs.Legal.{by_entries, events_more}
use Rattle.jl_types.proofs.Bools.{first_test, second_test}

-- places that are the same by the test are the same
pub same_so : (p q : Place) → same_place p q ≡ true → p ≡ q
same_so p q is =
    let class = (Decides-eqb p.class q.class).0 (first_test (p.class == q.class) ((p.method == q.method) && (p.pc == q.pc)) is) in
    let rest = second_test (p.class == q.class) ((p.method == q.method) && (p.pc == q.pc)) is in
    let method = (Decides-eqb p.method q.method).0 (first_test (p.method == q.method) (p.pc == q.pc) rest) in
    let pc = (Decides-eqb p.pc q.pc).0 (second_test (p.method == q.method) (p.pc == q.pc) rest) in
    λ i. record { class = class i; method = method i; pc = pc i }

pub world_more : (h : List Event) (e : Event) → world_after (h ++ e ∷ []) ≡ step (world_after h) e
world_more h e = fold-append step nothing_yet h (e ∷ [])

-- ---- none is taken back

kept_or_more : (b : Bool) (places : List Place) (place : Place) → length places ≤ length (if b then places else places ++ place ∷ [])
kept_or_more true places place = omega arith
kept_or_more false places place = omega (arith, length-append places (place ∷ []))

places_step : (w : World) (e : Event) → length w.places ≤ length (step w e).places
places_step w event.NewLoader = omega arith
places_step w (event.Define loader file) = omega arith
places_step w (event.Delegate loader name to) = omega arith
places_step w (event.Request place) = kept_or_more (list_any (same_place place) w.places) w.places place
places_step w (event.NewCallSite kind ty t) = omega arith
places_step w (event.SetTarget c t) = omega arith
places_step w event.NewSwitch = omega arith
places_step w (event.Invalidate points) = omega arith
places_step w (event.Bind s c) = omega arith
places_step w (event.Install rows) = omega arith
places_step w (event.Retire loader) = omega arith
places_step w (event.RetireAll loaders) = omega arith
places_step w (event.Release call_sites points) = omega arith

pub places_grow : (h : List Event) (e : Event) → length (world_after h).places ≤ length (world_after (h ++ e ∷ [])).places
places_grow h e = subst (λ (w : World). length (world_after h).places ≤ length w.places) (sym (world_more h e)) (places_step (world_after h) e)

-- ---- the limit

module _ (limits : Limits) (w : World) (place : Place) where
  has_room : (site : Site) (made given : Made) → unless (new_place_fault limits w site) made ≡ Ok given → length w.places < limits.sites
  has_room site made given e = by_fault (new_place_fault limits w site) refl e
    where
      by_fault : (o : Option Refusal) → new_place_fault limits w site ≡ o → unless o made ≡ Ok given → length w.places < limits.sites
      by_fault (Some r) is e = cc
      by_fault None is e =
          let array = first_none (then_some (names_array site.operand) _) _ is in
          let polymorphic = first_none (then_some (is_polymorphic site.operand) _) _ array.1 in
          let full = first_none (then_some (nat_le limits.sites (length w.places)) refusal.SitesFull) [] polymorphic.1 in
          leb-false limits.sites (length w.places) (test_none (nat_le limits.sites (length w.places)) refusal.SitesFull full.0)

  known_place : (s : ℕ) → position (same_place place) w.places ≡ Some s → list_any (same_place place) w.places ≡ true
  known_place s at =
      let found = position-Some (same_place place) w.places s place at in
      any_passes_from_place (same_place place) w.places s (get_or w.places s place) (slice_get-get_or w.places s place found.0) found.1

  new_by_place : (o : Option ℕ) (site : Site) (given : Made) → position (same_place place) w.places ≡ o → request_place limits w o site ≡ Ok given
      → list_any (same_place place) w.places ≡ false → length w.places < limits.sites
  new_by_place (Some s) site given at e new = absurd (both_ways (list_any (same_place place) w.places) new (known_place s at))
  new_by_place None site given at e new = has_room site (made.Site (length w.places)) given e

  new_by_site : (o : Option Site) (given : Made) → if_invoked limits w place o ≡ Ok given
      → list_any (same_place place) w.places ≡ false → length w.places < limits.sites
  new_by_site None given e new = cc
  new_by_site (Some site) given e new = new_by_place (position (same_place place) w.places) site given refl e new

  -- a place that wasn't requested yet has to have room
  new_has_room : (b : Bool) (given : Made) → (if b then if_invoked limits w place (invocation_at w.classes place) else Err refusal.UnknownClass) ≡ Ok given
      → list_any (same_place place) w.places ≡ false → length w.places < limits.sites
  new_has_room true given e new = new_by_site (invocation_at w.classes place) given e new
  new_has_room false given e new = cc

  within : (b : Bool) → length w.places ≤ limits.sites → (b ≡ false → length w.places < limits.sites)
      → length (if b then w.places else w.places ++ place ∷ []) ≤ limits.sites
  within true le room = le
  within false le room = let lt = room refl in omega (arith, length-append w.places (place ∷ []))

pub limit_step : (limits : Limits) (w : World) (e : Event) (given : Made) → verdict limits w e ≡ Ok given → length w.places ≤ limits.sites
    → length (step w e).places ≤ limits.sites
limit_step limits w event.NewLoader given accepted le = le
limit_step limits w (event.Define loader file) given accepted le = le
limit_step limits w (event.Delegate loader name to) given accepted le = le
limit_step limits w (event.Request place) given accepted le =
    within limits w place (list_any (same_place place) w.places) le (new_has_room limits w place (is_present w.classes place.class) given accepted)
limit_step limits w (event.NewCallSite kind ty t) given accepted le = le
limit_step limits w (event.SetTarget c t) given accepted le = le
limit_step limits w event.NewSwitch given accepted le = le
limit_step limits w (event.Invalidate points) given accepted le = le
limit_step limits w (event.Bind s c) given accepted le = le
limit_step limits w (event.Install rows) given accepted le = le
limit_step limits w (event.Retire loader) given accepted le = le
limit_step limits w (event.RetireAll loaders) given accepted le = le
limit_step limits w (event.Release call_sites points) given accepted le = le

-- an event that is answered is accepted, and drops what the answer says
pub accepted_of : (dropped : List ℕ) (r : Result Made Refusal) (said : Reply) → replied dropped r ≡ Ok said → (r ≡ Ok said.made) × (dropped ≡ said.dropped)
accepted_of dropped (Ok given) said e =
    let same : ◌≡◌ {A = Reply} (record { made = given; dropped = dropped }) said = cc e in
    (ap (λ (r : Reply). Ok r.made) same, ap (λ (r : Reply). r.dropped) same)
accepted_of dropped (Err r) said e = cc

abbrev KeepsTo : Limits → List Entry → Type 0
KeepsTo limits entries = length (world_after (events_of entries)).places ≤ limits.sites

module _ (limits : Limits) where
  limit_more : (done : List Entry) (entry : Entry) → IsEntry limits (events_of done) entry → KeepsTo limits done
      → KeepsTo limits (done ++ entry ∷ [])
  limit_more done entry next le =
      let accepted = accepted_of (dropped (events_of done) entry.event) (verdict limits (world_after (events_of done)) entry.event) entry.reply next.answered
      in
      let world : world_after (events_of (done ++ entry ∷ [])) ≡ step (world_after (events_of done)) entry.event =
      ap world_after (events_more done entry) ∙ world_more (events_of done) entry.event in
      subst (λ (w : World). length w.places ≤ limits.sites) (sym world)
      (limit_step limits (world_after (events_of done)) entry.event entry.reply.made accepted.0 le)

  -- the places that a legal list requests
  pub legal_limit : (entries : List Entry) → IsLegal limits entries → length (world_after (events_of entries)).places ≤ limits.sites
  legal_limit entries legal = by_entries limits (KeepsTo limits) limit_more (omega arith) entries legal
