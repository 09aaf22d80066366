-- Once the classes are there, the fresh core comes to have what stays: switch points, call sites, places and bindings.
use Rattle.std.specs.Prelude.{◌≡◌, List, [], ◌++◌, fold, filter_map}
use Rattle.std.proofs.Common.{refl, subst, arith, append_assoc}
use Rattle.std.proofs.lemmas.List.{length-map}
use Rattle.jl_types.specs.declared.ids.Place.{Place}
use Rattle.jl_types.specs.declared.limits.Limits.{Limits}
use Rattle.jl_types.specs.Values.World.{World}
use Rattle.jl_types.specs.Values.Members.{is_present}
use Rattle.jl_types.specs.Events.Event.{Event}
use Rattle.jl_types.specs.Events.Verdict.{step}
use Rattle.jl_renewal.specs.declared.released.Released.{Released}
use Rattle.jl_renewal.specs.Numbers.{Numbers}
use Rattle.jl_renewal.specs.Staying.{numbers_of, staying_sites, staying_switches}
use Rattle.jl_renewal.specs.Renewal.{new_switches, invalid_points, invalidation, new_call_sites, request, binding, site_events}
use Rattle.jl_renewal.specs.Renewed.{renewed}
use Rattle.jl_renewal.specs.Adds.{Follow}
use Rattle.jl_renewal.proofs.Fit.{IsFit}
use Rattle.jl_renewal.proofs.Phases.{Leads, leads_on}
use Rattle.jl_renewal.proofs.StayLaws.{switches_length, switch_there}
use Rattle.jl_renewal.proofs.SwitchPhase.{switches_lead}
use Rattle.jl_renewal.proofs.CallSitePhase.{call_sites_lead}
use Rattle.jl_renewal.proofs.PlacePhase.{places_lead}
use Rattle.jl_renewal.proofs.BindingPhase.{bindings_lead}
use Rattle.jl_renewal.proofs.RoomLaws.{HasRoom}
use Rattle.jl_renewal.proofs.NumberLaws.{many_staying}

-- the fresh core once its classes are there
abbrev pub only_classes : World → Released → World
only_classes w released = record {
  classes = (renewed w released).classes;
  places = [];
  bindings = [];
  sites = record { call_sites = []; switches = [] };
}

module _ (limits : Limits) (w : World) (released : Released) (fit : IsFit w) (room : HasRoom limits w released) where
  abbrev n : Numbers
  n = numbers_of w released

  abbrev fresh : World
  fresh = renewed w released

  abbrev with_switches : World
  with_switches = record (only_classes w released) { sites = record { call_sites = []; switches = fresh.sites.switches } }

  abbrev with_call_sites : World
  with_call_sites = record (only_classes w released) { sites = fresh.sites }

  abbrev with_places : World
  with_places = record fresh { bindings = [] }

  pub sites_lead : Leads limits (only_classes w released) (site_events w n) fresh
  sites_lead =
      let total = switches_length w released in
      let switches = switches_lead limits fresh.classes w.sites n (staying_switches w released) refl total (switch_there w released) room.switches in
      let as_many = many_staying (staying_sites w.classes w.places) w.places (length-map w.places (λ (place : Place). is_present w.classes place.class)) in
      let few = room.sites in
      let at_places = leads_on limits with_call_sites with_places fresh (filter_map (request n) w.places) (filter_map (binding n) w.bindings)
      (places_lead limits w released fresh.sites fit (omega (arith, as_many, few))) (bindings_lead limits w released fit) in
      let at_call_sites = leads_on limits with_switches with_call_sites fresh (new_call_sites w.sites n)
      (filter_map (request n) w.places ++ filter_map (binding n) w.bindings)
      (call_sites_lead limits w released fit room.call_sites) at_places in
      subst (λ (es : List Event). Leads limits (only_classes w released) es fresh)
      (append_assoc (new_switches n.switches) (invalidation (invalid_points w.sites n))
      (new_call_sites w.sites n ++ (filter_map (request n) w.places ++ filter_map (binding n) w.bindings)))
      (leads_on limits (only_classes w released) with_switches fresh
      (new_switches n.switches ++ invalidation (invalid_points w.sites n))
      (new_call_sites w.sites n ++ (filter_map (request n) w.places ++ filter_map (binding n) w.bindings))
      switches at_call_sites)

  -- each event for what isn't a class is accepted
  pub sites_follow : Follow limits (only_classes w released) (site_events w n)
  sites_follow = sites_lead.follow

  -- and they lead to what stays
  pub sites_are : fold step (only_classes w released) (site_events w n) ≡ renewed w released
  sites_are = sites_lead.after
