-- What stays rests on what stays, whatever the old core accepts.
use Rattle.std.specs.Prelude.{◌≡◌, ℕ, ◌≤◌, ◌⊎◌, ◌||◌, not, nat_le, Bool, true, false, List, [], ◌∷◌, ◌++◌, length, slice_get, slice_set}
use Rattle.std.specs.Prelude.{Option, Some, None, is_some, is_none, Err, IsOk, if◌then◌else◌}
use Rattle.std.specs.Bool.{then_some}
use Rattle.std.specs.List.{list_any}
use Rattle.std.specs.Option.{option_map_or}
use Rattle.std.proofs.Common.{refl, sym, ap, subst, ◌∙◌, arith, inl, inr, length-append}
use Rattle.std.proofs.lemmas.Bool.{or_parts, or_from, or_left}
use Rattle.std.proofs.lemmas.List.Folds.{list_any-append}
use Rattle.jl_types.specs.declared.limits.Limits.{Limits}
use Rattle.jl_class.specs.Class.{ClassFile}
use Rattle.jl_types.specs.declared.ids.Place.{Place}
use Rattle.jl_types.specs.declared.event.EventOf.TheVariants as event
use Rattle.jl_types.specs.declared.refusal.Refusal.TheVariants as refusal
use Rattle.jl_types.specs.declared.refusal.DelegateFault.TheVariants as delegate
use Rattle.jl_types.specs.Values.Target.{Target}
use Rattle.jl_types.specs.Values.World.{World, Class, CallSite, unreleased}
use Rattle.jl_types.specs.Values.Members.{lookup, is_present, is_retired}
use Rattle.jl_types.specs.Linkage.Stages.{invocation_at}
use Rattle.jl_types.specs.Events.Event.{Event}
use Rattle.jl_types.specs.Events.Verdict.{verdict, step, same_place, if_invoked, retargeted, with_classes}
use Rattle.jl_types.specs.Events.Definitions.{define_fault, class_made, delegate_fault, is_unknown, with_record}
use Rattle.jl_types.specs.Events.Retirement.{is_of_any, emptied, retired}
use Rattle.jl_types.proofs.Firsts.{first_none, test_none}
use Rattle.jl_types.specs.Events.Release.{released_from}
use Rattle.jl_types.proofs.Releasing.{length_without}
use Rattle.jl_types.proofs.Retiring.{retired_after, present_after}
use Rattle.jl_types.proofs.Bools.{first_test}
use Rattle.jl_relink.proofs.Closing.{no_fault}
use Rattle.jl_renewal.specs.Moved.{Flags, Rests, moved}
use Rattle.jl_renewal.proofs.ClassSteps.{is_free}
use Rattle.jl_renewal.proofs.FitParts.{at_more}
use Rattle.jl_renewal.proofs.FitSites.{set_at}
use Rattle.jl_renewal.proofs.ReleasedRows.{length_invalidated}
use Rattle.jl_renewal.proofs.MovedLists.{later_stays, length_set, length_emptied}
use Rattle.jl_renewal.proofs.MovedClasses.{found_stays, live_stays}

abbrev Records : Type 0
Records = List (List ℕ × ℕ)

pub record_length : (loaders : List Records) (l : ℕ) (name : List ℕ) (c : ℕ) → length (with_record loaders l name c) ≡ length loaders
record_length loaders l name c = by_loader (slice_get loaders l)
  where
    by_loader : (o : Option Records) → length (option_map_or (λ records. slice_set loaders l (records ++ (name, c) ∷ [])) o loaders) ≡ length loaders
    by_loader None = refl
    by_loader (Some records) = length_set loaders l (records ++ (name, c) ∷ [])

-- a loader finds what it found, or nothing
emptied_at : (found : List Records) (loaders : List ℕ) (k : ℕ) (records : Records) → slice_get (emptied found loaders) k ≡ Some records
    → (slice_get found k ≡ Some records) ⊎ (records ≡ [])
emptied_at found [] k records at = inl at
emptied_at found (l ∷ loaders) k records at = by_rest (emptied_at (slice_set found l []) loaders k records at)
  where
    by_rest : (slice_get (slice_set found l []) k ≡ Some records) ⊎ (records ≡ []) → (slice_get found k ≡ Some records) ⊎ (records ≡ [])
    by_rest (inl before) = elim (set_at found l [] k records before) [ inl first ↦ inl first | inr new ↦ inr (sym new.1) ]
    by_rest (inr new) = inr new

none_is : (o : Option ℕ) → is_some o ≡ true → is_none o ≡ false
none_is None e = cc
none_is (Some a) e = refl

module _ (k : Flags) (w : World) (rests : Rests k w) where
  -- ---- records

  -- a record more, of a class that stays
  recorded_more : (loader : ℕ) (name : List ℕ) (c : ℕ) → is_some (moved k.classes c) ≡ true → (l m : ℕ) (records : Records) → moved k.loaders l ≡ Some m
      → slice_get (with_record w.classes.loaders loader name c) l ≡ Some records → list_any (λ r. is_none (moved k.classes r.1)) records ≡ false
  recorded_more loader name c stays l m records e at = by_loader (slice_get w.classes.loaders loader) refl at
    where
      more_kept : (olds : Records) → slice_get w.classes.loaders loader ≡ Some olds → loader ≡ l
          → list_any (λ r. is_none (moved k.classes r.1)) (olds ++ (name, c) ∷ []) ≡ false
      more_kept olds is same =
          list_any-append (λ (r : List ℕ × ℕ). is_none (moved k.classes r.1)) olds ((name, c) ∷ [])
          ∙ or_from (list_any (λ r. is_none (moved k.classes r.1)) olds) (is_none (moved k.classes c) || false)
          (rests.recorded l m olds e (ap (slice_get w.classes.loaders) (sym same) ∙ is))
          (or_from (is_none (moved k.classes c)) false (none_is (moved k.classes c) stays) refl)

      by_loader : (o : Option Records) → slice_get w.classes.loaders loader ≡ o
          → slice_get (option_map_or (λ records. slice_set w.classes.loaders loader (records ++ (name, c) ∷ [])) o w.classes.loaders) l ≡ Some records
          → list_any (λ r. is_none (moved k.classes r.1)) records ≡ false
      by_loader None is at = rests.recorded l m records e at
      by_loader (Some olds) is at = elim (set_at w.classes.loaders loader (olds ++ (name, c) ∷ []) l records at) [
        | inl before ↦ rests.recorded l m records e before
        | inr new ↦ subst (λ (rs : Records). list_any (λ r. is_none (moved k.classes r.1)) rs ≡ false) new.1 (more_kept olds is new.0)
      ]

  -- ---- classes

  rests_with_loader : Rests k (step w event.NewLoader)
  rests_with_loader = record {
    few_loaders = let long = length-append w.classes.loaders ([] ∷ []) in let few = rests.few_loaders in omega (arith, long, few);
    few_classes = rests.few_classes;
    few_sites = rests.few_sites;
    few_call_sites = rests.few_call_sites;
    few_switches = rests.few_switches;
    first = rests.first;
    gone = rests.gone;
    present = rests.present;
    owned = rests.owned;
    recorded = λ l m records e at. elim (at_more w.classes.loaders [] l records at) [
      | inl before ↦ rests.recorded l m records e before
      | inr new ↦ subst (λ (rs : Records). list_any (λ r. is_none (moved k.classes r.1)) rs ≡ false) new.1 refl
    ];
    sites = rests.sites;
  }

  module _ (loader : ℕ) (file : ClassFile) (known : is_unknown w.classes loader ≡ false) where
    live : is_retired w.classes loader ≡ false
    live = (or_parts (nat_le (length w.classes.loaders) loader) (is_retired w.classes loader) known).1

    abbrev last : ℕ
    last = length w.classes.rows

    last_stays : is_some (moved k.classes last) ≡ true
    last_stays = later_stays k.classes last rests.few_classes

    rests_defined : Rests k (step w (event.Define loader file))
    rests_defined = record {
      few_loaders = let long = record_length w.classes.loaders loader file.name last in let few = rests.few_loaders in omega (arith, long, few);
      few_classes = let long = length-append w.classes.rows (class_made w.classes loader file ∷ []) in let few = rests.few_classes in omega (arith, long, few);
      few_sites = rests.few_sites;
      few_call_sites = rests.few_call_sites;
      few_switches = rests.few_switches;
      first = rests.first;
      gone = rests.gone;
      present = λ c is. by_row c (slice_get (w.classes.rows ++ class_made w.classes loader file ∷ []) c) refl is;
      owned = λ c row at stays. elim (at_more w.classes.rows (class_made w.classes loader file) c row at) [
        | inl before ↦ rests.owned c row before stays
        | inr new ↦ subst (λ (r : Class). is_some (moved k.loaders r.loader) ≡ true) new.1 (ap is_some (live_stays k w rests loader live).1)
      ];
      recorded = recorded_more loader file.name last last_stays;
      sites = rests.sites;
    }
      where
        by_row : (c : ℕ) (o : Option Class) → slice_get (w.classes.rows ++ class_made w.classes loader file ∷ []) c ≡ o
            → option_map_or (λ row. not (is_retired w.classes row.loader)) o false ≡ true → is_some (moved k.classes c) ≡ true
        by_row c None at is = cc
        by_row c (Some row) at is = elim (at_more w.classes.rows (class_made w.classes loader file) c row at) [
          | inl before ↦ rests.present c (ap (λ (o : Option Class). option_map_or (λ row. not (is_retired w.classes row.loader)) o false) before ∙ is)
          | inr new ↦ ap (λ (n : ℕ). is_some (moved k.classes n)) new.0 ∙ last_stays
        ]

  module _ (loader : ℕ) (name : List ℕ) (to : ℕ) (known : is_unknown w.classes to ≡ false) where
    rests_delegated : Rests k (step w (event.Delegate loader name to))
    rests_delegated = by_class (lookup w.classes to name) refl
      where
        with_loaders : (loaders : List Records) → length loaders ≡ length w.classes.loaders
            → ((l m : ℕ) (records : Records) → moved k.loaders l ≡ Some m → slice_get loaders l ≡ Some records
            → list_any (λ r. is_none (moved k.classes r.1)) records ≡ false)
            → Rests k (record w { classes = record w.classes { loaders = loaders } })
        with_loaders loaders long all = record {
          few_loaders = let few = rests.few_loaders in omega (arith, long, few);
          few_classes = rests.few_classes;
          few_sites = rests.few_sites;
          few_call_sites = rests.few_call_sites;
          few_switches = rests.few_switches;
          first = rests.first;
          gone = rests.gone;
          present = rests.present;
          owned = rests.owned;
          recorded = all;
          sites = rests.sites;
        }

        by_class : (o : Option ℕ) → lookup w.classes to name ≡ o
            → Rests k (record w { classes = record w.classes { loaders = option_map_or (with_record w.classes.loaders loader name) o w.classes.loaders } })
        by_class None is = with_loaders w.classes.loaders refl rests.recorded
        by_class (Some c) is =
            let live = live_stays k w rests to (or_parts (nat_le (length w.classes.loaders) to) (is_retired w.classes to) known).1 in
            let stays = found_stays k w rests to live.0 live.1 name c is in
            with_loaders (with_record w.classes.loaders loader name c) (record_length w.classes.loaders loader name c)
            (recorded_more loader name c (ap is_some stays.1))

  rests_retired : (loaders : List ℕ) → Rests k (with_classes w (retired w.classes loaders))
  rests_retired loaders = record {
    few_loaders = let long = length_emptied w.classes.loaders loaders in let few = rests.few_loaders in omega (arith, long, few);
    few_classes = rests.few_classes;
    few_sites = rests.few_sites;
    few_call_sites = rests.few_call_sites;
    few_switches = rests.few_switches;
    first = rests.first;
    gone = λ l none. retired_after w.classes loaders l ∙ or_left (is_retired w.classes l) _ (rests.gone l none);
    present = λ c is. rests.present c
        (first_test (is_present w.classes c) (not (is_of_any w.classes loaders c)) (sym (present_after w.classes loaders c) ∙ is));
    owned = rests.owned;
    recorded = λ l m records e at. elim (emptied_at w.classes.loaders loaders l records at) [
      | inl before ↦ rests.recorded l m records e before
      | inr new ↦ subst (λ (rs : Records). list_any (λ r. is_none (moved k.classes r.1)) rs ≡ false) (sym new) refl
    ];
    sites = rests.sites;
  }

  -- ---- sites

  with_places : (places : List Place) → length w.places ≤ length places
      → ((s : ℕ) (place : Place) → slice_get places s ≡ Some place → is_some (moved k.sites s) ≡ is_some (moved k.classes place.class))
      → Rests k (record w { places = places })
  with_places places more all = record {
    few_loaders = rests.few_loaders;
    few_classes = rests.few_classes;
    few_sites = let few = rests.few_sites in omega (arith, more, few);
    few_call_sites = rests.few_call_sites;
    few_switches = rests.few_switches;
    first = rests.first;
    gone = rests.gone;
    present = rests.present;
    owned = rests.owned;
    recorded = rests.recorded;
    sites = all;
  }

  rests_requested : (limits : Limits) (place : Place) → IsOk (verdict limits w (event.Request place)) → Rests k (step w (event.Request place))
  rests_requested limits place accepted = by_test (list_any (same_place place) w.places)
    where
      by_class : (b : Bool) → is_present w.classes place.class ≡ b
          → IsOk (if b then if_invoked limits w place (invocation_at w.classes place) else Err refusal.UnknownClass)
          → is_some (moved k.classes place.class) ≡ true
      by_class true is ok = rests.present place.class is
      by_class false is ok = cc

      by_test : (b : Bool) → Rests k (record w { places = if b then w.places else w.places ++ place ∷ [] })
      by_test true = with_places w.places (omega arith) rests.sites
      by_test false =
          let long = length-append w.places (place ∷ []) in
          with_places (w.places ++ place ∷ []) (omega (arith, long))
          (λ s other at. elim (at_more w.places place s other at) [
            | inl before ↦ rests.sites s other before
            | inr new ↦
                ap (λ (n : ℕ). is_some (moved k.sites n)) new.0
                ∙ (later_stays k.sites (length w.places) rests.few_sites
                ∙ (sym (by_class (is_present w.classes place.class) refl accepted) ∙ ap (λ (p : Place). is_some (moved k.classes p.class)) new.1))
          ])

  with_call_sites : (call_sites : List (Option CallSite)) → length w.sites.call_sites ≤ length call_sites
      → Rests k (record w { sites = record w.sites { call_sites = call_sites } })
  with_call_sites call_sites more = record {
    few_loaders = rests.few_loaders;
    few_classes = rests.few_classes;
    few_sites = rests.few_sites;
    few_call_sites = let few = rests.few_call_sites in omega (arith, more, few);
    few_switches = rests.few_switches;
    first = rests.first;
    gone = rests.gone;
    present = rests.present;
    owned = rests.owned;
    recorded = rests.recorded;
    sites = rests.sites;
  }

  with_switches : (switches : List (Option Bool)) → length w.sites.switches ≤ length switches
      → Rests k (record w { sites = record w.sites { switches = switches } })
  with_switches switches more = record {
    few_loaders = rests.few_loaders;
    few_classes = rests.few_classes;
    few_sites = rests.few_sites;
    few_call_sites = rests.few_call_sites;
    few_switches = let few = rests.few_switches in omega (arith, more, few);
    first = rests.first;
    gone = rests.gone;
    present = rests.present;
    owned = rests.owned;
    recorded = rests.recorded;
    sites = rests.sites;
  }

  -- numbers are kept
  rests_released : (call_sites points : List ℕ) → Rests k (record w { sites = released_from w.sites call_sites points })
  rests_released call_sites points = record {
    few_loaders = rests.few_loaders;
    few_classes = rests.few_classes;
    few_sites = rests.few_sites;
    few_call_sites = let long = length_without call_sites w.sites.call_sites in let few = rests.few_call_sites in omega (arith, long, few);
    few_switches = let long = length_without points w.sites.switches in let few = rests.few_switches in omega (arith, long, few);
    first = rests.first;
    gone = rests.gone;
    present = rests.present;
    owned = rests.owned;
    recorded = rests.recorded;
    sites = rests.sites;
  }

  with_bindings : (bindings : List (ℕ × ℕ)) → Rests k (record w { bindings = bindings })
  with_bindings bindings = record {
    few_loaders = rests.few_loaders;
    few_classes = rests.few_classes;
    few_sites = rests.few_sites;
    few_call_sites = rests.few_call_sites;
    few_switches = rests.few_switches;
    first = rests.first;
    gone = rests.gone;
    present = rests.present;
    owned = rests.owned;
    recorded = rests.recorded;
    sites = rests.sites;
  }

  retargeted_length : (c : ℕ) (t : Target) → length w.sites.call_sites ≤ length (retargeted w.sites.call_sites c t)
  retargeted_length c t = by_site (unreleased w.sites.call_sites c)
    where
      by_site : (o : Option CallSite) → length w.sites.call_sites
          ≤ length (option_map_or (λ site. slice_set w.sites.call_sites c (Some (record site { target = t }))) o w.sites.call_sites)
      by_site None = omega arith
      by_site (Some site) = let long = length_set w.sites.call_sites c (Some (record site { target = t })) in omega (arith, long)

  -- ---- each event

  pub rests_after : (limits : Limits) (e : Event) → IsOk (verdict limits w e) → Rests k (step w e)
  rests_after limits event.NewLoader accepted = rests_with_loader
  rests_after limits (event.Define loader file) accepted =
      rests_defined loader file
      (is_free limits.classes w.classes loader file (no_fault refusal.Define (define_fault limits.classes w.classes loader file) _ accepted)).known
  rests_after limits (event.Delegate loader name to) accepted =
      let none = no_fault refusal.Delegate (delegate_fault w.classes loader name to) _ accepted in
      let unknown = first_none (then_some (is_unknown w.classes loader || is_unknown w.classes to) delegate.UnknownLoader) _ none in
      rests_delegated loader name to (or_parts (is_unknown w.classes loader) (is_unknown w.classes to) (test_none _ delegate.UnknownLoader unknown.0)).1
  rests_after limits (event.Request place) accepted = rests_requested limits place accepted
  rests_after limits (event.NewCallSite kind ty t) accepted =
      let made : CallSite = record { kind = kind; ty = ty; target = t } in
      let long = length-append w.sites.call_sites (Some made ∷ []) in
      with_call_sites (w.sites.call_sites ++ Some made ∷ []) (omega (arith, long))
  rests_after limits (event.SetTarget c t) accepted = with_call_sites (retargeted w.sites.call_sites c t) (retargeted_length c t)
  rests_after limits event.NewSwitch accepted =
      let long = length-append w.sites.switches (Some true ∷ []) in with_switches (w.sites.switches ++ Some true ∷ []) (omega (arith, long))
  rests_after limits (event.Invalidate points) accepted =
      let long = length_invalidated w.sites.switches points in
      with_switches (step w (event.Invalidate points)).sites.switches (omega (arith, long))
  rests_after limits (event.Bind s c) accepted = with_bindings (w.bindings ++ (s, c) ∷ [])
  rests_after limits (event.Install rows) accepted = rests
  rests_after limits (event.Retire loader) accepted = rests_retired (loader ∷ [])
  rests_after limits (event.RetireAll loaders) accepted = rests_retired loaders
  rests_after limits (event.Release call_sites points) accepted = rests_released call_sites points
