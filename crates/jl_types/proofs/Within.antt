-- No world after accepted events has more of a kind than the limits allow.
use Rattle.std.specs.Prelude.{◌≡◌, ℕ, ◌+◌, ◌<◌, ◌≤◌, nat_le, Bool, true, false, List, [], ◌∷◌, ◌++◌, length, slice_get, slice_set, set}
use Rattle.std.specs.Prelude.{Option, Some, None, Ok, option_map, option_to_list, find, is_some, is_none, not, ◌&&◌, ◌==◌}
use Rattle.std.specs.Bool.{then_some}
use Rattle.std.specs.Option.{option_map_or}
use Rattle.std.specs.List.{list_any}
use Rattle.std.specs.Str.{bytes_eq}
use Rattle.std.proofs.Common.{refl, ap, sym, ◌∙◌, subst, arith, length-append}
use Rattle.std.proofs.lemmas.Bool.{leb-false}
use Rattle.std.proofs.lemmas.List.{length-set}
use Rattle.jl_class.specs.Class.{ClassFile}
use Rattle.jl_class.specs.Flags.{object}
use Rattle.jl_types.specs.declared.limits.Limits.{Limits}
use Rattle.jl_types.specs.declared.event.EventOf.TheVariants as event
use Rattle.jl_types.specs.declared.event.Made.{Made}
use Rattle.jl_types.specs.declared.refusal.Refusal.{Refusal}
use Rattle.jl_types.specs.declared.refusal.Refusal.TheVariants as refusal
use Rattle.jl_types.specs.declared.refusal.CallSiteFault.TheVariants as fault
use Rattle.jl_types.specs.declared.refusal.DefineFault.TheVariants as define
use Rattle.jl_types.specs.Values.Target.{Target}
use Rattle.jl_types.specs.Values.World.{World, Classes, CallSite, nothing_yet, unreleased}
use Rattle.jl_types.specs.Values.Members.{lookup, is_interface}
use Rattle.jl_types.specs.Linkage.Targets.{target_fault}
use Rattle.jl_types.specs.Events.Event.{Event}
use Rattle.jl_types.specs.Events.Limits.{IsWithin}
use Rattle.jl_types.specs.Events.Definitions.{is_unknown, parent_names, named_test, is_final, is_open_parent, define_fault, with_record, class_made}
use Rattle.jl_types.specs.Events.Retirement.{emptied, retired}
use Rattle.jl_types.specs.Events.Verdict.{verdict, step, unless, new_call_site_fault, retargeted, invalidated, with_classes}
use Rattle.jl_types.specs.Events.History.{world_after, dropped}
use Rattle.jl_types.specs.Events.Entries.{Entry, IsEntry, IsLegal, events_of}
use Rattle.jl_types.proofs.Firsts.{first_none, test_none}
use Rattle.jl_types.proofs.Legal.{by_entries, events_more}
use Rattle.jl_types.proofs.Releasing.{length_without}
use Rattle.jl_types.proofs.Places.{limit_step, accepted_of, world_more}

-- ---- lists of which places change

length_record : (loaders : List (List (List ℕ × ℕ))) (loader : ℕ) (name : List ℕ) (c : ℕ) → length (with_record loaders loader name c) ≡ length loaders
length_record loaders loader name c = by_row (slice_get loaders loader)
  where
    by_row : (o : Option (List (List ℕ × ℕ))) → length (option_map_or (λ records. slice_set loaders loader (records ++ (name, c) ∷ [])) o loaders) ≡ length
        loaders
    by_row None = refl
    by_row (Some records) = length-set loaders loader (records ++ (name, c) ∷ [])

length_delegated : (loaders : List (List (List ℕ × ℕ))) (loader : ℕ) (name : List ℕ) (o : Option ℕ)
    → length (option_map_or (with_record loaders loader name) o loaders) ≡ length loaders
length_delegated loaders loader name None = refl
length_delegated loaders loader name (Some c) = length_record loaders loader name c

length_retargeted : (sites : List (Option CallSite)) (c : ℕ) (t : Target) → length (retargeted sites c t) ≡ length sites
length_retargeted sites c t = by_row (unreleased sites c)
  where
    by_row : (o : Option CallSite) → length (option_map_or (λ site. slice_set sites c (Some (record site { target = t }))) o sites) ≡ length sites
    by_row None = refl
    by_row (Some site) = length-set sites c (Some (record site { target = t }))

length_invalidated : (points : List ℕ) (switches : List (Option Bool)) → length (invalidated switches points) ≡ length switches
length_invalidated [] switches = refl
length_invalidated (p ∷ points) switches = length_invalidated points (set switches p (Some false)) ∙ length-set switches p (Some false)

-- ---- what an accepted event makes has room

no_refusal : (o : Option Refusal) (m given : Made) → unless o m ≡ Ok given → o ≡ None
no_refusal None m given e = refl
no_refusal (Some r) m given e = cc

not_mapped : {A : Type 0} (f : A → Refusal) (o : Option A) → option_map f o ≡ None → o ≡ None
not_mapped f None e = refl
not_mapped f (Some x) e = cc

pub room_below : {A : Type 0} (most n : ℕ) (x : A) → then_some (nat_le most n) x ≡ None → n < most
room_below most n x none = leb-false most n (test_none (nat_le most n) x none)

pub definition_has_room : (most : ℕ) (cs : Classes) (loader : ℕ) (file : ClassFile) → define_fault most cs loader file ≡ None → length cs.rows < most
definition_has_room most cs loader file e =
    let a = first_none (then_some (is_unknown cs loader) define.UnknownLoader) _ e in
    let b = first_none (then_some (bytes_eq file.name object && not (loader == 0)) define.SecondObject) _ a.1 in
    let c = first_none (then_some (is_some (lookup cs loader file.name)) define.AlreadyRecorded) _ b.1 in
    let d = first_none (then_some (list_any (bytes_eq file.name) (parent_names file)) define.NamesItself) _ c.1 in
    let f = first_none (option_map define.MissingParent (find (λ name. is_none (lookup cs loader name)) (parent_names file))) _ d.1 in
    let g = first_none (then_some (list_any (named_test (is_interface cs) cs loader) (option_to_list file.superclass)) define.SuperIsInterface) _ f.1 in
    let h = first_none (then_some (list_any (named_test (is_final cs) cs loader) (option_to_list file.superclass)) define.FinalSuper) _ g.1 in
    let i = first_none (option_map define.NotAnInterface (find (λ name. not (named_test (is_interface cs) cs loader name)) file.interfaces)) _ h.1 in
    let j = first_none (option_map define.InaccessibleParent (find (λ name. not (is_open_parent cs loader file name)) (parent_names file))) _ i.1 in
    let k = first_none (then_some (nat_le most (length cs.rows)) define.Full) [] j.1 in
    room_below most (length cs.rows) define.Full k.0

pub call_site_has_room : (most : ℕ) (w : World) (ty : List ℕ) (t : Target) → new_call_site_fault most w ty t ≡ None → length w.sites.call_sites < most
call_site_has_room most w ty t e =
    let full = first_none (then_some (nat_le most (length w.sites.call_sites)) fault.Full) (target_fault w (length w.sites.call_sites) ty t ∷ []) e in
    room_below most (length w.sites.call_sites) fault.Full full.0

-- ---- an event, and a legal list

pub length_emptied : (loaders : List ℕ) (found : List (List (List ℕ × ℕ))) → length (emptied found loaders) ≡ length found
length_emptied [] found = refl
length_emptied (l ∷ loaders) found = length_emptied loaders (slice_set found l []) ∙ length-set found l []

within_retired : (limits : Limits) (w : World) (loaders : List ℕ) → IsWithin limits w → IsWithin limits (with_classes w (retired w.classes loaders))
within_retired limits w loaders within =
    let few = within.loaders in
    record {
      sites = within.sites;
      loaders = omega (arith, few, length_emptied loaders w.classes.loaders);
      classes = within.classes;
      call_sites = within.call_sites;
      switches = within.switches;
    }

pub within_step : (limits : Limits) (w : World) (e : Event) (given : Made) → verdict limits w e ≡ Ok given → IsWithin limits w → IsWithin limits (step w e)
within_step limits w event.NewLoader given accepted within =
    let room = room_below limits.loaders (length w.classes.loaders) refusal.LoadersFull
    (no_refusal (then_some (nat_le limits.loaders (length w.classes.loaders)) refusal.LoadersFull) _ given accepted) in
    record {
      sites = within.sites;
      loaders = omega (arith, room, length-append w.classes.loaders ([] ∷ []));
      classes = within.classes;
      call_sites = within.call_sites;
      switches = within.switches;
    }
within_step limits w (event.Define loader file) given accepted within =
    let none = not_mapped refusal.Define (define_fault limits.classes w.classes loader file) (no_refusal _ _ given accepted) in
    let room = definition_has_room limits.classes w.classes loader file none in
    let few = within.loaders in
    record {
      sites = within.sites;
      loaders = omega (arith, few, length_record w.classes.loaders loader file.name (length w.classes.rows));
      classes = omega (arith, room, length-append w.classes.rows (class_made w.classes loader file ∷ []));
      call_sites = within.call_sites;
      switches = within.switches;
    }
within_step limits w (event.Delegate loader name to) given accepted within =
    let few = within.loaders in
    record {
      sites = within.sites;
      loaders = omega (arith, few, length_delegated w.classes.loaders loader name (lookup w.classes to name));
      classes = within.classes;
      call_sites = within.call_sites;
      switches = within.switches;
    }
within_step limits w (event.Request place) given accepted within =
    record {
      sites = limit_step limits w (event.Request place) given accepted within.sites;
      loaders = within.loaders;
      classes = within.classes;
      call_sites = within.call_sites;
      switches = within.switches;
    }
within_step limits w (event.NewCallSite kind ty t) given accepted within =
    let none = not_mapped refusal.CallSite (new_call_site_fault limits.call_sites w ty t) (no_refusal _ _ given accepted) in
    let room = call_site_has_room limits.call_sites w ty t none in
    record {
      sites = within.sites;
      loaders = within.loaders;
      classes = within.classes;
      call_sites = omega (arith, room, length-append w.sites.call_sites (Some (record { kind = kind; ty = ty; target = t }) ∷ []));
      switches = within.switches;
    }
within_step limits w (event.SetTarget c t) given accepted within =
    let few = within.call_sites in
    record {
      sites = within.sites;
      loaders = within.loaders;
      classes = within.classes;
      call_sites = omega (arith, few, length_retargeted w.sites.call_sites c t);
      switches = within.switches;
    }
within_step limits w event.NewSwitch given accepted within =
    let room = room_below limits.switches (length w.sites.switches) (refusal.CallSite fault.Full)
    (no_refusal (then_some (nat_le limits.switches (length w.sites.switches)) (refusal.CallSite fault.Full)) _ given accepted) in
    record {
      sites = within.sites;
      loaders = within.loaders;
      classes = within.classes;
      call_sites = within.call_sites;
      switches = omega (arith, room, length-append w.sites.switches (Some true ∷ []));
    }
within_step limits w (event.Invalidate points) given accepted within =
    let few = within.switches in
    record {
      sites = within.sites;
      loaders = within.loaders;
      classes = within.classes;
      call_sites = within.call_sites;
      switches = omega (arith, few, length_invalidated points w.sites.switches);
    }
within_step limits w (event.Bind s c) given accepted within =
    record {
      sites = within.sites;
      loaders = within.loaders;
      classes = within.classes;
      call_sites = within.call_sites;
      switches = within.switches;
    }
within_step limits w (event.Install rows) given accepted within = within
within_step limits w (event.Retire loader) given accepted within = within_retired limits w (loader ∷ []) within
within_step limits w (event.RetireAll loaders) given accepted within = within_retired limits w loaders within
within_step limits w (event.Release call_sites points) given accepted within =
    let some = within.call_sites in
    let few = within.switches in
    record {
      sites = within.sites;
      loaders = within.loaders;
      classes = within.classes;
      call_sites = omega (arith, some, length_without call_sites w.sites.call_sites);
      switches = omega (arith, few, length_without points w.sites.switches);
    }

pub within_at_first : (limits : Limits) → 1 ≤ limits.loaders → IsWithin limits nothing_yet
within_at_first limits some = record {
  sites = omega arith;
  loaders = some;
  classes = omega arith;
  call_sites = omega arith;
  switches = omega arith;
}

module _ (limits : Limits) where
  within_more : (done : List Entry) (entry : Entry) → IsEntry limits (events_of done) entry → IsWithin limits (world_after (events_of done))
      → IsWithin limits (world_after (events_of (done ++ entry ∷ [])))
  within_more done entry next within =
      let accepted = accepted_of (dropped (events_of done) entry.event) (verdict limits (world_after (events_of done)) entry.event) entry.reply next.answered
      in
      subst (IsWithin limits) (sym (ap world_after (events_more done entry) ∙ world_more (events_of done) entry.event))
      (within_step limits (world_after (events_of done)) entry.event entry.reply.made accepted.0 within)

  pub legal_within : 1 ≤ limits.loaders → (entries : List Entry) → IsLegal limits entries → IsWithin limits (world_after (events_of entries))
  legal_within some entries legal =
      by_entries limits (λ entries. IsWithin limits (world_after (events_of entries))) within_more (within_at_first limits some) entries legal
