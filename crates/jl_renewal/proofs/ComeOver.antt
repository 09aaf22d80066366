-- What the laws of a renewal say, of every core whose events were accepted.
use Rattle.std.specs.Prelude.{◌≡◌, ◌↔◌, ◌&&◌, ℕ, zero, suc, Bool, true, false, List, [], ◌∷◌, ◌++◌, fold, map, filter_map, drop, take, length, not}
use Rattle.std.specs.Prelude.{◌==◌, slice_get, Option, Some, None, Result, Ok, Err, IsOk, Contains}
use Rattle.std.specs.Prelude.{option_map, option_and_then, option_to_list}
use Rattle.std.specs.Bool.{then_some}
use Rattle.std.specs.Option.{option_map_or}
use Rattle.std.specs.List.{list_all, cons_option, range_with_len}
use Rattle.std.proofs.Common.{refl, sym, ap, subst, subst₂, ◌∙◌, arith}
use Rattle.std.proofs.lemmas.Bool.{and_parts}
use Rattle.std.proofs.lemmas.Option.{same_Some}
use Rattle.std.proofs.lemmas.List.Folds.{list_all-append}
use Rattle.jl_types.specs.declared.limits.Limits.{Limits}
use Rattle.jl_types.specs.declared.answer.Unlinked.{Unlinked}
use Rattle.jl_types.specs.declared.event.EventOf.TheVariants as event
use Rattle.jl_types.specs.declared.link.Link.{Link}
use Rattle.jl_types.specs.Values.World.{World, CallSite, nothing_yet, unreleased}
use Rattle.jl_types.specs.Linkage.Links.{scratch}
use Rattle.jl_types.specs.Events.Event.{Event}
use Rattle.jl_types.specs.Events.Verdict.{verdict, step}
use Rattle.jl_types.specs.Events.History.{world_after, installed_links}
use Rattle.jl_types.specs.Values.Ancestry.{AreOrdered}
use Rattle.jl_types.proofs.Orders.{world_good}
use Rattle.jl_types.proofs.Installed.{installed_to, settled_now}
use Rattle.jl_types.proofs.InstalledLinks.{links_are}
use Rattle.jl_relink.specs.Laws.{AreAccepted, has_read_file, IsInOrder}
use Rattle.jl_relink.proofs.InOrder.{accepted_in_order}
use Rattle.jl_core.specs.State.{State, events, world_of, links_of}
use Rattle.jl_core.specs.Logs.{Entry}
use Rattle.jl_renewal.specs.declared.released.Released.{Released}
use Rattle.jl_renewal.specs.Numbers.{Numbers, new_number, renumbered_target}
use Rattle.jl_renewal.specs.Staying.{numbers_of, staying_sites, staying_call_sites}
use Rattle.jl_renewal.specs.Renewal.{definer, class_event, new_loaders, new_switches, new_call_site, new_call_sites, request, binding, invalid_points}
use Rattle.jl_renewal.specs.Renewal.{invalidation, site_events, renewal, renewal_fault, AreBatches, fresh_rows, logged, IsRefilled, IsRenewal, CameFrom}
use Rattle.jl_renewal.specs.Renewed.{renewed, renumbered_link, renumbered_result}
use Rattle.jl_renewal.specs.Adds.{Follow, Installs}
use Rattle.jl_renewal.specs.Moved.{HaveSameLinks}
use Rattle.jl_renewal.proofs.Fit.{IsFit}
use Rattle.jl_renewal.proofs.Alike.{AreAlike}
use Rattle.jl_renewal.proofs.AlikeLaws.{are_alike}
use Rattle.jl_renewal.proofs.EmbedLaws.{embeds}
use Rattle.jl_renewal.proofs.NumberLaws.{renumbered_is, some_stays, some_is}
use Rattle.jl_renewal.proofs.ClassPhase.{loaders_after}
use Rattle.jl_renewal.proofs.FitLaws.{fit_after}
use Rattle.jl_renewal.proofs.LinkLaws.{links_come}
use Rattle.jl_renewal.proofs.QuietLaws.{IsQuiet, is_quiet}
use Rattle.jl_renewal.proofs.ScratchLaws.{scratch_same}
use Rattle.jl_renewal.proofs.LinkClasses.{linked_alive}
use Rattle.jl_renewal.proofs.RenewedSites.{is_set, sites_alike}
use Rattle.jl_renewal.proofs.RenewalPhases.{renewal_leads}
use Rattle.jl_renewal.proofs.RoomLaws.{as_many, has_as_many, has_room}

same_ok : (l m : Link) → ◌≡◌ {A = Result Link Unlinked} (Ok l) (Ok m) → l ≡ m
same_ok l m e = ap linked e
  where
    linked : Result Link Unlinked → Link
    linked (Ok x) = x
    linked (Err reason) = l

-- ---- each event of a list that is accepted

pub each_follows : (limits : Limits) (w : World) (es : List Event) → Follow limits w es
    → (k : ℕ) (e : Event) → slice_get es k ≡ Some e → IsOk (verdict limits (fold step w (take k es)) e)
each_follows limits w [] follow k e at = cc
each_follows limits w (f ∷ es) follow zero e at = subst (λ (x : Event). IsOk (verdict limits w x)) (same_Some f e at) follow.0
each_follows limits w (f ∷ es) follow (suc k) e at = each_follows limits (step w f) es follow.1 k e at

-- ---- the files of a renewal are read ones

abbrev AreRead : List Event → Type 0
AreRead es = list_all has_read_file es ≡ true

read_both : (es fs : List Event) → AreRead es → AreRead fs → AreRead (es ++ fs)
read_both es fs first second = list_all-append has_read_file es fs ∙ (λ i. first i && second i)

read_some : {A : Type 0} (f : A → Option Event) → ((x : A) → option_map_or has_read_file (f x) true ≡ true) → (xs : List A) → AreRead (filter_map f xs)
read_some f each [] = refl
read_some f each (x ∷ xs) = by_event (f x) (each x) (read_some f each xs)
  where
    by_event : (o : Option Event) → option_map_or has_read_file o true ≡ true → AreRead (filter_map f xs) → AreRead (cons_option o (filter_map f xs))
    by_event None first rest = rest
    by_event (Some e) first rest = λ i. first i && rest i

read_map : {A : Type 0} (g : A → Event) → ((a : A) → has_read_file (g a) ≡ true) → (o : Option A) → option_map_or has_read_file (option_map g o) true ≡ true
read_map g each None = refl
read_map g each (Some a) = each a

read_then : {A : Type 0} (g : A → Option Event) → ((a : A) → option_map_or has_read_file (g a) true ≡ true) → (o : Option A)
    → option_map_or has_read_file (option_and_then g o) true ≡ true
read_then g each None = refl
read_then g each (Some a) = each a

read_class : (w : World) (n : Numbers) (e : Event) → has_read_file e ≡ true → option_map_or has_read_file (class_event w n e) true ≡ true
read_class w n event.NewLoader is = refl
read_class w n (event.Define loader file) is = read_map (λ l. event.Define l file) (λ l. is) (new_number n.loaders loader)
read_class w n (event.Delegate loader name to) is =
    read_then (λ l. option_map (event.Delegate l name) (option_and_then (new_number n.loaders) (definer w.classes loader name)))
    (λ l. read_map (event.Delegate l name) (λ d. refl) (option_and_then (new_number n.loaders) (definer w.classes loader name)))
    (new_number n.loaders loader)
read_class w n (event.Request place) is = refl
read_class w n (event.NewCallSite kind ty t) is = refl
read_class w n (event.SetTarget c t) is = refl
read_class w n event.NewSwitch is = refl
read_class w n (event.Invalidate points) is = refl
read_class w n (event.Bind s c) is = refl
read_class w n (event.Install rows) is = refl
read_class w n (event.Retire loader) is = refl
read_class w n (event.RetireAll loaders) is = refl
read_class w n (event.Release call_sites points) is = refl

read_classes : (w : World) (n : Numbers) (es : List Event) → AreRead es → AreRead (filter_map (class_event w n) es)
read_classes w n [] all = refl
read_classes w n (e ∷ es) all =
    let parts = and_parts (has_read_file e) (list_all has_read_file es) all in
    by_event (class_event w n e) (read_class w n e parts.0) (read_classes w n es parts.1)
  where
    by_event : (o : Option Event) → option_map_or has_read_file o true ≡ true → AreRead (filter_map (class_event w n) es)
        → AreRead (cons_option o (filter_map (class_event w n) es))
    by_event None first rest = rest
    by_event (Some f) first rest = λ i. first i && rest i

read_sites : (w : World) (n : Numbers) → AreRead (site_events w n)
read_sites w n =
    read_both (new_switches n.switches) (invalidation (invalid_points w.sites n) ++ later)
    (read_some (option_map (λ (m : ℕ). event.NewSwitch)) (λ number. read_map (λ (m : ℕ). event.NewSwitch) (λ m. refl) number) n.switches)
    (read_both (invalidation (invalid_points w.sites n)) later (of_points (not (length (invalid_points w.sites n) == 0)) (invalid_points w.sites n))
    (read_both (new_call_sites w.sites n) (filter_map (request n) w.places ++ filter_map (binding n) w.bindings)
    (read_some (new_call_site w.sites n)
    (λ c. read_then
    (λ (k : ℕ). option_map (λ (site : CallSite). event.NewCallSite site.kind site.ty (renumbered_target n site.target)) (unreleased w.sites.call_sites c))
    (λ k. read_map (λ (site : CallSite). event.NewCallSite site.kind site.ty (renumbered_target n site.target)) (λ site. refl)
    (unreleased w.sites.call_sites c))
    (new_number n.call_sites c)) (range_with_len 0 (length w.sites.call_sites)))
    (read_both (filter_map (request n) w.places) (filter_map (binding n) w.bindings)
    (read_some (request n) (λ place. read_map (λ (c : ℕ). event.Request (record place { class = c })) (λ c. refl) (new_number n.classes place.class)) w.places)
    (read_some (binding n)
    (λ b. read_then (λ (s : ℕ). option_map (event.Bind s) (new_number n.call_sites b.1))
    (λ s. read_map (event.Bind s) (λ c. refl) (new_number n.call_sites b.1)) (new_number n.sites b.0)) w.bindings))))
  where
    later : List Event
    later = new_call_sites w.sites n ++ (filter_map (request n) w.places ++ filter_map (binding n) w.bindings)

    of_points : (b : Bool) (points : List ℕ) → AreRead (option_to_list (then_some b (event.Invalidate points)))
    of_points true points = refl
    of_points false points = refl

-- ---- a core whose events were accepted

module _ (old : State) (released : Released) (accepted : AreAccepted old.limits (events old)) where
  abbrev w : World
  w = world_of old

  abbrev n : Numbers
  n = numbers_of w released

  order : IsInOrder w
  order = accepted_in_order old.limits (events old) accepted

  pub fit : IsFit w
  fit = fit_after old.limits (events old) accepted.each

  pub renewal_world : world_after (renewal old released) ≡ renewed w released
  renewal_world =
      (renewal_leads old released accepted.each order.classes.closed (as_many w released) (has_as_many w released)).after

  pub alike : AreAlike n w.classes (renewed w released).classes
  alike =
      are_alike n w.classes (renewed w released).classes
      (embeds w released fit order.classes.closed order.classes.ordered
      (let more = loaders_after (events old) nothing_yet in omega (arith, more))
      (subst (λ (v : World). AreOrdered v.classes.rows) renewal_world (world_good (renewal old released)).ordered))

  pub renewal_accepted : (limits : Limits) → renewal_fault limits w released ≡ None → AreAccepted limits (renewal old released)
  renewal_accepted limits fits = record {
    each = each_follows limits nothing_yet (renewal old released)
        (renewal_leads old released accepted.each order.classes.closed limits (has_room limits w released fits)).follow;
    files =
        read_both (new_loaders n.loaders) (filter_map (class_event w n) (events old) ++ site_events w n)
        (read_some (option_map (λ (m : ℕ). event.NewLoader)) (λ number. read_map (λ (m : ℕ). event.NewLoader) (λ m. refl) number) (drop 1 n.loaders))
        (read_both (filter_map (class_event w n) (events old)) (site_events w n) (read_classes w n (events old) accepted.files) (read_sites w n));
  }

  -- the link that a site had is there, under new numbers
  module _ (s k : ℕ) (m : Link) (had : Contains (links_of old) (s, m)) (has : new_number n.sites s ≡ Some k) where
    now : scratch w s ≡ Ok m
    now = settled_now (events old) s m (installed_to (events old) s m ((links_are (events old) s m).1 had))

    pub comes : scratch (renewed w released) k ≡ Ok (renumbered_link n m)
    comes =
        let stays = some_stays (staying_sites w.classes w.places) s k has in
        ap (scratch (renewed w released)) (some_is (staying_sites w.classes w.places) s k has ∙ sym (renumbered_is (staying_sites w.classes w.places) s stays))
        ∙ (scratch_same n w (renewed w released) (is_set (staying_call_sites w released)) (sites_alike w released fit alike) s (linked_alive w fit s m now)
        ∙ ap (renumbered_result n) now)

  -- a fresh core that has accepted events which install nothing and lead to what stays, and then the links
  module _ (h : List Event) (quiet : (k : ℕ) → IsQuiet k h) (leads : world_after h ≡ renewed w released) (batches : List (List (ℕ × Link)))
      (are : AreBatches batches (fresh_rows (world_after h) n (links_of old))) (k : ℕ) (l : Link) where
    abbrev now_linked : List (ℕ × Link)
    now_linked = installed_links (h ++ map event.Install batches)

    come : Contains now_linked (k, l) → CameFrom (links_of old) n k l
    come c =
        let both = (links_come h n (links_of old) batches are k (quiet k) l).0 c in
        record {
          site = both.0.site;
          link = both.0.link;
          had = both.0.had;
          has = both.0.has;
          same = same_ok l (renumbered_link n both.0.link)
              (sym both.1 ∙ (ap (λ (v : World). scratch v k) leads ∙ comes both.0.site k both.0.link both.0.had both.0.has));
        }

    go : CameFrom (links_of old) n k l → Contains now_linked (k, l)
    go came =
        (links_come h n (links_of old) batches are k (quiet k) l).1 (
          record { site = came.site; link = came.link; had = came.had; has = came.has },
          ap (λ (v : World). scratch v k) leads ∙ (comes came.site k came.link came.had came.has ∙ ap Ok (sym came.same)),
        )

    links_are_those : Contains now_linked (k, l) ↔ CameFrom (links_of old) n k l
    links_are_those = (come, go)

  -- so it is after a renewal
  pub links_are_these : (fresh : State) (limits : Limits) (numbers : Numbers) → IsRenewal old released limits (fresh, numbers)
      → HaveSameLinks old fresh numbers
  links_are_these fresh limits numbers is k l =
      subst₂ (λ (es : List Event) (m : Numbers). Contains (installed_links es) (k, l) ↔ CameFrom (links_of old) m k l) (sym is.events) (sym is.numbers)
      (links_are_those (renewal old released) (λ j. is_quiet j w n (events old)) renewal_world is.batches is.are_batches k l)

  -- and after a refill whose links were installed
  pub links_are_refilled : (before between fresh : State) (entries : List Entry) (numbers : Numbers) → IsRefilled w entries released numbers before between
      → Installs (fresh_rows (world_of between) numbers (links_of old)) between fresh → HaveSameLinks old fresh numbers
  links_are_refilled before between fresh entries numbers refilled installs k l =
      subst₂ (λ (es : List Event) (m : Numbers). Contains (installed_links es) (k, l) ↔ CameFrom (links_of old) m k l)
      (sym installs.adds.events) (sym refilled.numbers)
      (links_are_those (events between)
      (λ j. subst (IsQuiet j) (sym refilled.events) (is_quiet j w n (events (logged before.limits w entries))))
      refilled.world installs.batches
      (subst (λ (m : Numbers). AreBatches installs.batches (fresh_rows (world_of between) m (links_of old))) refilled.numbers installs.are_batches) k l)
