-- Why no fresh core is made.
use Rattle.std.specs.Prelude.{◌≡◌, ◌≤◌, ℕ, zero, suc, nat_lt, Bool, false, List, [], ◌∷◌, ◌++◌, take, drop, length, None}
use Rattle.std.specs.Bool.{then_some}
use Rattle.std.proofs.Common.{refl, sym, ap, subst, ◌∙◌, arith, inl, inr}
use Rattle.std.proofs.lemmas.Bool.Decides.{nat_tests}
use Rattle.std.proofs.lemmas.List.{length-drop, length-map, take-append-drop}
use Rattle.std.proofs.lemmas.Option.{none-some, same_Some}
use Rattle.jl_types.specs.declared.event.EventOf.TheVariants as event
use Rattle.jl_types.specs.declared.limits.Limits.{Limits}
use Rattle.jl_types.specs.declared.link.Link.{Link}
use Rattle.jl_types.specs.declared.refusal.Refusal.{Refusal}
use Rattle.jl_types.specs.declared.refusal.Refusal.TheVariants.{Memory, SitesFull, LoadersFull, Define, CallSite}
use Rattle.jl_types.specs.declared.refusal.DefineFault.TheVariants as define
use Rattle.jl_types.specs.declared.refusal.CallSiteFault.TheVariants as fault
use Rattle.jl_types.specs.Linkage.Resolution.{first_of}
use Rattle.jl_types.specs.Values.Members.{is_present}
use Rattle.jl_types.specs.Values.World.{World}
use Rattle.jl_types.specs.Events.Event.{Event}
use Rattle.jl_types.specs.Events.Limits.{AreAllowed, AreNoFewer}
use Rattle.jl_types.specs.Events.Verdict.{verdict}
use Rattle.jl_types.specs.Events.History.{world_after}
use Rattle.jl_types.proofs.InstalledLinks.{links_rise}
use Rattle.jl_relink.specs.Laws.{AreAccepted}
use Rattle.jl_relink.proofs.InOrder.{accepted_in_order}
use Rattle.jl_core.specs.State.{State, empty_core, events, world_of, links_of}
use Rattle.jl_core.specs.Logs.{Entry, shown}
use Rattle.jl_renewal.specs.declared.released.Released.{Released}
use Rattle.jl_renewal.specs.Numbers.{Numbers, how_many}
use Rattle.jl_renewal.specs.Staying.{numbers_of, staying_loaders, staying_classes, staying_sites, staying_call_sites, staying_switches}
use Rattle.jl_renewal.specs.Renewal.{AreBatches, fresh_rows, renewal_fault}
use Rattle.jl_renewal.specs.Told.{told_renewal}
use Rattle.jl_renewal.specs.Carries.{IsRefusedIn}
use Rattle.jl_renewal.specs.Adds.{AreFresh, MayAdd, StopsAt}
use Rattle.jl_renewal.proofs.InstallLaws.{rest_fresh, batch_accepted, rows_fresh}
use Rattle.jl_renewal.proofs.LinkLaws.{same_world}
use Rattle.jl_renewal.proofs.NumberLaws.{many_fewer}
use Rattle.jl_renewal.proofs.RenewalPhases.{renewal_leads}
use Rattle.jl_renewal.proofs.RoomLaws.{HasRoom, has_room, only_sites, accepted_within}
use Rattle.jl_renewal.proofs.StopLaws.{not_both, lacks_memory}
use Rattle.jl_host.specs.Renewing.{Start, Renewing, IsUnmade, IsUnready}
use Rattle.jl_host.specs.Renewals.{limits_for}
use Rattle.jl_host.specs.UnderWay.{start_of, IsUnderWay}
use Rattle.jl_host.proofs.UnderWayLinks.{few_places, listed_links}
use Rattle.jl_host.proofs.UnderWayMade.{told_is}

abbrev Row : Type 0
Row = ℕ × Link

-- ---- links that are left

batches_of : (n : ℕ) (rows : List Row) → length rows ≤ n → (batches : List (List Row)) × AreBatches batches rows
batches_of n [] le = ([], refl)
batches_of zero (row ∷ rows) le = absurd (omega (arith, le))
batches_of (suc n) (row ∷ rows) le =
    let left = length-drop 256 (row ∷ rows) in
    let rest = batches_of n (drop 256 (row ∷ rows)) (omega (arith, le, left)) in
    (take 256 (row ∷ rows) ∷ rest.0, (omega arith, refl, rest.1))

rest_of : (w : World) (batches others : List (List Row)) (rows : List Row) → AreFresh w rows → AreBatches (batches ++ others) rows
    → (rest : List Row) × AreFresh w rest × AreBatches others rest
rest_of w [] others rows fresh are = (rows, fresh, are)
rest_of w (batch ∷ batches) others rows fresh are = rest_of w batches others (drop 256 rows) (rest_fresh w rows fresh 256) are.2

same_rows : (batches : List (List Row)) (xs ys : List Row) → AreBatches batches xs → AreBatches batches ys → xs ≡ ys
same_rows [] xs ys a b = a ∙ sym b
same_rows (batch ∷ batches) xs ys a b =
    let first : take 256 xs ≡ take 256 ys = sym a.1 ∙ b.1 in
    let rest = same_rows batches (drop 256 xs) (drop 256 ys) a.2 b.2 in
    sym (take-append-drop 256 xs) ∙ ((λ i. first i ++ rest i) ∙ take-append-drop 256 ys)

left_fresh : (w : World) (batches : List (List Row)) (rows left : List Row) → AreFresh w rows
    → ((others : List (List Row)) → AreBatches others left → AreBatches (batches ++ others) rows) → AreFresh w left
left_fresh w batches rows left fresh are =
    let made = batches_of (length left) left (omega arith) in
    let rest = rest_of w batches made.0 rows fresh (are made.0 made.1) in
    subst (λ (xs : List Row). AreFresh w xs) (sym (same_rows made.0 left rest.0 made.1 rest.2)) rest.1

-- the next of them is refused for want of memory alone
left_refused : (core : State) (r : Refusal) (left : List Row) → 1 ≤ length left → AreFresh (world_of core) left
    → IsRefusedIn core (event.Install (take 256 left)) r → r ≡ Memory
left_refused core r left some fresh (inl lacks) = lacks
left_refused core r left some fresh (inr refused) =
    absurd (not_both (verdict core.limits (world_of core) (event.Install (take 256 left))) r refused
    (batch_accepted (world_of core) left fresh core.limits some))

install_stops : (rows : List Row) (between after : State) (r : Refusal) → AreFresh (world_of between) rows → StopsAt rows between after r
    → r ≡ Memory
install_stops rows between after r fresh stops =
    let same : world_of after ≡ world_of between =
    ap world_after stops.front.adds.events ∙ same_world (events between) stops.front.batches in
    left_refused after r stops.left stops.some
    (subst (λ (w : World). AreFresh w stops.left) (sym same)
    (left_fresh (world_of between) stops.front.batches rows stops.left fresh stops.front.are_batches))
    stops.refused

-- ---- no fresh core

enough : {A : Type 0} (most n : ℕ) (x : A) → n ≤ most → then_some (nat_lt most n) x ≡ None
enough most n x le = ap (λ (b : Bool). then_some b x) less
  where
    less : nat_lt most n ≡ false
    less = grind (arith, nat_tests, le)

module _ (begun : State) (released : Released) (past : List Entry) (limits : Limits) (accepted : AreAccepted begun.limits (events begun))
    (allowed : AreAllowed begun.limits) (limit : AreNoFewer begun.limits limits) (logged : shown (world_of begun).classes.rows past ≡ begun.log) where
  abbrev w : World
  w = world_of begun

  abbrev n : Numbers
  n = numbers_of w released

  few : how_many (staying_sites w.classes w.places) ≤ begun.limits.sites
  few =
      let a = many_fewer (staying_sites w.classes w.places) in
      let b = length-map w.places (λ place. is_present w.classes place.class) in
      let c = few_places begun accepted in
      omega (arith, a, b, c)

  -- no more of a kind stay than the old core may have
  were_few : HasRoom (limits_for begun begun.limits.sites) w released
  were_few =
      has_room (limits_for begun begun.limits.sites) w released
      (only_sites begun.limits begun.limits.sites w released (accepted_within begun.limits allowed.some_loaders (events begun) accepted.each)
      ∙ enough begun.limits.sites (how_many (staying_sites w.classes w.places)) SitesFull few)

  room : HasRoom limits w released
  room = record {
    sites = let a = were_few.sites in let b = limit.sites in omega (arith, a, b);
    loaders = let a = were_few.loaders in let b = limit.loaders in omega (arith, a, b);
    classes = let a = were_few.classes in let b = limit.classes in omega (arith, a, b);
    call_sites = let a = were_few.call_sites in let b = limit.call_sites in omega (arith, a, b);
    switches = let a = were_few.switches in let b = limit.switches in omega (arith, a, b);
  }

  fits : renewal_fault limits w released ≡ None
  fits =
      let sites = enough limits.sites (how_many (staying_sites w.classes w.places)) SitesFull room.sites in
      let loaders = enough limits.loaders (how_many (staying_loaders w.classes)) LoadersFull room.loaders in
      let classes = enough limits.classes (how_many (staying_classes w.classes)) (Define define.Full) room.classes in
      let call_sites = enough limits.call_sites (how_many (staying_call_sites w released)) (CallSite fault.Full) room.call_sites in
      let switches = enough limits.switches (how_many (staying_switches w released)) (CallSite fault.Full) room.switches in
      λ i. first_of (sites i ∷ loaders i ∷ classes i ∷ call_sites i ∷ switches i ∷ [])

  may_add : MayAdd (told_renewal w n past) (empty_core limits)
  may_add =
      subst (λ (es : List Event). MayAdd es (empty_core limits))
      (sym (told_is begun released past logged))
      (renewal_leads begun released accepted.each (accepted_in_order begun.limits (events begun) accepted).classes.closed
      limits room).follow

  rows_made : (between : State) (m : Numbers) → m ≡ n → AreFresh (world_of between) (fresh_rows (world_of between) m (links_of begun))
  rows_made between m same =
      rows_fresh (world_of between) m (staying_sites w.classes w.places) (ap (λ (numbers : Numbers). numbers.sites) same) (links_of begun)
      (links_rise (events begun))

  unmade : (r : Refusal) → IsUnmade (start_of begun past released) limits r → r ≡ Memory
  unmade r (inl (after, inl (inl full, same))) = absurd (none-some r (sym fits ∙ full))
  unmade r (inl (after, inl (inr lacks, same))) = lacks
  unmade r (inl (after, inr stopped)) = lacks_memory (told_renewal w n past) (empty_core limits) after r may_add stopped
  unmade r (inr (inl lacks)) = lacks
  unmade r (inr (inr stopped)) =
      install_stops (fresh_rows (world_of stopped.1) stopped.0 (links_of begun)) stopped.1 stopped.2 r (rows_made stopped.1 stopped.0 stopped.3.numbers)
      (subst (λ (rows : List Row). StopsAt (fresh_rows (world_of stopped.1) stopped.0 rows) stopped.1 stopped.2 r)
      (listed_links begun accepted) stopped.4)

pub why_unready : (begun : State) (released : Released) (core : State) (renewing : Renewing) (r : Refusal) → IsUnderWay begun released core renewing
    → IsUnready renewing r → r ≡ Memory
why_unready begun released core renewing r way unready = elim way.phase [
  | inl first ↦
      unmade begun released first.past renewing.limits first.accepted first.allowed first.limit first.entries.events r
      (subst (λ (start : Start). IsUnmade start renewing.limits r)
      (same_Some unready.0 (start_of begun first.past released) (sym unready.1 ∙ first.start)) unready.2)
  | inr second ↦ absurd (none-some unready.0 (sym second.start ∙ unready.1))
]
