-- A fresh core that stands beside the old one has the links of that, under new numbers.
use Rattle.std.specs.Prelude.{◌≡◌, ◌≢◌, ◌==◌, ◌||◌, ◌<◌, ℕ, not, Bool, true, false, All, AllPairs, Contains, List, [], ◌∷◌, map, length}
use Rattle.std.specs.Prelude.{get_or, slice_get, Option, Some, None, option_map, option_and_then, is_some, is_ok, Result, Ok, IsOk}
use Rattle.std.specs.Option.{option_map_or, unwrap_or}
use Rattle.std.specs.List.{AllByRecursion, list_any, cons_option}
use Rattle.std.proofs.Common.{refl, sym, ap, subst, ◌∙◌, arith}
use Rattle.std.proofs.lemmas.Bool.Decides.{Decides-eqb}
use Rattle.std.proofs.lemmas.List.{length-map, get_or-map}
use Rattle.std.proofs.lemmas.List.Elements.{All-map, recursion_from_All}
use Rattle.std.proofs.lemmas.Option.{same_Some, slice_get_within, slice_get-map}
use Rattle.jl_types.specs.declared.ids.Place.{Place}
use Rattle.jl_types.specs.declared.event.EventOf.TheVariants as event
use Rattle.jl_types.specs.declared.event.Made.TheVariants as made
use Rattle.jl_types.specs.declared.event.Reply.{Reply}
use Rattle.jl_types.specs.declared.answer.Unlinked.{Unlinked}
use Rattle.jl_types.specs.declared.link.Link.{Link}
use Rattle.jl_types.specs.declared.link.Link.TheVariants.{Mega}
use Rattle.jl_types.specs.declared.refusal.Refusal.{Refusal}
use Rattle.jl_types.specs.Values.World.{World, Class}
use Rattle.jl_types.specs.Values.Members.{is_present, is_retired}
use Rattle.jl_types.specs.Linkage.Links.{scratch}
use Rattle.jl_types.specs.Events.Event.{Event}
use Rattle.jl_types.specs.Events.History.{installs, installed, kept, world_after}
use Rattle.jl_types.specs.Events.Verdict.{verdict, unless, install_fault, Accepts}
use Rattle.jl_types.proofs.Accepting.{accepted_installs}
use Rattle.jl_types.proofs.Bools.{first_test}
use Rattle.jl_types.proofs.Installed.{installed_to, settled_now}
use Rattle.jl_types.proofs.InstalledLinks.{links_are, installed_requested, requested}
use Rattle.jl_types.proofs.Lists.{passes_within}
use Rattle.jl_types.proofs.OneMore.{installed_step}
use Rattle.jl_events.proofs.CallSiteLaws.{no_fault as no_refusal}
use Rattle.jl_core.specs.State.{State, events, world_of, links_of, IsAccepted}
use Rattle.jl_renewal.specs.Numbers.{Numbers, new_number, renumbered}
use Rattle.jl_renewal.specs.Staying.{is_in_staying_class, is_alive}
use Rattle.jl_renewal.specs.Renewal.{row_of, fresh_row, fresh_rows, CameFrom}
use Rattle.jl_renewal.specs.Renewed.{renumbered_link, renumbered_result}
use Rattle.jl_renewal.specs.Carries.{carried}
use Rattle.jl_renewal.specs.Moved.{Flags, Rests, moved, kept as those_kept, moved_place, moved_classes, moved_world, IsBeside}
use Rattle.jl_renewal.specs.Moved.{HaveSameLinks, HasNoOtherLinks, renumbered_install}
use Rattle.jl_renewal.proofs.InstallLaws.{adds_of}
use Rattle.jl_renewal.proofs.LinkClasses.{IsLinkThere, IsResultThere, scratch_there, linked_in_class, linked_alive, linked_there_alive}
use Rattle.jl_renewal.proofs.LinkNumbers.{kept_same, kept_only}
use Rattle.jl_renewal.proofs.MovedBeside.{beside_alike}
use Rattle.jl_renewal.proofs.MovedCarries.{number_at, there_number}
use Rattle.jl_renewal.proofs.MovedClasses.{present_stays, present_same}
use Rattle.jl_renewal.proofs.MovedLists.{clash, there_is, moved_onto, same_numbers, kept_at, shifted_is}
use Rattle.jl_renewal.proofs.QuietLaws.{of_carried}
use Rattle.jl_renewal.proofs.ScratchLaws.{scratch_same}

-- what has one number is one
moved_one : (stays : List Bool) (a b i : ℕ) → moved stays a ≡ Some i → moved stays b ≡ Some i → a ≡ b
moved_one stays a b i ea eb = (Decides-eqb a b).0 (sym (same_numbers stays a b i i ea eb) ∙ (Decides-eqb i i).1 refl)

-- what an event leaves of the link of a site
pub after_event : (a b : State) (e : Event) (reply : Reply) → IsAccepted a b e reply → (s : ℕ)
    → installed (events b) s ≡ kept (installs s e) (installed (events a) s) (scratch (world_of b) s)
after_event a b e reply accepted s =
    subst (λ (es : List Event). installed es s ≡ kept (installs s e) (installed (events a) s) (scratch (world_after es) s))
    (sym (adds_of e reply a b accepted).events) (installed_step (events a) e s)

module _ (k : Flags) (w : World) (rests : Rests k w) where
  -- a site that is in a present class there is in one here
  class_was : (s t : ℕ) → moved k.sites s ≡ Some t → is_in_staying_class (moved_world k w) t ≡ true → is_in_staying_class w s ≡ true
  class_was s t at kept_there = by_place (slice_get w.places s) refl (sym (ap is_there there) ∙ kept_there)
    where
      is_there : Option Place → Bool
      is_there o = option_map_or (λ place. is_present (moved_classes k w.classes) place.class) o false

      there : slice_get (moved_world k w).places t ≡ option_map (moved_place k) (slice_get w.places s)
      there = slice_get-map (moved_place k) (those_kept k.sites w.places) t ∙ ap (option_map (moved_place k)) (kept_at k.sites w.places s t at)

      by_place : (o : Option Place) → slice_get w.places s ≡ o → is_there (option_map (moved_place k) o) ≡ true
          → option_map_or (λ place. is_present w.classes place.class) o false ≡ true
      by_place None is e = e
      by_place (Some place) is e =
          let d = there_is (moved k.classes place.class) (sym (rests.sites s place is) ∙ ap is_some at) in
          sym (present_same k w rests place.class d.0 d.1)
          ∙ (ap (is_present (moved_classes k w.classes)) (sym (shifted_is k.classes place.class d.0 d.1)) ∙ e)

module _ (k : Flags) (old fresh : State) (n : Numbers) (beside : IsBeside k old fresh n) where
  abbrev w : World
  w = world_of old

  -- ---- numbers

  class_number : (c : ℕ) → is_present w.classes c ≡ true → (d : ℕ) × (moved k.classes c ≡ Some d) × (renumbered n.classes c ≡ d)
  class_number c present =
      let d = present_stays k w beside.rests c present in
      let lt = passes_within (λ (row : Class). not (is_retired w.classes row.loader)) w.classes.rows c present in (
        d.0,
        d.1,
        ap (λ (m : Numbers). renumbered m.classes c) beside.numbers
            ∙ ap (λ (o : Option ℕ). unwrap_or o 0) (number_at k.classes (length w.classes.rows) c lt ∙ d.1),
      )

  site_number : (s t : ℕ) → s < length w.places → moved k.sites s ≡ Some t → new_number n.sites s ≡ Some t
  site_number s t lt at = ap (λ (m : Numbers). new_number m.sites s) beside.numbers ∙ (number_at k.sites (length w.places) s lt ∙ at)

  pub number_moved : (s t : ℕ) → new_number n.sites s ≡ Some t → moved k.sites s ≡ Some t
  number_moved s t has =
      there_number k.sites (length w.places) s t (ap (λ (m : Numbers). new_number m.sites s) (sym beside.numbers) ∙ has)

  -- of a site in a present class
  site_of : (s : ℕ) → is_in_staying_class w s ≡ true → (t : ℕ) × (moved k.sites s ≡ Some t) × (new_number n.sites s ≡ Some t)
  site_of s stays = by_place (slice_get w.places s) refl stays
    where
      by_place : (o : Option Place) → slice_get w.places s ≡ o → option_map_or (λ place. is_present w.classes place.class) o false ≡ true
          → (t : ℕ) × (moved k.sites s ≡ Some t) × (new_number n.sites s ≡ Some t)
      by_place None is e = cc
      by_place (Some place) is e =
          let t = there_is (moved k.sites s) (beside.rests.sites s place is ∙ beside.rests.present place.class e) in
          (t.0, t.1, site_number s t.0 (slice_get_within w.places s place is) t.1)

  -- ---- links from scratch

  number_of : (s t : ℕ) → is_in_staying_class w s ≡ true → moved k.sites s ≡ Some t → renumbered n.sites s ≡ t
  number_of s t kept at = let u = site_of s kept in ap (λ (o : Option ℕ). unwrap_or o 0) u.2 ∙ same_Some u.0 t (sym u.1 ∙ at)

  pub commutes : (s t : ℕ) → is_alive w s ≡ true → moved k.sites s ≡ Some t → scratch (world_of fresh) t ≡ renumbered_result n (scratch w s)
  commutes s t alive at =
      ap (scratch (world_of fresh)) (sym (number_of s t (first_test (is_in_staying_class w s) _ alive) at))
      ∙ scratch_same n w (world_of fresh) (λ c. is_some (moved k.call_sites c)) (beside_alike k old fresh n beside) s alive

  -- a site that has a link isn't gone
  pub alive_of : (s : ℕ) (l : Link) → scratch w s ≡ Ok l → is_alive w s ≡ true
  alive_of s l is = linked_alive w (beside_alike k old fresh n beside).fit s l is

  -- nor is one that has a link there
  alive_there : (s t : ℕ) (l : Link) → is_in_staying_class w s ≡ true → moved k.sites s ≡ Some t → scratch (world_of fresh) t ≡ Ok l → is_alive w s ≡ true
  alive_there s t l kept at is =
      linked_there_alive n w (world_of fresh) (λ c. is_some (moved k.call_sites c)) (beside_alike k old fresh n beside) s l kept
      (ap (scratch (world_of fresh)) (number_of s t kept at) ∙ is)

  linked_there : (s : ℕ) (l : Link) → scratch w s ≡ Ok l → IsLinkThere w.classes l
  linked_there s l is =
      subst (λ (r : Result Link Unlinked). IsResultThere w.classes r) is
      (scratch_there n w (world_of fresh) (λ c. is_some (moved k.call_sites c)) (beside_alike k old fresh n beside) s)

  -- ---- installed links, site by site

  pub linked_now : (s : ℕ) (l : Link) → installed (events old) s ≡ Some l → scratch w s ≡ Ok l
  linked_now s l is = settled_now (events old) s l (installed_to (events old) s l is)

  -- what is installed there where each link is one of the old core's
  pub only_by_site : HasNoOtherLinks old fresh n → (s t : ℕ) → moved k.sites s ≡ Some t → (l : Link) → installed (events fresh) t ≡ Some l
      → option_map (renumbered_link n) (installed (events old) s) ≡ Some l
  only_by_site only s t at l e =
      let came = only t l ((links_are (events fresh) t l).0 e) in
      let had = (links_are (events old) came.site came.link).1 came.had in
      let one = moved_one k.sites came.site s t (number_moved came.site t came.has) at in
      ap (option_map (renumbered_link n)) (ap (installed (events old)) (sym one) ∙ had) ∙ ap Some (sym came.same)

  -- a link of the old core, as one that came from there
  pub come_from : (s t : ℕ) (l : Link) → moved k.sites s ≡ Some t → installed (events old) s ≡ Some l → CameFrom (links_of old) n t (renumbered_link n l)
  come_from s t l at is = record {
    site = s;
    link = l;
    had = (links_are (events old) s l).0 is;
    has = site_number s t (installed_requested (events old) s l is) at;
    same = refl;
  }

  -- and where those are all of them
  by_site : HaveSameLinks old fresh n → (s t : ℕ) → moved k.sites s ≡ Some t
      → installed (events fresh) t ≡ option_map (renumbered_link n) (installed (events old) s)
  by_site same s t at = by_link (installed (events old) s) refl
    where
      none_there : (q : Option Link) → installed (events old) s ≡ None → installed (events fresh) t ≡ q → q ≡ None
      none_there None is e = refl
      none_there (Some l) is e =
          clash l (sym (ap (option_map (renumbered_link n)) is) ∙ only_by_site (λ j m. (same j m).0) s t at l e)

      by_link : (o : Option Link) → installed (events old) s ≡ o → installed (events fresh) t ≡ option_map (renumbered_link n) o
      by_link None is = none_there (installed (events fresh) t) is refl
      by_link (Some l) is = (links_are (events fresh) t (renumbered_link n l)).1 ((same t (renumbered_link n l)).1 (come_from s t l at is))

  -- so much of the sites that aren't gone is enough
  pub no_others : ((s t : ℕ) → is_alive w s ≡ true → moved k.sites s ≡ Some t → (l : Link) → installed (events fresh) t ≡ Some l
      → option_map (renumbered_link n) (installed (events old) s) ≡ Some l) → HasNoOtherLinks old fresh n
  no_others each j l c = by_link (installed (events old) s) refl (each s j stays at l is)
    where
      is : installed (events fresh) j ≡ Some l
      is = (links_are (events fresh) j l).1 c

      s : ℕ
      s = (moved_onto k.sites j).0

      at : moved k.sites s ≡ Some j
      at = (moved_onto k.sites j).1

      now : scratch (world_of fresh) j ≡ Ok l
      now = settled_now (events fresh) j l (installed_to (events fresh) j l is)

      stays : is_alive w s ≡ true
      stays =
          alive_there s j l (class_was k w beside.rests s j at
          (subst (λ (v : World). is_in_staying_class v j ≡ true) beside.world (linked_in_class (world_of fresh) j l now))) at now

      by_link : (o : Option Link) → installed (events old) s ≡ o → option_map (renumbered_link n) o ≡ Some l → CameFrom (links_of old) n j l
      by_link None had e = clash l e
      by_link (Some m) had e = subst (CameFrom (links_of old) n j) (same_Some (renumbered_link n m) l e) (come_from s j m at had)

  all_links : ((s t : ℕ) → is_alive w s ≡ true → moved k.sites s ≡ Some t
      → installed (events fresh) t ≡ option_map (renumbered_link n) (installed (events old) s)) → HaveSameLinks old fresh n
  all_links each j l = (no_others (λ s t stays at m e. sym (each s t stays at) ∙ e) j l, go)
    where
      go : CameFrom (links_of old) n j l → Contains (links_of fresh) (j, l)
      go came =
          let is = (links_are (events old) came.site came.link).1 came.had in
          let stays = alive_of came.site came.link (linked_now came.site came.link is) in
          (links_are (events fresh) j l).0
          (each came.site j stays (number_moved came.site j came.has) ∙ (ap (option_map (renumbered_link n)) is ∙ ap Some (sym came.same)))

-- ---- one event in each core

module _ (k : Flags) (old after fresh fresh_after : State) (n m : Numbers) (beside : IsBeside k old fresh n) (later : IsBeside k after fresh_after m) where
  one : (c d : ℕ) → is_present (world_of old).classes c ≡ true → is_present (world_of after).classes d ≡ true
      → renumbered n.classes c ≡ renumbered m.classes d → c ≡ d
  one c d pc pd e =
      let x = class_number k old fresh n beside c pc in
      let y = class_number k after fresh_after m later d pd in
      moved_one k.classes c d y.0 (x.1 ∙ ap Some (sym x.2 ∙ (e ∙ y.2))) y.1

  still : (c : ℕ) → is_present (world_of old).classes c ≡ true → is_present (world_of after).classes c ≡ true → renumbered n.classes c ≡ renumbered m.classes c
  still c pc pd =
      let x = class_number k old fresh n beside c pc in
      let y = class_number k after fresh_after m later c pd in
      x.2 ∙ (same_Some x.0 y.0 (sym x.1 ∙ y.1) ∙ sym y.2)

  -- all classes that the links name are present
  old_there : (s : ℕ) (l : Link) → installed (events old) s ≡ Some l → IsLinkThere (world_of old).classes l
  old_there s l had = linked_there k old fresh n beside s l (linked_now k old fresh n beside s l had)

  after_there : (s : ℕ) → IsResultThere (world_of after).classes (scratch (world_of after) s)
  after_there s = scratch_there m (world_of after) (world_of fresh_after) (λ c. is_some (moved k.call_sites c)) (beside_alike k after fresh_after m later) s

  module _ (e f : Event) (reply there : Reply) (accepted : IsAccepted old after e reply) (accepted_there : IsAccepted fresh fresh_after f there)
      (tests : (s t : ℕ) → moved k.sites s ≡ Some t → installs t f ≡ installs s e) where
    -- what the event leaves of a link, there as here
    left_there : (s t : ℕ) → is_alive (world_of after) s ≡ true → moved k.sites s ≡ Some t
        → installed (events fresh_after) t ≡ kept (installs s e) (installed (events fresh) t) (renumbered_result m (scratch (world_of after) s))
    left_there s t stays at =
        after_event fresh fresh_after f there accepted_there t
        ∙ (λ i. kept (tests s t at i) (installed (events fresh) t) (commutes k after fresh_after m later s t stays at i))

    pub links_after : HaveSameLinks old fresh n → HaveSameLinks after fresh_after m
    links_after same =
        all_links k after fresh_after m later (λ s t stays at.
        left_there s t stays at
        ∙ (ap (λ (o : Option Link). kept (installs s e) o (renumbered_result m (scratch (world_of after) s))) (by_site k old fresh n beside same s t at)
        ∙ (kept_same n m (world_of old).classes (world_of after).classes one still (installs s e) (installed (events old) s) (scratch (world_of after) s)
        (old_there s) (after_there s)
        ∙ ap (option_map (renumbered_link m)) (sym (after_event old after e reply accepted s)))))

    pub no_others_after : HasNoOtherLinks old fresh n → HasNoOtherLinks after fresh_after m
    no_others_after only =
        no_others k after fresh_after m later (λ s t stays at l is.
        ap (option_map (renumbered_link m)) (after_event old after e reply accepted s)
        ∙ kept_only n m (world_of old).classes (world_of after).classes one still (installs s e) (installed (events old) s) (installed (events fresh) t)
        (scratch (world_of after) s) (only_by_site k old fresh n beside only s t at) (old_there s) (after_there s) l
        (sym (left_there s t stays at) ∙ is))

-- ---- an event that is carried over

-- it installs nothing, in either core
pub neither_installs : (n : Numbers) (e f : Event) → carried n e ≡ Some f → (s t : ℕ) → installs t f ≡ installs s e
neither_installs n e f carries s t = subst (λ (o : Option Event). option_map_or (installs t) o false ≡ false) carries (of_carried t n e) ∙ sym (calm e carries)
  where
    calm : (e : Event) → carried n e ≡ Some f → installs s e ≡ false
    calm event.NewLoader is = refl
    calm (event.Define loader file) is = refl
    calm (event.Delegate loader name to) is = refl
    calm (event.Request place) is = refl
    calm (event.NewCallSite kind ty target) is = refl
    calm (event.SetTarget c target) is = refl
    calm event.NewSwitch is = refl
    calm (event.Invalidate points) is = refl
    calm (event.Bind s c) is = refl
    calm (event.Install rows) is = cc
    calm (event.Retire loader) is = refl
    calm (event.RetireAll loaders) is = refl
    calm (event.Release call_sites points) is = refl

-- ---- an install

module _ (k : Flags) (old fresh : State) (n : Numbers) (beside : IsBeside k old fresh n) where
  abbrev v : World
  v = world_of fresh

  abbrev HasScratch : ℕ × Link → Type 0
  HasScratch row = scratch (world_of old) row.0 ≡ Ok row.1

  -- the new number of a row's site
  module _ (row : ℕ × Link) (now : HasScratch row) where
    alive : is_alive (world_of old) row.0 ≡ true
    alive = alive_of k old fresh n beside row.0 row.1 now

    number : (t : ℕ) × (moved k.sites row.0 ≡ Some t) × (new_number n.sites row.0 ≡ Some t)
    number = site_of k old fresh n beside row.0 (first_test (is_in_staying_class (world_of old) row.0) _ alive)

    number_is : renumbered n.sites row.0 ≡ number.0
    number_is = ap (λ (o : Option ℕ). unwrap_or o 0) number.2

    -- its link there
    now_there : scratch v number.0 ≡ Ok (renumbered_link n row.1)
    now_there = commutes k old fresh n beside row.0 number.0 alive number.1 ∙ ap (renumbered_result n) now

    row_is : fresh_row v n row ≡ Some (renumbered_install n row)
    row_is =
        ap (option_and_then (λ (s : ℕ). row_of s (scratch v s))) number.2
        ∙ (ap (row_of number.0) now_there ∙ ap (λ (t : ℕ). Some (t, renumbered_link n row.1)) (sym number_is))

  -- the rows that the fresh core is to install are those of the old one under new numbers
  rows_are : (rows : List (ℕ × Link)) → AllByRecursion HasScratch rows → fresh_rows v n rows ≡ map (renumbered_install n) rows
  rows_are [] all = refl
  rows_are (row ∷ rows) all =
      let first = row_is row all.0 in
      let rest = rows_are rows all.1 in
      λ i. cons_option (first i) (rest i)

  -- a site is among them where it was among those of the old one
  among_same : (s t : ℕ) → moved k.sites s ≡ Some t → (rows : List (ℕ × Link)) → AllByRecursion HasScratch rows
      → list_any (λ row. row.0 == t) (map (renumbered_install n) rows) ≡ list_any (λ row. row.0 == s) rows
  among_same s t at [] all = refl
  among_same s t at (row ∷ rows) all =
      let first = ap (λ (j : ℕ). j == t) (number_is row all.0) ∙ same_numbers k.sites row.0 s (number row all.0).0 t (number row all.0).1 at in
      let rest = among_same s t at rows all.1 in
      λ i. first i || rest i

  module _ (rows : List (ℕ × Link)) (ok : IsOk (verdict old.limits (world_of old) (event.Install rows))) where
    accepts : Accepts (world_of old) rows
    accepts = (accepted_installs (world_of old) old.limits rows).0
        (ap (λ (o : Option Refusal). unless o made.Nothing) (no_refusal (install_fault (world_of old) rows) made.Nothing ok))

    each : AllByRecursion HasScratch rows
    each = recursion_from_All HasScratch rows accepts.present

    pub rows_there : fresh_rows v n rows ≡ map (renumbered_install n) rows
    rows_there = rows_are rows each

    abbrev there : List (ℕ × Link)
    there = map (renumbered_install n) rows

    present_there : All (λ row. scratch v row.0 ≡ Ok row.1) there
    present_there =
        All-map (λ (row : ℕ × Link). scratch v row.0 ≡ Ok row.1) (renumbered_install n) rows (λ i d lt.
        let row = get_or rows i d in
        let now = accepts.present i d lt in
        ap (scratch v) (number_is row now) ∙ now_there row now)

    once_there : AllPairs (λ a b. a.0 ≢ b.0) there
    once_there i j d lt within same =
        let any : ℕ × Link = (0, Mega) in
        let long = length-map rows (renumbered_install n) in
        let after : j < length rows = omega (arith, within, long) in
        let before : i < length rows = omega (arith, lt, after) in
        let a = get_or rows i any in
        let b = get_or rows j any in
        let now_a = accepts.present i any before in
        let now_b = accepts.present j any after in
        let number_a = ap (λ (row : ℕ × Link). row.0) (get_or-map (renumbered_install n) rows i any d before) ∙ number_is a now_a in
        let number_b = ap (λ (row : ℕ × Link). row.0) (get_or-map (renumbered_install n) rows j any d after) ∙ number_is b now_b in
        accepts.once i j any lt after
        (moved_one k.sites a.0 b.0 (number b now_b).0
        ((number a now_a).1 ∙ ap Some (sym number_a ∙ (same ∙ number_b))) (number b now_b).1)

    -- and it accepts them
    pub install_accepted : IsOk (verdict fresh.limits v (event.Install (fresh_rows v n rows)))
    install_accepted =
        ap (λ (rs : List (ℕ × Link)). is_ok (verdict fresh.limits v (event.Install rs))) rows_there
        ∙ ap is_ok ((accepted_installs v fresh.limits there).1 (record {
          some = let le = accepts.some in let long = length-map rows (renumbered_install n) in omega (arith, le, long);
          few = let le = accepts.few in let long = length-map rows (renumbered_install n) in omega (arith, le, long);
          requested = λ i d lt. let row = get_or there i d in requested v row.0 row.1 (present_there i d lt);
          once = once_there;
          present = present_there;
        }))

    -- a site is installed there where it is here
    pub both_install : (s t : ℕ) → moved k.sites s ≡ Some t → installs t (event.Install (fresh_rows v n rows)) ≡ installs s (event.Install rows)
    both_install s t at = ap (list_any (λ (row : ℕ × Link). row.0 == t)) rows_there ∙ among_same s t at rows each
