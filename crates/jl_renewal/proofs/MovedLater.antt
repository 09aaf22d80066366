-- Links of the old core that are installed later in a fresh one that stands beside it.
use Rattle.std.specs.Prelude.{◌≡◌, ◌==◌, ℕ, zero, suc, Bool, true, false, Contains, List, [], ◌∷◌, ◌++◌, map, length, Option, Some, None, option_map}
use Rattle.std.specs.Prelude.{Result, Ok, Err, if◌then◌else◌}
use Rattle.std.specs.Option.{option_map_or}
use Rattle.std.specs.List.{list_any}
use Rattle.std.proofs.Common.{refl, sym, ap, subst, ◌∙◌}
use Rattle.jl_types.specs.declared.event.EventOf.TheVariants as event
use Rattle.jl_types.specs.declared.event.Made.{Made}
use Rattle.jl_types.specs.declared.event.Made.TheVariants as made
use Rattle.jl_types.specs.declared.event.Reply.{Reply}
use Rattle.jl_types.specs.declared.answer.Unlinked.{Unlinked}
use Rattle.jl_types.specs.declared.link.Link.{Link}
use Rattle.jl_types.specs.ForProofs.SameLink.{link_decides}
use Rattle.jl_types.specs.Values.World.{World}
use Rattle.jl_types.specs.Linkage.Links.{scratch, same_link}
use Rattle.jl_types.specs.Events.Event.{Event}
use Rattle.jl_types.specs.Events.History.{installs, installed, kept, world_after}
use Rattle.jl_types.proofs.Installed.{installed_to, settled_now, kept_link}
use Rattle.jl_types.proofs.InstalledLinks.{links_are}
use Rattle.jl_core.specs.State.{State, events, world_of, links_of, IsAccepted}
use Rattle.jl_core.specs.Logs.{Entry}
use Rattle.jl_renewal.specs.declared.released.Released.{Released}
use Rattle.jl_renewal.specs.Numbers.{Numbers, new_number}
use Rattle.jl_renewal.specs.Staying.{numbers_of}
use Rattle.jl_renewal.specs.Renewal.{fresh_rows, logged, IsRefilled, CameFrom}
use Rattle.jl_renewal.specs.Renewed.{renumbered_link, renumbered_result}
use Rattle.jl_renewal.specs.Adds.{HasCome, Adds, Installs, InstallsFront}
use Rattle.jl_renewal.specs.Carries.{carried, made_number, with_made, IsMade}
use Rattle.jl_renewal.specs.Moved.{Flags, IsBeside, HaveSameLinks, HasNoOtherLinks, HasLinksOf}
use Rattle.jl_renewal.proofs.FollowLaws.{world_added}
use Rattle.jl_renewal.proofs.InstallLaws.{adds_of}
use Rattle.jl_renewal.proofs.LinkLaws.{same_world, after_batches, in_rows, in_front, came_from, goes_to}
use Rattle.jl_renewal.proofs.MovedBeside.{beside_as, beside_passed}
use Rattle.jl_renewal.proofs.MovedLinks.{after_event, number_moved, commutes, alive_of, linked_now, only_by_site, no_others}
use Rattle.jl_renewal.proofs.MovedLists.{clash}
use Rattle.jl_renewal.proofs.QuietLaws.{IsQuiet, is_quiet, of_carried, none_there}

-- one of the old core alone
pub no_others_passed : (k : Flags) (old after fresh : State) (n : Numbers) (rows : List (ℕ × Link)) (reply : Reply) → IsBeside k old fresh n
    → HasNoOtherLinks old fresh n → IsAccepted old after (event.Install rows) reply → HasNoOtherLinks after fresh n
no_others_passed k old after fresh n rows reply beside only accepted =
    no_others k after fresh n later (λ s t stays at l is.
    by_link s (installed (events old) s) refl l (only_by_site k old fresh n beside only s t at l is))
  where
    later : IsBeside k after fresh n
    later = beside_passed k old fresh n beside rows after reply accepted

    same_world : world_of after ≡ world_of old
    same_world = world_added (event.Install rows ∷ []) old after (adds_of (event.Install rows) reply old after accepted)

    -- a link that is there stays
    stays_linked : (b : Bool) (l : Link) → kept b (Some l) (Ok l) ≡ Some l
    stays_linked true l = refl
    stays_linked false l = kept_link l

    by_link : (s : ℕ) (o : Option Link) → installed (events old) s ≡ o → (l : Link) → option_map (renumbered_link n) o ≡ Some l
        → option_map (renumbered_link n) (installed (events after) s) ≡ Some l
    by_link s None had l e = clash l e
    by_link s (Some m) had l e =
        ap (option_map (renumbered_link n))
        (after_event old after (event.Install rows) reply accepted s
        ∙ ((λ i. kept (installs s (event.Install rows)) (had i)
        ((ap (λ (w : World). scratch w s) same_world ∙ linked_now k old fresh n beside s m had) i))
        ∙ stays_linked (installs s (event.Install rows)) m))
        ∙ e

-- ---- links at sites that had one

-- a link that is there and isn't installed was there
kept_was : (o : Option Link) (r : Result Link Unlinked) (l : Link) → kept false o r ≡ Some l → o ≡ Some l
kept_was o (Err reason) l e = cc
kept_was None (Ok m) l e = cc
kept_was (Some j) (Ok m) l e = by_test (same_link j m) refl e
  where
    by_test : (b : Bool) → same_link j m ≡ b → ◌≡◌ {A = Option Link} (if b then Some m else None) (Some l) → Some j ≡ Some l
    by_test true is e = ap Some ((link_decides j m).0 is) ∙ e
    by_test false is e = cc

-- installs of such sites
module _ (linked : List (ℕ × Link)) (before after : State) (n : Numbers) (batches : List (List (ℕ × Link)))
    (adds : Adds (map event.Install batches) before after)
    (come : (t : ℕ) → list_any (list_any (λ row. row.0 == t)) batches ≡ true → HasCome linked n t) where
  is_now : (t : ℕ) → installed (events after) t
      ≡ kept (list_any (list_any (λ row. row.0 == t)) batches) (installed (events before) t) (scratch (world_of before) t)
  is_now t = ap (λ (es : List Event). installed es t) adds.events ∙ after_batches t batches (events before)

  still_of : HasLinksOf linked before n → HasLinksOf linked after n
  still_of had t l c = by_test (list_any (list_any (λ row. row.0 == t)) batches) refl (sym (is_now t) ∙ (links_are (events after) t l).1 c)
    where
      by_test : (b : Bool) → list_any (list_any (λ row. row.0 == t)) batches ≡ b
          → kept b (installed (events before) t) (scratch (world_of before) t) ≡ Some l → HasCome linked n t
      by_test true row e = come t row
      by_test false row e =
          had t l ((links_are (events before) t l).0 (kept_was (installed (events before) t) (scratch (world_of before) t) l e))

pub some_installed : (linked left : List (ℕ × Link)) (before after : State) (n : Numbers) → HasLinksOf linked before n
    → InstallsFront (fresh_rows (world_of before) n linked) left before after → HasLinksOf linked after n
some_installed linked left before after n had front =
    still_of linked before after n front.batches front.adds
    (λ t row. came_from (world_of before) n t linked (in_front t front.batches (fresh_rows (world_of before) n linked) left front.are_batches row)) had

-- what has a number keeps it
module _ (n : Numbers) (s t : ℕ) where
  still_at : (numbers : List (Option ℕ)) (more : Option ℕ) (s : ℕ) → new_number numbers s ≡ Some t → new_number (numbers ++ more ∷ []) s ≡ Some t
  still_at [] more s e = cc
  still_at (number ∷ numbers) more zero e = e
  still_at (number ∷ numbers) more (suc s) e = still_at numbers more s e

  still_noted : (old : Made) (new : Option ℕ) → new_number n.sites s ≡ Some t → new_number (with_made n old new).sites s ≡ Some t
  still_noted made.Nothing new e = e
  still_noted (made.Loader l) new e = e
  still_noted (made.Class c) new e = e
  still_noted (made.Site r) new e = by_test (r == length n.sites)
    where
      by_test : (b : Bool) → new_number (if b then n.sites ++ new ∷ [] else n.sites) s ≡ Some t
      by_test true = still_at n.sites new s e
      by_test false = e
  still_noted (made.CallSite c) new e = e
  still_noted (made.Switch p) new e = e

-- an event that is carried over
pub links_carried : (linked : List (ℕ × Link)) (fresh after : State) (n m : Numbers) (old : Made) (e f : Event) → HasLinksOf linked fresh n
    → carried n e ≡ Some f → IsMade f old n m fresh after → HasLinksOf linked after m
links_carried linked fresh after n m old e f had carries made_there t l c =
    let calm = subst (λ (o : Option Event). option_map_or (installs t) o false ≡ false) carries (of_carried t n e) in
    let was = kept_was (installed (events fresh) t) (scratch (world_of after) t) l
    (sym (after_event fresh after f made_there.reply made_there.accepted t
    ∙ ap (λ (b : Bool). kept b (installed (events fresh) t) (scratch (world_of after) t)) calm)
    ∙ (links_are (events after) t l).1 c) in
    let come = had t l ((links_are (events fresh) t l).0 was) in
    record {
      site = come.site;
      link = come.link;
      had = come.had;
      has = ap (λ (ns : Numbers). new_number ns.sites come.site) made_there.numbers
          ∙ still_noted n come.site t old (made_number made_there.reply.made) come.has;
    }

-- where the old core has these links now, there are no others
pub none_others : (k : Flags) (old fresh : State) (n : Numbers) → IsBeside k old fresh n → HasLinksOf (links_of old) fresh n → HasNoOtherLinks old fresh n
none_others k old fresh n beside had t l c =
    let come = had t l c in
    let was = linked_now k old fresh n beside come.site come.link ((links_are (events old) come.site come.link).1 come.had) in
    let stays = alive_of k old fresh n beside come.site come.link was in
    let now = commutes k old fresh n beside come.site t stays (number_moved k old fresh n beside come.site t come.has) ∙ ap (renumbered_result n) was in
    let is = settled_now (events fresh) t l (installed_to (events fresh) t l ((links_are (events fresh) t l).1 c)) in
    record { site = come.site; link = come.link; had = come.had; has = come.has; same = same_ok l (renumbered_link n come.link) (sym is ∙ now) }
  where
    same_ok : (a b : Link) → ◌≡◌ {A = Result Link Unlinked} (Ok a) (Ok b) → a ≡ b
    same_ok a b e = cc

-- a core that was refilled has no links yet
pub none_refilled : {P : Type 0} (w : World) (entries : List Entry) (released : Released) (n : Numbers) (before fresh : State)
    → IsRefilled w entries released n before fresh → (t : ℕ) (l : Link) → Contains (links_of fresh) (t, l) → P
none_refilled w entries released n before fresh refilled t l c =
    clash l (sym (none_there t (events fresh) (subst (IsQuiet t) (sym refilled.events)
    (is_quiet t w (numbers_of w released) (events (logged before.limits w entries))))) ∙ (links_are (events fresh) t l).1 c)

-- ---- all links of the old core are installed

module _ (k : Flags) (old between fresh : State) (n : Numbers) (beside : IsBeside k old between n) (only : HasNoOtherLinks old between n) where
  at_these : HasLinksOf (links_of old) between n
  at_these t l c = let came = only t l c in record { site = came.site; link = came.link; had = came.had; has = came.has }

  beside_then : (batches : List (List (ℕ × Link))) → Adds (map event.Install batches) between fresh → IsBeside k old fresh n
  beside_then batches adds = beside_as k old between fresh n beside (ap world_after adds.events ∙ same_world (events between) batches) adds.limit

  -- or some of them
  pub front_installed : (left : List (ℕ × Link)) → InstallsFront (fresh_rows (world_of between) n (links_of old)) left between fresh
      → HasNoOtherLinks old fresh n
  front_installed left front =
      none_others k old fresh n (beside_then front.batches front.adds) (some_installed (links_of old) left between fresh n at_these front)

  module _ (all : Installs (fresh_rows (world_of between) n (links_of old)) between fresh) where
    rows_of : (t : ℕ) → list_any (list_any (λ row. row.0 == t)) all.batches
        ≡ list_any (λ row. row.0 == t) (fresh_rows (world_of between) n (links_of old))
    rows_of t = in_rows t all.batches (fresh_rows (world_of between) n (links_of old)) all.are_batches

    come : (t : ℕ) → list_any (list_any (λ row. row.0 == t)) all.batches ≡ true → HasCome (links_of old) n t
    come t row = came_from (world_of between) n t (links_of old) (sym (rows_of t) ∙ row)

    -- each of them is there
    go : (t : ℕ) (l : Link) → CameFrom (links_of old) n t l → Contains (links_of fresh) (t, l)
    go t l came =
        let was = linked_now k old between n beside came.site came.link ((links_are (events old) came.site came.link).1 came.had) in
        let stays = alive_of k old between n beside came.site came.link was in
        let now = commutes k old between n beside came.site t stays (number_moved k old between n beside came.site t came.has)
        ∙ (ap (renumbered_result n) was ∙ ap Ok (sym came.same)) in
        let row = rows_of t ∙ goes_to (world_of between) n t l now (links_of old)
        (record { site = came.site; link = came.link; had = came.had; has = came.has }) in
        (links_are (events fresh) t l).0
        (is_now (links_of old) between fresh n all.batches all.adds come t ∙ (λ i. kept (row i) (installed (events between) t) (now i)))

    pub all_installed : HaveSameLinks old fresh n
    all_installed t l = (
      none_others k old fresh n (beside_then all.batches all.adds)
          (still_of (links_of old) between fresh n all.batches all.adds come at_these) t l,
      go t l,
    )
