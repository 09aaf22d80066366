-- Links that were prepared are read again, and accepted while the world is the one in which they were.
use Rattle.std.specs.Prelude.{◌≡◌, ◌⊎◌, ℕ, nat_lt, Bool, true, false, List, [], ◌∷◌, ◌++◌, map, drop, length, Option, Some, None, option_map}
use Rattle.std.specs.Prelude.{Result, Ok, Err, MatchBool, MatchOption}
use Rattle.std.proofs.Common.{refl, ap, sym, subst, ◌∙◌, arith, inl, inr}
use Rattle.jl_types.specs.declared.event.EventOf.TheVariants as event
use Rattle.jl_types.specs.declared.event.Made.TheVariants as made
use Rattle.jl_types.specs.declared.event.Reply.{Reply}
use Rattle.jl_types.specs.declared.link.Link.{Link}
use Rattle.jl_types.specs.declared.refusal.PrepareFault.{PrepareFault}
use Rattle.jl_types.specs.declared.refusal.PrepareFault.TheVariants as fault
use Rattle.jl_types.specs.declared.refusal.Refusal.{Refusal}
use Rattle.jl_types.specs.declared.refusal.Refusal.TheVariants as refusal
use Rattle.jl_types.specs.Values.World.{World}
use Rattle.jl_types.specs.Linkage.Links.{scratch}
use Rattle.jl_types.specs.Events.Verdict.{install_fault, Accepts, unless}
use Rattle.jl_types.specs.Events.History.{replied}
use Rattle.jl_types.specs.Events.Preparation.{prepare_fault, ArePrepared}
use Rattle.jl_types.proofs.Accepting.{accepted_installs}
use Rattle.jl_relink.specs.declared.preparation.Prepared.{Prepared}
use Rattle.jl_relink.specs.Preparations.{Snapshot, IsPreparation}
use Rattle.jl_core.specs.State.{State, IsApplied, world_of}
use Rattle.jl_core.proofs.GivenLaws.{no_install_fault}
use Rattle.jl_host.specs.declared.reading.LinkRow.{LinkRow}
use Rattle.jl_host.specs.declared.shown.LinkShown.{LinkShown}
use Rattle.jl_host.specs.declared.told.Told.{Told}
use Rattle.jl_host.specs.Numbers.{done, memory, malformed, too_short, status_of_refusal, status_of_unprepared}
use Rattle.jl_host.specs.Telling.{status_of}
use Rattle.jl_host.specs.Showing.{shown}
use Rattle.jl_host.specs.Reading.{all_of, with_first, rows_of, runs_declarable}
use Rattle.jl_host.specs.Linkers.{Opened}
use Rattle.jl_host.specs.Views.{links_in, given, IsPreparedIn, IsPrepareOf, IsUnprepared, IsViewPrepare, IsGiven, IsNotGiven, IsInstalledLinks, IsInstallLinks}
use Rattle.jl_host.proofs.ReadAgain.{read_again, whole_from_scratch}

-- ---- what was prepared is read again

rows_again : (w : World) → ((s : ℕ) (link : Link) → scratch w s ≡ Ok link → runs_declarable link ≡ true) → (sites : List ℕ) (rows : List (ℕ × Link))
    → ArePrepared w sites rows → (rest : List LinkShown) → rows_of (given sites (map (λ row. shown row.1) rows ++ rest)) ≡ Some rows
unfolding all_of
rows_again w small [] [] prepared rest = refl
rows_again w small [] (row ∷ rows) prepared rest = absurd prepared
rows_again w small (s ∷ sites) [] prepared rest = absurd prepared
rows_again w small (s ∷ sites) (row ∷ rows) prepared rest =
    let again = read_again row.1 (whole_from_scratch w s row.1 prepared.0.1 (small s row.1 prepared.0.1)) in
    ap (λ (o : Option Link). with_first (option_map (λ (link : Link). (s, link)) o) (rows_of (given sites (map (λ r. shown r.1) rows ++ rest)))) again
    ∙ ap (λ (t : ℕ). with_first (Some (t, row.1)) (rows_of (given sites (map (λ r. shown r.1) rows ++ rest)))) (sym prepared.0.0)
    ∙ ap (with_first (Some row)) (rows_again w small sites rows prepared.1 rest)

-- ---- what is given and has no fault is installed

unless_none : (o : Option Refusal) (r : Refusal) → o ≡ None → unless o made.Nothing ≡ Err r → ⊥
unless_none None r none e = cc
unless_none (Some f) r none e = cc

installed_by : (old next : State) (links : List (ℕ × Link)) (outcome : Result Reply Refusal) (status : ℕ) → install_fault (world_of old) links ≡ None
    → IsApplied old (event.Install links) outcome next → status ≡ status_of outcome → (status ≡ done) ⊎ (status ≡ memory)
installed_by old next links (Ok reply) status fine applied is = inl is
installed_by old next links (Err r) status fine applied is =
    elim applied.0 [ inl e ↦ absurd (unless_none (install_fault (world_of old) links) r fine e) | inr h ↦ inr (is ∙ ap status_of_refusal h.0) ]

module _ (old : Opened) (rows : List LinkRow) (links : List (ℕ × Link)) (is : rows_of rows ≡ Some links)
    (fine : install_fault (world_of old.session.core) links ≡ None) (present after : LinkShown) (status : ℕ) (told : Told) (next : Opened) where
  asked_for : IsGiven links old present status told after next → (status ≡ done) ⊎ (status ≡ memory)
  asked_for given = installed_by old.session.core next.session.core links given.0.outcome status fine given.0.applied given.0.status_is

  accepted : IsInstalledLinks rows old present status told after next → (status ≡ done) ⊎ (status ≡ memory)
  accepted (inl read) =
      asked_for (subst (λ (o : Option (List (ℕ × Link))). MatchOption o (IsNotGiven malformed old present status told after next)
      (λ links. IsGiven links old present status told after next)) is read)
  accepted (inr lacks) = inr lacks.0.0

-- ---- a preparation that is done

never_done : (f : PrepareFault) → done ≡ status_of_unprepared f → ⊥
never_done (fault.NotReady s) e = omega (arith, e)
never_done (fault.UnknownSite s) e = omega (arith, e)
never_done (fault.Repeated s) e = omega (arith, e)
never_done fault.BatchSize e = omega (arith, e)
never_done fault.Memory e = omega (arith, e)

-- what was prepared, and is written
record IsDone (seen : Snapshot) (sites : List ℕ) (before links : List LinkShown) : Type 0 where
  prepared : Prepared
  fine : prepare_fault seen.world sites ≡ None
  rows : ArePrepared seen.world sites prepared.rows
  written : links ≡ links_in prepared.rows before

module _ (seen : Snapshot) (sites : List ℕ) (before links : List LinkShown) (told : Told) where
  by_outcome : (outcome : Result Prepared PrepareFault) → IsPreparation seen sites outcome → IsPrepareOf outcome before done links told
      → IsDone seen sites before links
  by_outcome (Ok prepared) is of = record { prepared = prepared; fine = is.accepted; rows = is.rows; written = of.1 }
  by_outcome (Err f) is of = absurd (never_done f of.0)

  in_room : IsPreparedIn seen sites before done links told → IsDone seen sites before links
  in_room (inl h) = by_outcome h.0 h.1 h.2
  in_room (inr lacks) = absurd (omega (arith, lacks.0))

  done_by : (b : Bool) → MatchBool b (IsUnprepared too_short before done links told) (IsPreparedIn seen sites before done links told)
      → IsDone seen sites before links
  done_by true short = absurd (omega (arith, short.0))
  done_by false h = in_room h

-- ---- the laws

pub prepared_installed : (seen : Snapshot) (old : Opened) (sites : List ℕ) (before links : List LinkShown) (told : Told) (view : Option Snapshot)
    → IsViewPrepare sites (Some seen) before done links told view → seen.world ≡ world_of old.session.core
    → ((s : ℕ) (link : Link) → scratch seen.world s ≡ Ok link → runs_declarable link ≡ true)
    → (present after : LinkShown) (status : ℕ) (said : Told) (new : Option Opened)
    → IsInstallLinks (given sites links) (Some old) present status said after new → (status ≡ done) ⊎ (status ≡ memory)
prepared_installed seen old sites before links told view is now small present after status said new install =
    let p = done_by seen sites before links told (nat_lt (length before) (length sites)) is.0 in
    let again : rows_of (given sites links) ≡ Some p.prepared.rows =
    ap (λ (ls : List LinkShown). rows_of (given sites ls)) p.written
    ∙ rows_again seen.world small sites p.prepared.rows p.rows (drop (length p.prepared.rows) before)
    in
    let fine : install_fault (world_of old.session.core) p.prepared.rows ≡ None =
    subst (λ (w : World). install_fault w p.prepared.rows ≡ None) now (no_install_fault seen.world sites p.prepared.rows p.fine p.rows)
    in
    accepted old (given sites links) p.prepared.rows again fine present after status said install.0 install.2

-- an accepted event's verdict
made_by : (dropped : List ℕ) (o : Option Refusal) (reply : Reply) → replied dropped (unless o made.Nothing) ≡ Ok reply → unless o made.Nothing ≡ Ok made.Nothing
made_by dropped None reply e = refl
made_by dropped (Some r) reply e = cc

refused_status : (r : Refusal) → done ≡ status_of_refusal r → ⊥
refused_status (refusal.Define f) e = omega (arith, e)
refused_status refusal.UnknownClass e = omega (arith, e)
refused_status refusal.NoSuchPlace e = omega (arith, e)
refused_status (refusal.NotLinkable reason) e = omega (arith, e)
refused_status refusal.SitesFull e = omega (arith, e)
refused_status (refusal.CallSite f) e = omega (arith, e)
refused_status refusal.NotDynamic e = omega (arith, e)
refused_status (refusal.AlreadyBound c) e = omega (arith, e)
refused_status refusal.TypeMismatch e = omega (arith, e)
refused_status (refusal.Stale s link) e = omega (arith, e)
refused_status (refusal.NotReady s) e = omega (arith, e)
refused_status (refusal.UnknownSite s) e = omega (arith, e)
refused_status (refusal.Repeated s) e = omega (arith, e)
refused_status refusal.BatchSize e = omega (arith, e)
refused_status refusal.Memory e = omega (arith, e)
refused_status (refusal.Delegate f) e = omega (arith, e)
refused_status refusal.LoadersFull e = omega (arith, e)
refused_status (refusal.Retire f) e = omega (arith, e)
refused_status (refusal.RetireAll l f) e = omega (arith, e)
refused_status (refusal.Release f) e = omega (arith, e)

accepts_by : (old next : State) (links : List (ℕ × Link)) (outcome : Result Reply Refusal) → IsApplied old (event.Install links) outcome next
    → done ≡ status_of outcome → Accepts (world_of old) links
accepts_by old next links (Ok reply) applied is =
    (accepted_installs (world_of old) old.limits links).0 (made_by _ (install_fault (world_of old) links) reply applied.answered)
accepts_by old next links (Err r) applied is = absurd (refused_status r is)

module _ (rows : List LinkRow) (old : Opened) (present after : LinkShown) (told : Told) (next : Opened) where
  abbrev AreAccepted : Type 0
  AreAccepted = (links : List (ℕ × Link)) × (rows_of rows ≡ Some links) × Accepts (world_of old.session.core) links

  by_reading : (o : Option (List (ℕ × Link))) → rows_of rows ≡ o
      → MatchOption o (IsNotGiven malformed old present done told after next) (λ links. IsGiven links old present done told after next)
      → AreAccepted
  by_reading None is h = absurd (omega (arith, h.0.0))
  by_reading (Some links) is h =
      (links, is, accepts_by old.session.core next.session.core links h.0.outcome h.0.applied h.0.status_is)

  by_rows : IsInstalledLinks rows old present done told after next → AreAccepted
  by_rows (inl h) = by_reading (rows_of rows) refl h
  by_rows (inr lacks) = absurd (omega (arith, lacks.0.0))

pub installed_present : (rows : List LinkRow) (old : Opened) (present after : LinkShown) (told : Told) (new : Option Opened)
    → IsInstallLinks rows (Some old) present done told after new
    → (links : List (ℕ × Link)) × (rows_of rows ≡ Some links) × Accepts (world_of old.session.core) links
installed_present rows old present after told new h = by_rows rows old present after told h.0 h.2
