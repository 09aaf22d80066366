-- What a job came to is shown by the lists that its report names.
use Rattle.std.proofs.Common.{◌≡◌, ◌⊎◌, ◌<◌, ℕ, Bool, true, false, List, [], ◌∷◌, map, length, Option, Some, None, Result, Ok, Err, Any, refl, ap}
use Rattle.std.proofs.Common.{sym, ◌∙◌, subst, inl, inr, arith}
use Rattle.std.specs.Prelude.{IsOk, IsErr}
use Rattle.std.proofs.lemmas.List.{length-map}
use mathlib.Core.List.{IsPrefix}
use Rattle.jl_types.specs.declared.limits.Limits.{Limits}
use Rattle.jl_types.specs.declared.link.Link.{Link}
use Rattle.jl_types.specs.declared.answer.Unlinked.{Unlinked}
use Rattle.jl_types.specs.declared.event.Made.{Made}
use Rattle.jl_types.specs.declared.event.Made.TheVariants as made
use Rattle.jl_types.specs.declared.event.EventOf.TheVariants.{Install}
use Rattle.jl_types.specs.declared.refusal.Refusal.{Refusal}
use Rattle.jl_types.specs.declared.refusal.Refusal.TheVariants as refusal
use Rattle.jl_types.specs.declared.refusal.PrepareFault.{PrepareFault}
use Rattle.jl_types.specs.declared.refusal.PrepareFault.TheVariants as fault
use Rattle.jl_types.specs.declared.refusal.SitesFault.{SitesFault}
use Rattle.jl_types.specs.declared.refusal.SitesFault.TheVariants as sites
use Rattle.jl_types.specs.Linkage.Links.{same_link}
use Rattle.jl_types.specs.Values.World.{World}
use Rattle.jl_types.specs.Linkage.Resolution.{first_of}
use Rattle.jl_types.specs.Linkage.Links.{scratch}
use Rattle.jl_types.specs.Events.Batches.{is_bad_size, sites_fault}
use Rattle.jl_types.specs.Events.Preparation.{link_fault, prepare_fault, ready_fault, ArePrepared}
use Rattle.jl_types.specs.Events.Preparation as preparation
use Rattle.jl_types.specs.Events.Verdict.{row_fault, install_fault, unless, verdict}
use Rattle.jl_types.specs.Events.Verdict as events
use Rattle.jl_types.specs.Events.Entries.{Entry, IsLegal}
use Rattle.jl_relink.specs.Preparations.{Snapshot, IsPreparation}
use Rattle.jl_core.specs.State.{IsRefused}
use Rattle.jl_server.proofs.Beginnings.{prefix_self, prefix_trans, prefix_length}
use Rattle.jl_server.specs.declared.book.Receipt.{Receipt}
use Rattle.jl_server.specs.History.{EndsWith}
use Rattle.jl_farm.specs.declared.report.JobOutcome.{JobOutcome}
use Rattle.jl_farm.specs.declared.report.JobOutcome.TheVariants as outcome
use Rattle.jl_farm.specs.Reports.{world_of, ComesAfter, IsNoBatch, IsShown, IsStale, IsRefusedBatch, IsInstalled}
use Rattle.jl_farm.specs.ForProofs.Work.{refused_as, unprepared_as, HasSeen}
use Rattle.jl_farm.proofs.Causes.{batch_cause, no_batch_by_size, no_batch_by_sites, unready_by_fault, stale_by_fault}
use Rattle.jl_core.proofs.GivenLaws.{prepared_sites, no_install_fault}

-- ---- what a caller had seen before

comes_after : (n : Limits) (start later list : List Entry) → IsPrefix start later → ComesAfter n later list → ComesAfter n start list
comes_after n start later list p h = (prefix_trans start later list p h.0, h.1)

-- what is shown after a list is shown after each beginning of it
pub shown_before : {K : Type 0} (n : Limits) (start later : List Entry) (of : List ℕ) (o : JobOutcome K) → IsPrefix start later → IsShown n later of o
    → IsShown n start of o
shown_before n start later of (outcome.Installed receipt) p h = record {
  after = comes_after n start later receipt.seen p h.after;
  longer = omega (arith, prefix_length start later p, h.longer);
  serial = h.serial;
  rows = h.rows;
  of_sites = h.of_sites;
  last = h.last;
}
shown_before n start later of (outcome.Stale first second) p h = record {
  prepared = comes_after n start later first p h.prepared;
  refused = h.refused;
  differs = h.differs;
}
shown_before n start later of (outcome.NotReady list) p h = record {
  after = comes_after n start later list p h.after;
  unready = h.unready;
}
shown_before n start later of (outcome.Bad list) p h = record {
  after = comes_after n start later list p h.after;
  no_batch = h.no_batch;
}
shown_before n start later of outcome.Memory p h = tt

-- ---- a preparation

-- why the sites aren't prepared in the world
abbrev pub IsWhy : World → List ℕ → PrepareFault → Type 0
IsWhy w of (fault.NotReady s) = Any (λ t. (t < length w.places) × IsErr (scratch w t)) of
IsWhy w of fault.Memory = Unit {0}
IsWhy w of (fault.UnknownSite s) = IsNoBatch w of
IsWhy w of (fault.Repeated s) = IsNoBatch w of
IsWhy w of fault.BatchSize = IsNoBatch w of

module _ (w : World) (of : List ℕ) where
  why_sites : (x : SitesFault) → sites_fault w [] of ≡ Some x → IsWhy w of (preparation.of_sites x)
  why_sites (sites.Unknown s) e = no_batch_by_sites w of (sites.Unknown s) e
  why_sites (sites.Repeated s) e = no_batch_by_sites w of (sites.Repeated s) e

  -- the first site without a link is named as not ready
  ready_kind : (all : List ℕ) (f : PrepareFault) → first_of (map (λ s. link_fault s (scratch w s)) all) ≡ Some f → (s : ℕ) × (f ≡ fault.NotReady s)
  ready_kind [] f e = cc
  ready_kind (s ∷ all) f e = by_link (scratch w s) e (ready_kind all f)
    where
      by_link : (r : Result Link Unlinked) → first_of (link_fault s r ∷ map (λ t. link_fault t (scratch w t)) all) ≡ Some f
          → (first_of (map (λ t. link_fault t (scratch w t)) all) ≡ Some f → (t : ℕ) × (f ≡ fault.NotReady t)) → (t : ℕ) × (f ≡ fault.NotReady t)
      by_link (Ok l) e more = more e
      by_link (Err reason) e more = (s, cc)

  why_refused : (f : PrepareFault) → prepare_fault w of ≡ Some f → IsWhy w of f
  why_refused f e = by_cause (batch_cause fault.BatchSize preparation.of_sites (is_bad_size (length of)) (sites_fault w [] of) (ready_fault w of) f e)
    where
      by_cause : ((is_bad_size (length of) ≡ true) × (f ≡ fault.BatchSize))
          ⊎ (((x : SitesFault) × (sites_fault w [] of ≡ Some x) × (f ≡ preparation.of_sites x)) ⊎ ((sites_fault w [] of ≡ None) × (ready_fault w of ≡ Some f)))
          → IsWhy w of f
      by_cause (inl h) = subst (IsWhy w of) (sym h.1) (no_batch_by_size w of h.0)
      by_cause (inr (inl h)) = subst (IsWhy w of) (sym h.2) (why_sites h.0 h.1)
      by_cause (inr (inr h)) = let kind = ready_kind of f h.1 in subst (IsWhy w of) (sym kind.1) (unready_by_fault w of f h.0 h.1)

  pub why : (serial : ℕ) (f : PrepareFault) → IsPreparation (record { world = w; serial = serial }) of (Err f) → IsWhy w of f
  why serial f (inl e) = why_refused f e
  why serial f (inr h) = subst (IsWhy w of) (sym h.0) tt

-- ---- an install

refused_install : (o : Option Refusal) (m : Made) (r : Refusal) → unless o m ≡ Err r → o ≡ Some r
refused_install None m r e = cc
refused_install (Some f) m r e = cc

-- a row is stale or not ready
row_kind : (w : World) (rows : List (ℕ × Link)) (r : Refusal) → first_of (map (λ row. row_fault row.0 row.1 (scratch w row.0)) rows) ≡ Some r
    → ((s : ℕ) × (l : Link) × (r ≡ refusal.Stale s l)) ⊎ ((s : ℕ) × (r ≡ refusal.NotReady s))
row_kind w [] r e = cc
row_kind w (row ∷ rows) r e = by_link (scratch w row.0) e (row_kind w rows r)
  where
    Kind : Type 0
    Kind = ((s : ℕ) × (l : Link) × (r ≡ refusal.Stale s l)) ⊎ ((s : ℕ) × (r ≡ refusal.NotReady s))

    More : Type 0
    More = first_of (map (λ row. row_fault row.0 row.1 (scratch w row.0)) rows) ≡ Some r → Kind

    by_same : (now : Link) (b : Bool) → same_link now row.1 ≡ b → first_of (row_fault row.0 row.1 (Ok now)
        ∷ map (λ row. row_fault row.0 row.1 (scratch w row.0)) rows) ≡ Some r → More → Kind
    by_same now true is e more = more (rw is at e)
    by_same now false is e more = inl (row.0, now, let f = rw is at e in cc)

    by_link : (x : Result Link Unlinked) → first_of (row_fault row.0 row.1 x ∷ map (λ row. row_fault row.0 row.1 (scratch w row.0)) rows) ≡ Some r → More → Kind
    by_link (Ok now) e more = by_same now (same_link now row.1) refl e more
    by_link (Err reason) e more = inr (row.0, cc)

module _ (K : Type 0) (n : Limits) (first second : List Entry) (of : List ℕ) (rows : List (ℕ × Link))
    (prepared : ArePrepared (world_of first) of rows) (legal : IsLegal n first) (more : IsPrefix first second) (also : IsLegal n second) where
  abbrev Shown : Refusal → Type 0
  Shown r = IsShown {K = K} n first of (refused_as first second r)

  bad : IsNoBatch (world_of second) of → IsRefusedBatch n first second of
  bad h = record { after = (more, also); no_batch = h }

  stale : (r : Refusal) → first_of (map (λ row. row_fault row.0 row.1 (scratch (world_of second) row.0)) rows) ≡ Some r → IsStale n first first second of
  stale r e = record {
    prepared = (prefix_self first, legal);
    refused = (more, also);
    differs = stale_by_fault (world_of second) (world_of first) of rows r prepared e;
  }

  same_sites : map (λ row. row.0) rows ≡ of
  same_sites = prepared_sites (world_of first) of rows prepared

  by_sites : (x : SitesFault) → sites_fault (world_of second) [] (map (λ row. row.0) rows) ≡ Some x → Shown (events.of_sites x)
  by_sites (sites.Unknown s) e = bad (no_batch_by_sites (world_of second) of (sites.Unknown s) (ap (sites_fault (world_of second) []) (sym same_sites) ∙ e))
  by_sites (sites.Repeated s) e = bad (no_batch_by_sites (world_of second) of (sites.Repeated s) (ap (sites_fault (world_of second) []) (sym same_sites) ∙ e))

  by_size : is_bad_size (length rows) ≡ true → Shown refusal.BatchSize
  by_size e = bad (no_batch_by_size (world_of second) of (ap is_bad_size (ap length (sym same_sites) ∙ length-map rows (λ row. row.0)) ∙ e))

  by_row : (r : Refusal) → first_of (map (λ row. row_fault row.0 row.1 (scratch (world_of second) row.0)) rows) ≡ Some r → Shown r
  by_row r e = by_kind (row_kind (world_of second) rows r e)
    where
      by_kind : ((s : ℕ) × (l : Link) × (r ≡ refusal.Stale s l)) ⊎ ((s : ℕ) × (r ≡ refusal.NotReady s)) → Shown r
      by_kind (inl h) = subst Shown (sym h.2) (stale r e)
      by_kind (inr h) = subst Shown (sym h.1) (stale r e)

  by_fault : (r : Refusal) → install_fault (world_of second) rows ≡ Some r → Shown r
  by_fault r e = by_cause (batch_cause refusal.BatchSize events.of_sites (is_bad_size (length rows))
      (sites_fault (world_of second) [] (map (λ row. row.0) rows))
      (first_of (map (λ row. row_fault row.0 row.1 (scratch (world_of second) row.0)) rows)) r e)
    where
      by_cause : ((is_bad_size (length rows) ≡ true) × (r ≡ refusal.BatchSize))
          ⊎ (((x : SitesFault) × (sites_fault (world_of second) [] (map (λ row. row.0) rows) ≡ Some x) × (r ≡ events.of_sites x))
          ⊎ ((sites_fault (world_of second) [] (map (λ row. row.0) rows) ≡ None)
          × (first_of (map (λ row. row_fault row.0 row.1 (scratch (world_of second) row.0)) rows) ≡ Some r))) → Shown r
      by_cause (inl h) = subst Shown (sym h.1) (by_size h.0)
      by_cause (inr (inl h)) = subst Shown (sym h.2) (by_sites h.0 h.1)
      by_cause (inr (inr h)) = by_row r h.1

  -- what the refusal of the install shows
  pub shown_refused : (r : Refusal) → IsRefused (verdict n (world_of second) (Install rows)) r → Shown r
  shown_refused r (inl e) = by_fault r (refused_install (install_fault (world_of second) rows) made.Nothing r e)
  shown_refused r (inr h) = subst Shown (sym h.0) tt

-- ---- as the code comes by these

-- what is so of the list that a preparation was made after, and of its sites
pub prepared_why : (n : Limits) (before after list : List Entry) (snapshot : Snapshot) (of : List ℕ) (f g : PrepareFault)
    → IsPrefix before after → IsLegal n after → list ≡ after → snapshot ≡ record { world = world_of after; serial = length after }
    → IsPreparation snapshot of (Err f) → f ≡ g → ComesAfter n before list × IsWhy (world_of list) of g
prepared_why n before after list snapshot of f g own legal is shot answer same =
    let here = subst (λ (x : Snapshot). IsPreparation x of (Err f)) shot answer in
    let cause = subst (IsWhy (world_of after) of) same (why (world_of after) of (length after) f here) in
    subst (λ (xs : List Entry). ComesAfter n before xs × IsWhy (world_of xs) of g) (sym is) ((own, legal), cause)

-- what is shown by the outcome of a job whose sites weren't prepared
pub unprepared : {K : Type 0} (n : Limits) (before after list : List Entry) (snapshot : Snapshot) (of : List ℕ) (f : PrepareFault) (o : JobOutcome K)
    → o ≡ unprepared_as list f → IsPrefix before after → IsLegal n after → list ≡ after
    → snapshot ≡ record { world = world_of after; serial = length after } → IsPreparation snapshot of (Err f) → IsShown n before of o
unprepared {K = K} n before after list snapshot of f o is own legal same shot answer =
    subst (λ (x : JobOutcome K). IsShown n before of x) (sym is)
    (by_fault f (prepared_why n before after list snapshot of f f own legal same shot answer refl))
  where
    by_fault : (g : PrepareFault) → ComesAfter n before list × IsWhy (world_of list) of g → IsShown {K = K} n before of (unprepared_as list g)
    by_fault (fault.NotReady s) p = record { after = p.0; unready = p.1 }
    by_fault (fault.UnknownSite s) p = record { after = p.0; no_batch = p.1 }
    by_fault (fault.Repeated s) p = record { after = p.0; no_batch = p.1 }
    by_fault fault.BatchSize p = record { after = p.0; no_batch = p.1 }
    by_fault fault.Memory p = tt

pub unprepared_seen : {K : Type 0} (list now : List Entry) (f : PrepareFault) (o : JobOutcome K) → o ≡ unprepared_as list f → list ≡ now → HasSeen now o
unprepared_seen {K = K} list now f o is same = subst (λ (x : JobOutcome K). HasSeen now x) (sym is) (by_fault f)
  where
    by_fault : (g : PrepareFault) → HasSeen {K = K} now (unprepared_as list g)
    by_fault (fault.NotReady s) = same
    by_fault (fault.UnknownSite s) = same
    by_fault (fault.Repeated s) = same
    by_fault fault.BatchSize = same
    by_fault fault.Memory = tt

-- rows that were prepared after the list would have been accepted after it
pub accepted_prepared : (n : Limits) (list before : List Entry) (of : List ℕ) (rows : List (ℕ × Link)) → list ≡ before
    → prepare_fault (world_of before) of ≡ None
    → ArePrepared (world_of before) of rows → IsOk (verdict n (world_of list) (Install rows))
accepted_prepared n list before of rows is none prepared =
    subst (λ (xs : List Entry). IsOk (verdict n (world_of xs) (Install rows))) (sym is)
    (subst (λ (o : Option Refusal). IsOk (unless o made.Nothing)) (sym (no_install_fault (world_of before) of rows none prepared)) refl)

pub installed : {K : Type 0} (n : Limits) (before after : List Entry) (of : List ℕ) (rows : List (ℕ × Link)) (receipt : Receipt K)
    → ArePrepared (world_of before) of rows → (receipt.seen ≡ after) × (receipt.serial ≡ length after) → IsPrefix before after → IsLegal n after
    → length before < length after
    → EndsWith after (Install rows) receipt.reply → IsInstalled n before of receipt
installed n before after of rows receipt prepared is own legal longer last = record {
  after = (subst (IsPrefix before) (sym is.0) own, subst (IsLegal n) (sym is.0) legal);
  longer = subst (λ (xs : List Entry). length before < length xs) (sym is.0) longer;
  serial = is.1 ∙ ap length (sym is.0);
  rows = rows;
  of_sites = prepared_sites (world_of before) of rows prepared;
  last = subst (λ (xs : List Entry). EndsWith xs (Install rows) receipt.reply) (sym is.0) last;
}

pub not_installed : {K : Type 0} (n : Limits) (before after first second : List Entry) (of : List ℕ) (rows : List (ℕ × Link)) (r : Refusal) (o : JobOutcome K)
    → o ≡ refused_as first second r → first ≡ before → second ≡ after → ArePrepared (world_of before) of rows → IsLegal n before → IsPrefix before after
    → IsLegal n after
    → IsRefused (verdict n (world_of after) (Install rows)) r → IsShown n before of o
not_installed {K = K} n before after first second of rows r o is first_is second_is prepared legal more also refused =
    subst (IsShown n before of) (sym (is ∙ (λ i. refused_as (first_is i) (second_is i) r)))
    (shown_refused K n before after of rows prepared legal more also r refused)

-- the caller of a refused install has seen the list after which it was refused
pub refusal_seen : {K : Type 0} (list first second : List Entry) (r : Refusal) (o : JobOutcome K) → o ≡ refused_as first second r → second ≡ list
    → HasSeen list o
refusal_seen {K = K} list first second r o is same = subst (HasSeen list) (sym is) (by_refusal r)
  where
    by_refusal : (x : Refusal) → HasSeen {K = K} list (refused_as first second x)
    by_refusal (refusal.Define fault) = tt
    by_refusal refusal.UnknownClass = tt
    by_refusal refusal.NoSuchPlace = tt
    by_refusal (refusal.NotLinkable why) = tt
    by_refusal refusal.SitesFull = tt
    by_refusal (refusal.CallSite fault) = tt
    by_refusal refusal.NotDynamic = tt
    by_refusal (refusal.AlreadyBound site) = tt
    by_refusal refusal.TypeMismatch = tt
    by_refusal (refusal.Stale s l) = same
    by_refusal (refusal.NotReady s) = same
    by_refusal (refusal.UnknownSite s) = same
    by_refusal (refusal.Repeated s) = same
    by_refusal refusal.BatchSize = same
    by_refusal refusal.Memory = tt
    by_refusal (refusal.Delegate fault) = tt
    by_refusal refusal.LoadersFull = tt
    by_refusal (refusal.Retire fault) = tt
    by_refusal (refusal.RetireAll loader fault) = tt
    by_refusal (refusal.Release fault) = tt
