-- A fresh core that stands beside the old one does so after each entry that is carried over, and what is noted as gone is as good as not noted.
use Rattle.std.specs.Prelude.{◌≡◌, ◌+◌, ◌==◌, ℕ, zero, suc, Bool, true, false, List, [], ◌∷◌, ◌++◌, filter_map, length, Option, Some, None}
use Rattle.std.specs.Prelude.{option_map, option_and_then, is_ok, IsOk, MatchOption, if◌then◌else◌}
use Rattle.std.proofs.Common.{refl, sym, ap, subst, ◌∙◌, arith, length-append, append_assoc}
use Rattle.std.proofs.lemmas.List.{append-nil}
use Rattle.std.proofs.lemmas.Option.{same_Some}
use Rattle.jl_types.specs.declared.event.EventOf.TheVariants as event
use Rattle.jl_types.specs.declared.event.Made.{Made}
use Rattle.jl_types.specs.declared.event.Made.TheVariants as made
use Rattle.jl_types.specs.declared.event.Reply.{Reply}
use Rattle.jl_types.specs.declared.link.Link.{Link}
use Rattle.jl_types.specs.Values.Target.{Target, Method, Guard, Invoker}
use Rattle.jl_types.specs.Values.World.{World, Class}
use Rattle.jl_types.specs.Events.Event.{Event}
use Rattle.jl_types.specs.Events.Verdict.{verdict}
use Rattle.jl_types.specs.Events.History.{dropped}
use Rattle.jl_types.proofs.Places.{accepted_of}
use Rattle.jl_events.specs.Accepted.{Accepted, event_of}
use Rattle.jl_relink.specs.Laws.{has_read_file}
use Rattle.jl_core.specs.State.{State, events, world_of, IsAccepted}
use Rattle.jl_core.specs.Logs.{Entry, told, are_told, shown}
use Rattle.jl_renewal.specs.Numbers.{Numbers, new_number}
use Rattle.jl_renewal.specs.Renewal.{fresh_rows}
use Rattle.jl_renewal.specs.Carries.{guarded, carried, carried_target, carried_event, with_number, with_made, IsAdded}
use Rattle.jl_renewal.specs.Moved.{Flags, IsBeside, HaveSameLinks}
use Rattle.jl_renewal.proofs.MovedTargets.{inv_map}
use Rattle.jl_renewal.proofs.MovedBeside.{still_beside, beside_passed, beside_linked}
use Rattle.jl_renewal.proofs.MovedLinks.{links_after, neither_installs, both_install, install_accepted}
use Rattle.jl_host.specs.Renewing.{Fresh, installs_of, IsLinked, IsCarriedOn, AreCarried}
use Rattle.jl_host.specs.UnderWay.{HasAccepted}
use Rattle.jl_host.proofs.UnderWayLists.{some_value, first_told, shown_first}

-- ---- what is noted as gone is as good as not noted

none_more : (xs : List (Option ℕ)) (j : ℕ) → new_number (xs ++ None ∷ []) j ≡ new_number xs j
none_more [] zero = refl
none_more [] (suc j) = refl
none_more (x ∷ xs) zero = refl
none_more (x ∷ xs) (suc j) = none_more xs j

still_none : (xs : List (Option ℕ)) (old j : ℕ) → new_number (with_number xs old None) j ≡ new_number xs j
still_none xs old j = by_test (old == length xs)
  where
    by_test : (b : Bool) → new_number (if b then xs ++ None ∷ [] else xs) j ≡ new_number xs j
    by_test true = none_more xs j
    by_test false = refl

-- the same number for each
record AreLookedUpSame (n m : Numbers) : Type 0 where
  loaders : (j : ℕ) → new_number m.loaders j ≡ new_number n.loaders j
  classes : (j : ℕ) → new_number m.classes j ≡ new_number n.classes j
  sites : (j : ℕ) → new_number m.sites j ≡ new_number n.sites j
  call_sites : (j : ℕ) → new_number m.call_sites j ≡ new_number n.call_sites j
  switches : (j : ℕ) → new_number m.switches j ≡ new_number n.switches j

noted_same : (n : Numbers) (m : Made) → AreLookedUpSame n (with_made n m None)
noted_same n made.Nothing =
    record { loaders = λ j. refl; classes = λ j. refl; sites = λ j. refl; call_sites = λ j. refl; switches = λ j. refl }
noted_same n (made.Loader l) =
    record { loaders = still_none n.loaders l; classes = λ j. refl; sites = λ j. refl; call_sites = λ j. refl; switches = λ j. refl }
noted_same n (made.Class c) =
    record { loaders = λ j. refl; classes = still_none n.classes c; sites = λ j. refl; call_sites = λ j. refl; switches = λ j. refl }
noted_same n (made.Site s) =
    record { loaders = λ j. refl; classes = λ j. refl; sites = still_none n.sites s; call_sites = λ j. refl; switches = λ j. refl }
noted_same n (made.CallSite c) =
    record { loaders = λ j. refl; classes = λ j. refl; sites = λ j. refl; call_sites = still_none n.call_sites c; switches = λ j. refl }
noted_same n (made.Switch p) =
    record { loaders = λ j. refl; classes = λ j. refl; sites = λ j. refl; call_sites = λ j. refl; switches = still_none n.switches p }

module _ (n m : Numbers) (same : AreLookedUpSame n m) where
  target_same : (t : Target) → carried_target m t ≡ carried_target n t
  target_same (Method id) = λ i. option_map (λ c. Method (record id { class = c })) (same.classes id.class i)
  target_same (Guard p first fallback) =
      λ i. option_and_then (λ q. guarded q (target_same first i) (target_same fallback i)) (same.switches p i)
  target_same (Invoker c) = λ i. option_map Invoker (same.call_sites c i)

  event_same : (e : Event) → carried m e ≡ carried n e
  event_same event.NewLoader = refl
  event_same (event.Define loader file) = λ i. option_map (λ l. event.Define l file) (same.loaders loader i)
  event_same (event.Delegate loader name to) =
      λ i. option_and_then (λ l. option_map (event.Delegate l name) (same.loaders to i)) (same.loaders loader i)
  event_same (event.Request place) = λ i. option_map (λ c. event.Request (record place { class = c })) (same.classes place.class i)
  event_same (event.NewCallSite kind ty target) = ap (option_map (event.NewCallSite kind ty)) (target_same target)
  event_same (event.SetTarget c target) =
      λ i. option_and_then (λ k. option_map (event.SetTarget k) (target_same target i)) (same.call_sites c i)
  event_same event.NewSwitch = refl
  event_same (event.Invalidate points) = λ i. Some (event.Invalidate (filter_map (λ p. same.switches p i) points))
  event_same (event.Bind s c) = λ i. option_and_then (λ t. option_map (event.Bind t) (same.call_sites c i)) (same.sites s i)
  event_same (event.Install rows) = refl
  event_same (event.Retire loader) = λ i. option_map event.Retire (same.loaders loader i)
  event_same (event.RetireAll loaders) = λ i. Some (event.RetireAll (filter_map (λ l. same.loaders l i) loaders))
  event_same (event.Release call_sites points) =
      λ i. Some (event.Release (filter_map (λ c. same.call_sites c i) call_sites) (filter_map (λ p. same.switches p i) points))

pub gone_still : (w : World) (entry : Entry) (n : Numbers) (m : Made) → carried_event w (with_made n m None) entry ≡ carried_event w n entry
gone_still w entry n m = by_event (event_of w.classes.rows entry.event)
  where
    by_event : (o : Option Event) → option_and_then (carried (with_made n m None)) o ≡ option_and_then (carried n) o
    by_event None = refl
    by_event (Some e) = event_same n (with_made n m None) (noted_same n m) e

longer : (old n : ℕ) → (old == n) ≡ true → (old == n + 1) ≡ false
longer old n e = grind (arith, e)

twice : (xs : List (Option ℕ)) (old : ℕ) → with_number (with_number xs old None) old None ≡ with_number xs old None
twice xs old = by_test (old == length xs) refl
  where
    by_test : (b : Bool) → (old == length xs) ≡ b → with_number (if b then xs ++ None ∷ [] else xs) old None ≡ (if b then xs ++ None ∷ [] else xs)
    by_test false e = ap (λ (b : Bool). if b then xs ++ None ∷ [] else xs) e
    by_test true e =
        ap (λ (b : Bool). if b then (xs ++ None ∷ []) ++ None ∷ [] else xs ++ None ∷ [])
        (ap (λ (n : ℕ). old == n) (length-append xs (None ∷ [])) ∙ longer old (length xs) e)

-- noted twice it is noted once
pub noted_twice : (n : Numbers) (m : Made) → with_made (with_made n m None) m None ≡ with_made n m None
noted_twice n made.Nothing = refl
noted_twice n (made.Loader l) = ap (λ (xs : List (Option ℕ)). record n { loaders = xs }) (twice n.loaders l)
noted_twice n (made.Class c) = ap (λ (xs : List (Option ℕ)). record n { classes = xs }) (twice n.classes c)
noted_twice n (made.Site s) = ap (λ (xs : List (Option ℕ)). record n { sites = xs }) (twice n.sites s)
noted_twice n (made.CallSite c) = ap (λ (xs : List (Option ℕ)). record n { call_sites = xs }) (twice n.call_sites c)
noted_twice n (made.Switch p) = ap (λ (xs : List (Option ℕ)). record n { switches = xs }) (twice n.switches p)

-- ---- one entry

pub installs_told : (rows : List Class) (a : Accepted) (links : List (ℕ × Link)) → installs_of a ≡ Some links → event_of rows a ≡ Some (event.Install links)
installs_told rows event.NewLoader links is = cc
installs_told rows (event.Define loader c) links is = cc
installs_told rows (event.Delegate loader name to) links is = cc
installs_told rows (event.Request place) links is = cc
installs_told rows (event.NewCallSite kind ty target) links is = cc
installs_told rows (event.SetTarget c target) links is = cc
installs_told rows event.NewSwitch links is = cc
installs_told rows (event.Invalidate points) links is = cc
installs_told rows (event.Bind s c) links is = cc
installs_told rows (event.Install old) links is = ap (λ (rows : List (ℕ × Link)). Some (event.Install rows)) (same_Some old links is)
installs_told rows (event.Retire loader) links is = cc
installs_told rows (event.RetireAll loaders) links is = cc
installs_told rows (event.Release call_sites points) links is = cc

module _ (k : Flags) (w : World) (entry : Entry) (e : Event) (named : event_of w.classes.rows entry.event ≡ Some e) (old next : State)
    (accepted : IsAccepted old next e entry.reply) (read : has_read_file e ≡ true) (f g : Fresh) (beside : IsBeside k old f.core f.numbers) where
  ok : IsOk (verdict old.limits (world_of old) e)
  ok = ap is_ok (accepted_of (dropped (events old) e) (verdict old.limits (world_of old) e) entry.reply accepted.answered).0

  by_rows : (rows : List (ℕ × Link)) → IsBeside k next f.core f.numbers → IsLinked rows f g → IsBeside k next g.core g.numbers
  by_rows [] passed same = subst (λ (h : Fresh). IsBeside k next h.core h.numbers) (sym same) passed
  by_rows (row ∷ rows) passed linked =
      subst (λ (n : Numbers). IsBeside k next g.core n) (sym linked.1)
      (beside_linked k next f.core f.numbers passed (row ∷ rows) g.core linked.0.0 linked.0.1)

  by_install : (o : Option (List (ℕ × Link))) → installs_of entry.event ≡ o
      → MatchOption o (IsAdded w entry f.numbers g.numbers f.core g.core) (λ rows. IsLinked (fresh_rows (world_of f.core) f.numbers rows) f g)
      → IsBeside k next g.core g.numbers
  by_install None is added =
      still_beside k old f.core f.numbers beside e added.event (sym (ap (option_and_then (carried f.numbers)) named) ∙ added.is) ok
      next g.core g.numbers entry.reply read accepted added.made
  by_install (Some rows) is linked =
      let same : e ≡ event.Install rows = same_Some e (event.Install rows) (sym named ∙ installs_told w.classes.rows entry.event rows is) in
      by_rows (fresh_rows (world_of f.core) f.numbers rows)
      (beside_passed k old f.core f.numbers beside rows next entry.reply (subst (λ (x : Event). IsAccepted old next x entry.reply) same accepted)) linked

  one_on : IsCarriedOn w entry f g → IsBeside k next g.core g.numbers
  one_on = by_install (installs_of entry.event) refl

  -- its links are those of the old core then, too
  module _ (links : HaveSameLinks old f.core f.numbers) where
    module _ (rows : List (ℕ × Link)) (installed : IsAccepted old next (event.Install rows) entry.reply) where
      may_install : IsOk (verdict old.limits (world_of old) (event.Install rows))
      may_install =
          ap is_ok (accepted_of (dropped (events old) (event.Install rows)) (verdict old.limits (world_of old) (event.Install rows))
          entry.reply installed.answered).0

      none_refused : IsOk (verdict f.core.limits (world_of f.core) (event.Install [])) → ⊥
      none_refused e = cc

      links_by_rows : (there : List (ℕ × Link)) → fresh_rows (world_of f.core) f.numbers rows ≡ there → IsLinked there f g
          → HaveSameLinks next g.core g.numbers
      links_by_rows [] is same =
          absurd (none_refused (subst (λ (rs : List (ℕ × Link)). IsOk (verdict f.core.limits (world_of f.core) (event.Install rs))) is
          (install_accepted k old f.core f.numbers beside rows may_install)))
      links_by_rows (row ∷ others) is linked =
          let there = subst (λ (rs : List (ℕ × Link)). IsAccepted f.core g.core (event.Install rs) linked.0.0) (sym is) linked.0.1 in
          subst (λ (n : Numbers). HaveSameLinks next g.core n) (sym linked.1)
          (links_after k old next f.core g.core f.numbers f.numbers beside
          (beside_linked k next f.core f.numbers (beside_passed k old f.core f.numbers beside rows next entry.reply installed)
          (fresh_rows (world_of f.core) f.numbers rows) g.core linked.0.0 there)
          (event.Install rows) (event.Install (fresh_rows (world_of f.core) f.numbers rows)) entry.reply linked.0.0 installed there
          (both_install k old f.core f.numbers beside rows may_install) links)

    links_by_install : (o : Option (List (ℕ × Link))) → installs_of entry.event ≡ o
        → MatchOption o (IsAdded w entry f.numbers g.numbers f.core g.core) (λ rows. IsLinked (fresh_rows (world_of f.core) f.numbers rows) f g)
        → HaveSameLinks next g.core g.numbers
    links_by_install None is added =
        let carries = sym (ap (option_and_then (carried f.numbers)) named) ∙ added.is in
        links_after k old next f.core g.core f.numbers g.numbers beside
        (still_beside k old f.core f.numbers beside e added.event carries ok next g.core g.numbers entry.reply read accepted added.made)
        e added.event entry.reply added.made.reply accepted added.made.accepted (λ s t at. neither_installs f.numbers e added.event carries s t) links
    links_by_install (Some rows) is linked =
        let same : e ≡ event.Install rows = same_Some e (event.Install rows) (sym named ∙ installs_told w.classes.rows entry.event rows is) in
        links_by_rows rows (subst (λ (x : Event). IsAccepted old next x entry.reply) same accepted)
        (fresh_rows (world_of f.core) f.numbers rows) refl linked

    links_on : IsCarriedOn w entry f g → HaveSameLinks next g.core g.numbers
    links_on = links_by_install (installs_of entry.event) refl

-- ---- one after another

with_first : {A : Type 0} (new next old front all : List A) (x : A) → new ≡ next ++ front → next ≡ old ++ x ∷ [] → all ≡ x ∷ front → new ≡ old ++ all
with_first new next old front all x later one is =
    later ∙ (ap (λ xs. xs ++ front) one ∙ (append_assoc old (x ∷ []) front ∙ ap (λ xs. old ++ xs) (sym is)))

-- Those in front were carried over. The fresh core stands beside the old one as that was after them, and what is left came then.
pub record HaveComeOver (k : Flags) (w : World) (core : State) (front left : List Entry) (later : List (Event × Reply)) (old : State) (g : Fresh) : Type 0 where
  pub new : State
  pub log : new.log ≡ old.log ++ shown w.classes.rows front
  pub grown : HasAccepted new (shown w.classes.rows left ++ later) core
  pub beside : IsBeside k new g.core g.numbers
  pub links : HaveSameLinks new g.core g.numbers

module _ (k : Flags) (w : World) (core : State) (left : List Entry) (later : List (Event × Reply)) where
  abbrev rows : List Class
  rows = w.classes.rows

  pub all_on : (front : List Entry) (old : State) (f g : Fresh) → are_told rows (front ++ left) ≡ true
      → HasAccepted old (shown rows (front ++ left) ++ later) core → IsBeside k old f.core f.numbers
      → HaveSameLinks old f.core f.numbers → AreCarried w front f g
      → HaveComeOver k w core front left later old g
  all_on [] old f g all grown beside links same = record {
    new = old;
    log = sym (append-nil old.log);
    grown = grown;
    beside = subst (λ (h : Fresh). IsBeside k old h.core h.numbers) (sym same) beside;
    links = subst (λ (h : Fresh). HaveSameLinks old h.core h.numbers) (sym same) links;
  }
  all_on (entry ∷ front) old f g all grown beside links carries =
      let parts = first_told rows entry (front ++ left) all in
      let value = some_value (told rows entry) parts.0 in
      let x = value.0 in
      let e = inv_map (λ (e : Event). (e, entry.reply)) (event_of rows entry.event) x value.1 in
      let next = subst (λ (xs : List (Event × Reply)). HasAccepted old (xs ++ later) core) (shown_first rows entry (front ++ left) x value.1) grown in
      let accepted = subst (λ (p : Event × Reply). IsAccepted old next.0 p.0 p.1) (sym e.2) next.1 in
      let read = subst (λ (p : Event × Reply). has_read_file p.0 ≡ true) (sym e.2) next.2 in
      let one = one_on k w entry e.0 e.1 old next.0 accepted read f carries.0 beside carries.1 in
      let still = links_on k w entry e.0 e.1 old next.0 accepted read f carries.0 beside links carries.1 in
      let rest = all_on front next.0 carries.0 g parts.1 next.3 one still carries.2 in
      record {
        new = rest.new;
        log =
            with_first rest.new.log next.0.log old.log (shown rows front) (shown rows (entry ∷ front)) x rest.log
            (ap (λ (s : State). s.log) next.1.logged) (shown_first rows entry front x value.1);
        grown = rest.grown;
        beside = rest.beside;
        links = rest.links;
      }
