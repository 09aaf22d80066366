-- What is left once the touched sites were looked at.
use Rattle.std.specs.Prelude.{◌≡◌, ℕ, suc, ◌+◌, ◌<◌, ◌==◌, ◌&&◌, ◌||◌, ◌⊎◌, ◌≤◌, Bool, true, false, List, [], ◌∷◌, ◌++◌, not, zero, drop, take, get_or, sum_by}
use Rattle.std.specs.Prelude.{map, length, Option, Some, None, Result, Ok, Err, is_some, is_none, IfSome, OnOk, if◌then◌else◌}
use Rattle.std.specs.List.{AllByRecursion}
use Rattle.std.specs.Bool.{one_answer}
use Rattle.std.specs.Option.{option_map_or}
use Rattle.std.proofs.Common.{refl, ap, sym, subst, ◌∙◌, arith, add-one, length-append, inl, inr}
use Rattle.std.proofs.lemmas.Bool.{or_left, or_right, or_cases, and_from, both_ways, and_parts}
use Rattle.std.proofs.lemmas.Cmp.{nat_eq_equiv}
use Rattle.std.proofs.lemmas.Option.{same_Some}
use Rattle.std.proofs.lemmas.Bool.Decides.{Decides-eqb}
use Rattle.std.proofs.lemmas.List.{take_more}
use Rattle.std.proofs.lemmas.List.Sums.{sum_by-cons, sum_by_push}
use Rattle.std.proofs.lemmas.List.Folds.{list_any-append}
use Rattle.jl_class.specs.Class.{ClassFile}
use Rattle.jl_types.specs.declared.answer.Unlinked.{Unlinked}
use Rattle.jl_types.specs.declared.link.Link.{Link}
use Rattle.jl_types.specs.Linkage.Links.{same_link}
use Rattle.jl_types.specs.ForProofs.SameLink.{link_decides}
use Rattle.jl_types.specs.Values.World.{World}
use Rattle.jl_types.specs.Events.Definitions.{class_made}
use Rattle.jl_types.specs.Events.Event.{Event}
use Rattle.jl_types.specs.declared.event.EventOf.TheVariants as event
use Rattle.jl_types.specs.declared.key.Key.{Key}
use Rattle.jl_types.specs.Linkage.Links.{outcome, link_of, scratch}
use Rattle.jl_types.specs.Linkage.Stages.{Selects, stage}
use Rattle.jl_types.specs.Events.Verdict.{step}
use Rattle.jl_types.specs.Events.History.{is_link, kept}
use Rattle.jl_types.specs.Events.Footprints as events
use Rattle.jl_types.specs.Events.Footprints.{footprint, meets, most_for, stays_with, touches}
use Rattle.jl_hierarchy.proofs.Rising.{has}
use Rattle.jl_relink.specs.Laws.{OneMore, changes_receivers}
use Rattle.jl_relink.specs.Receivers.{TellsStay}
use Rattle.jl_relink.proofs.OneReceiver.{one_more}
use Rattle.jl_relink.proofs.KeyLaws.{selecting_stays}
use Rattle.jl_relink.proofs.Costs.{takes_one_evaluation}
use Rattle.jl_cache.specs.Links.{link_with}
use Rattle.jl_deps.specs.declared.form.Form.{Form}
use Rattle.jl_deps.specs.declared.form.Rests.{Rests}
use Rattle.jl_deps.specs.Forms.{selects, rests}
use Rattle.jl_deps.specs.Indexes.{rests_at, rests_if, AreRising, IsIndex, StaysIndexed, form_eq, are_together, is_asked, AreAsked, touched_by}
use Rattle.jl_deps.proofs.AskedLaws.{passing_one, any_there}
use Rattle.jl_deps.proofs.IndexLaws.{same_rests, touched_of, others_stay}
use Rattle.jl_deps.proofs.KeyLists.{form_is}
use Rattle.jl_deps.proofs.TouchLaws.{sites_rise}
use Rattle.jl_types.proofs.BySite.{rises_of}
use Rattle.jl_settle.specs.Settling.{kept_at, goes, defined_by, AreUpToDate, HasChanged, IsTold, MayBeAsked, most_asked}
use Rattle.jl_settle.proofs.SumLaws.{sum_within}
use Rattle.jl_settle.proofs.TogetherLaws.{link_alike, IsSelecting, selecting, one_class, changes, key_met}

-- ---- loops over sites

-- one site more, with its value
pub one_more_at : {A : Type 0} (F : ℕ → A) (next now old : A) (front : List ℕ) (site s : ℕ) → next ≡ (if site == s then F site else now)
    → now ≡ (if has s front then F s else old) → next ≡ (if has s (front ++ site ∷ []) then F s else old)
one_more_at F next now old front site s last before =
    last ∙ by_site (site == s) refl ∙ ap (λ (b : Bool). if b then F s else old) (sym (list_any-append (λ t. t == s) front (site ∷ [])))
  where
    by_tests : (b : Bool) → F s ≡ (if b || true then F s else old)
    by_tests true = refl
    by_tests false = refl

    either : (b : Bool) → (if b then F s else old) ≡ (if b || false then F s else old)
    either true = refl
    either false = refl

    by_site : (b : Bool) → (site == s) ≡ b → (if b then F site else now) ≡ (if has s front || (b || false) then F s else old)
    by_site true is = ap F ((Decides-eqb site s).0 is) ∙ by_tests (has s front)
    by_site false is = before ∙ either (has s front)

rest_of : (P : ℕ → Type 0) (xs : List ℕ) (i : ℕ) → AllByRecursion P (drop i xs) → AllByRecursion P (drop (suc i) xs)
rest_of P [] zero h = tt
rest_of P [] (suc i) h = tt
rest_of P (x ∷ xs) zero h = h.1
rest_of P (x ∷ xs) (suc i) h = rest_of P xs i h

pub all_rest : (P : ℕ → Type 0) (xs : List ℕ) (i : ℕ) → AllByRecursion P (drop i xs) → AllByRecursion P (drop (i + 1) xs)
all_rest P xs i h = rw add-one (rest_of P xs i h)

pub sum_more : (f : ℕ → ℕ) (xs : List ℕ) (i x : ℕ) → i < length xs → x ≡ get_or xs i x → sum_by f (take (i + 1) xs) ≡ sum_by f (take i xs) + f x
sum_more f xs i x lt is =
    ap (sum_by f) (take_more xs i x lt ∙ ap (λ (y : ℕ). take i xs ++ y ∷ []) (sym is)) ∙ sum_by_push f (take i xs) x

-- ---- what is kept

none_kept : (r : Result Link Unlinked) → kept false None r ≡ None
none_kept (Ok l) = refl
none_kept (Err reason) = refl

-- what is kept is the link, unless that goes
kept_or : (o : Option Link) (r : Result Link Unlinked) → (if is_some o && is_none (kept false o r) then None else o) ≡ kept false o r
kept_or None r = sym (none_kept r)
kept_or (Some l) (Err reason) = refl
kept_or (Some l) (Ok now) = by_test (same_link l now) refl
  where
    by_test : (b : Bool) → same_link l now ≡ b → (if is_none (if b then Some now else None) then None else Some l) ≡ (if b then Some now else None)
    by_test true is = ap Some ((link_decides l now).0 is)
    by_test false is = refl

some_none : (o : Option Link) → (is_some o && is_none o) ≡ false
some_none None = refl
some_none (Some l) = refl

-- ---- the sites that aren't touched, and those that are

module _ (world : World) (keys : List Key) (defined : Option ℕ) (links : ℕ → Option Link) (index : List (ℕ × Rests))
    (changed : HasChanged world keys defined links index) (rising : AreRising index) where
  -- a site that isn't touched
  pub untouched_stays : (s : ℕ) → has s (touched_by index keys) ≡ false
      → (kept_at world links s ≡ links s) × (rests_if world s (links s) ≡ rests_at index s)
  untouched_stays s none =
      let stays : StaysIndexed changed.before changed.event links index s =
      others_stay changed.before changed.event links index rising changed.index_is changed.accepted.0 changed.order changed.accepted.1 changed.scratch
      changed.left s
      (ap (λ (k : List Key). has s (touched_by index k)) (sym changed.keys_are) ∙ none)
      in (
        ap (λ (w : World). kept_at w links s) changed.step ∙ stays.link,
        ap (λ (w : World). rests_if w s (links s)) changed.step ∙ stays.rests_on,
      )

  pub untouched_keeps : (s : ℕ) → has s (touched_by index keys) ≡ false → goes world links s ≡ false
  untouched_keeps s none = ap (λ (o : Option Link). is_some (links s) && is_none o) (untouched_stays s none).0 ∙ some_none (links s)

  is_touched : (s : ℕ) → has s (touched_by index keys) ≡ true → (is_some (links s) && touches changed.before changed.event s) ≡ true
  is_touched s inside =
      sym (touched_of changed.before changed.event links index rising changed.index_is s)
      ∙ ap (λ (k : List Key). has s (touched_by index k)) (sym changed.keys_are) ∙ inside

all_of : (P : ℕ → Type 0) (xs : List ℕ) → ((s : ℕ) → has s xs ≡ true → P s) → AllByRecursion P xs
all_of P [] h = tt
all_of P (x ∷ xs) h = (h x (or_left (x == x) (has x xs) (nat_eq_equiv.refl x)), all_of P xs (λ s k. h s (or_right (x == s) (has s xs) k)))

same_turned : (a b : Link) → same_link a b ≡ same_link b a
same_turned a b =
    one_answer (same_link a b) (same_link b a) (λ e. e, λ e. e)
    (λ h. (link_decides a b).1 (sym ((link_decides b a).0 h)), λ h. (link_decides b a).1 (sym ((link_decides a b).0 h)))

second_false : (a b : Bool) → a ≡ true → (a && b) ≡ false → b ≡ false
second_false true b is h = h
second_false false b is h = cc is

not_false : (b : Bool) → not b ≡ false → b ≡ true
not_false true h = refl
not_false false h = cc h

told_kept : (l : Link) (r : Result Link Unlinked) → is_link r l ≡ is_some (kept false (Some l) r)
told_kept l (Err reason) = refl
told_kept l (Ok now) = same_turned now l ∙ by_test (same_link l now)
  where
    by_test : (b : Bool) → b ≡ is_some (if b then Some now else None)
    by_test true = refl
    by_test false = refl

-- the event retires a loader
abbrev pub is_retirement : Event → Bool
is_retirement (event.Retire loader) = true
is_retirement (event.RetireAll loaders) = true
is_retirement _ = false

not_defined : (w : World) (e : Event) → None ≡ defined_by w e → is_retirement e ≡ false → changes_receivers e ≡ false
not_defined w event.NewLoader is other = refl
not_defined w (event.Define loader file) is other = cc
not_defined w (event.Delegate loader name to) is other = refl
not_defined w (event.Request place) is other = refl
not_defined w (event.NewCallSite kind ty target) is other = refl
not_defined w (event.SetTarget c target) is other = refl
not_defined w event.NewSwitch is other = refl
not_defined w (event.Invalidate points) is other = refl
not_defined w (event.Bind s c) is other = refl
not_defined w (event.Install rows) is other = refl
not_defined w (event.Retire loader) is other = cc
not_defined w (event.RetireAll loaders) is other = cc
not_defined w (event.Release call_sites points) is other = refl

-- the event is the definition of this class
pub record IsDefinition (w : World) (e : Event) (x : ℕ) : Type 0 where
  pub loader : ℕ
  pub file : ClassFile
  pub is : e ≡ event.Define loader file
  pub class : x ≡ length w.classes.rows

definition : (w : World) (e : Event) (x : ℕ) → Some x ≡ defined_by w e → IsDefinition w e x
definition w (event.Define loader file) x is = record { loader = loader; file = file; is = refl; class = same_Some x (length w.classes.rows) is }
definition w event.NewLoader x is = cc
definition w (event.Delegate loader name to) x is = cc
definition w (event.Request place) x is = cc
definition w (event.NewCallSite kind ty target) x is = cc
definition w (event.SetTarget c target) x is = cc
definition w event.NewSwitch x is = cc
definition w (event.Invalidate points) x is = cc
definition w (event.Bind s c) x is = cc
definition w (event.Install rows) x is = cc
definition w (event.Retire loader) x is = cc
definition w (event.RetireAll loaders) x is = cc
definition w (event.Release call_sites points) x is = cc

as_many : (f : ℕ → ℕ) (xs : List ℕ) → AllByRecursion (λ s. f s ≡ 1) xs → sum_by f xs ≡ length xs
as_many f [] all = refl
as_many f (x ∷ xs) all =
    let split = sum_by-cons f x xs in
    let one = all.0 in
    let rest = as_many f xs all.1 in
    omega (arith, split, one, rest)

-- of a class that was defined each site that is asked takes one
pub ones : (w : World) (x : ℕ) (sites : List ℕ) → sum_by (most_asked w (Some x)) sites ≡ length sites
ones w x sites = as_many (most_asked w (Some x)) sites (always sites)
  where
    always : (xs : List ℕ) → AllByRecursion (λ s. most_asked w (Some x) s ≡ 1) xs
    always [] = tt
    always (y ∷ xs) = (refl, always xs)

-- the asked sites take no more than the touched ones
pub asked_within : (index : List (ℕ × Rests)) (keys : List Key) (sites : List ℕ) (f : ℕ → ℕ) → AreRising index → AreAsked index keys sites
    → sum_by f sites ≤ sum_by f (touched_by index keys)
asked_within index keys sites f rising asked =
    sum_within f sites (touched_by index keys) asked.rising (sites_rise (λ r. meets r.footprint keys) index (rises_of index rising)) asked.touched

module _ (world : World) (keys : List Key) (links : ℕ → Option Link) (index : List (ℕ × Rests)) (rising : AreRising index) where
  -- each touched site takes one evaluation, where no loader goes
  pub most_are : (defined : Option ℕ) → (changed : HasChanged world keys defined links index) → is_retirement changed.event ≡ false
      → sum_by (most_asked world defined) (touched_by index keys) ≡ length (touched_by index keys)
  most_are (Some x) changed other = ones world x (touched_by index keys)
  most_are None changed other =
      as_many (most_asked world None) (touched_by index keys)
      (all_of (λ s. most_for world s ≡ 1) (touched_by index keys) (λ s inside.
      ap (λ (w : World). most_for w s) changed.step
      ∙ takes_one_evaluation changed.before changed.event s (not_defined changed.before changed.event changed.defined_is other)
      (and_parts (is_some (links s)) (touches changed.before changed.event s) (is_touched world keys None links index changed rising s inside)).1))

  module _ (x : ℕ) (changed : HasChanged world keys (Some x) links index) where
    is_definition : IsDefinition changed.before changed.event x
    is_definition = definition changed.before changed.event x changed.defined_is

    after : world ≡ step changed.before (event.Define is_definition.loader is_definition.file)
    after = changed.step ∙ ap (step changed.before) is_definition.is

    pub there : x < length world.classes.rows
    there =
        let more = length-append changed.before.classes.rows (class_made changed.before.classes is_definition.loader is_definition.file ∷ []) in
        subst (λ (w : World). x < length w.classes.rows) (sym after) (let is = is_definition.class in omega arith)

    more : (s : ℕ) (l : Link) → links s ≡ Some l → has s (touched_by index keys) ≡ true
        → OneMore changed.before is_definition.loader is_definition.file s l
    more s l is inside =
        one_more changed.before changed.order is_definition.loader is_definition.file s l
        (ap (λ (e : Event). touches changed.before e s) (sym is_definition.is)
        ∙ (and_parts (is_some (links s)) (touches changed.before changed.event s)
        (is_touched world keys (Some x) links index changed rising s inside)).1)
        (changed.scratch s l is)

    -- and what its link rests on stays
    pub footprint_stays : (s : ℕ) → has s (touched_by index keys) ≡ true → rests_at index s ≡ rests_if world s (links s)
    footprint_stays s inside = by_link (links s) refl
      where
        by_link : (o : Option Link) → links s ≡ o → rests_at index s ≡ rests_if world s o
        by_link None is = changed.index_is s ∙ ap (rests_if changed.before s) is
        by_link (Some l) is =
            let one = more s l is inside in
            changed.index_is s ∙ ap (rests_if changed.before s) is
            ∙ ap Some (sym (same_rests changed.before world s (ap (λ (w : World). stage w s) after ∙ one.selects ∙ sym one.before)
            (ap (λ (w : World). footprint w s) after ∙ one.rests_on)))

    -- each site that looks at the new class is told by it
    told_at : (s : ℕ) (o : Option Link) → links s ≡ o → has s (touched_by index keys) ≡ true → IsTold world x links index s
    told_at s None is inside =
        absurd (no_link (ap (λ (o : Option Link). is_some o && touches changed.before changed.event s) (sym is)
        ∙ is_touched world keys (Some x) links index changed rising s inside))
      where
        no_link : false ≡ true → ⊥
        no_link e = cc e
    told_at s (Some l) is inside =
        let here = more s l is inside in
        record {
          link = l;
          is = is;
          rests_on = footprint_stays s inside ∙ ap (rests_if world s) is;
          told = λ stays tells.
              tells here.invocation (ap (λ (w : World). stage w s) after ∙ here.selects) here.selector
              ∙ (λ i. stays_with l (outcome (after i).classes here.invocation (is_definition.class i)))
              ∙ sym here.link
              ∙ ap (λ (w : World). is_link (scratch w s) l) (sym after)
              ∙ told_kept l (scratch world s);
        }

-- each asked site may be
pub each_asked : (world : World) (keys : List Key) (defined : Option ℕ) (links : ℕ → Option Link) (index : List (ℕ × Rests))
    → HasChanged world keys defined links index → AreRising index → (sites : List ℕ) → AreAsked index keys sites
    → AllByRecursion (MayBeAsked world defined links index) sites
each_asked world keys None links index changed rising sites asked =
    all_of (MayBeAsked world None links index) sites (λ s inside. tt)
each_asked world keys (Some x) links index changed rising sites asked =
    all_of (MayBeAsked world (Some x) links index) sites
    (λ s inside. told_at world keys links index rising x changed s (links s) refl (asked.touched s inside))

pub is_there : (world : World) (keys : List Key) (defined : Option ℕ) (links : ℕ → Option Link) (index : List (ℕ × Rests))
    → HasChanged world keys defined links index → AreRising index → IfSome defined (λ x. x < length world.classes.rows)
is_there world keys None links index changed rising = tt
is_there world keys (Some x) links index changed rising = there world keys links index rising x changed

-- ---- sites that are together with a touched one

module _ (world : World) (keys : List Key) (defined : Option ℕ) (links : ℕ → Option Link) (index : List (ℕ × Rests))
    (changed : HasChanged world keys defined links index) (rising : AreRising index) where
  abbrev before : World
  before = changed.before

  -- a site that is in the index has a link, and this is what it rests on
  record IsThere (s : ℕ) (r : Rests) : Type 0 where
    link : Link
    is : links s ≡ Some link
    rests_on : r ≡ rests before s

  is_there_at : (s : ℕ) (r : Rests) → rests_at index s ≡ Some r → IsThere s r
  is_there_at s r at = by_link (links s) refl (sym (changed.index_is s) ∙ at)
    where
      by_link : (o : Option Link) → links s ≡ o → rests_if before s o ≡ Some r → IsThere s r
      by_link None is e = cc
      by_link (Some l) is e = record { link = l; is = is; rests_on = sym (same_Some (rests before s) r e) }

  -- it selects by the form, on the receivers of this class, before the event and after it
  record Selecting (s : ℕ) (c : ℕ) (f : Form) : Type 0 where
    link : links s ≡ Some (link_alike before.classes c f)
    scratch : scratch world s ≡ Ok (link_alike world.classes c f)
    rests_on : rests world s ≡ rests before s

  of_selecting : (s : ℕ) (l : Link) → links s ≡ Some l → (f : Form) → (one : IsSelecting before s f) → changes_receivers changed.event ≡ true
      → Selecting s one.invocation.named f
  of_selecting s l is f one receivers =
      let later =
      selecting_stays changed.accepted.0 before changed.order changed.event s one.invocation changed.accepted.1 receivers (changed.left s l is) one.is in
      let selects : stage world s ≡ Selects one.invocation = ap (λ (w : World). stage w s) changed.step ∙ later.0 in
      let kept : footprint world s ≡ footprint before s = ap (λ (w : World). footprint w s) changed.step ∙ later.1 in
      record {
        link =
            is ∙ ap Some (same_ok l (link_alike before.classes one.invocation.named f)
            (sym (changed.scratch s l is) ∙ ap (link_of before.classes) one.is ∙ ap Ok (one.link before.classes)));
        scratch = ap (link_of world.classes) selects ∙ ap Ok (one.link world.classes);
        rests_on = same_rests before world s (selects ∙ sym one.is) kept;
      }
    where
      same_ok : (a b : Link) → ◌≡◌ {A = Result Link Unlinked} (Ok a) (Ok b) → a ≡ b
      same_ok a b e = cc

  -- both select so
  record Together (s t : ℕ) : Type 0 where
    pub links_are : links s ≡ links t
    pub scratch : scratch world s ≡ scratch world t
    pub rests_on : rests_at index s ≡ rests_if world s (links s)

  are_alike : (s t : ℕ) → has t (touched_by index keys) ≡ true → are_together index s t ≡ true → Together s t
  are_alike s t inside h = by_rests (rests_at index t) (rests_at index s) refl refl h
    where
      by_rests : (o p : Option Rests) → rests_at index t ≡ o → rests_at index s ≡ p
          → option_map_or (λ r. selects r.form && option_map_or (λ q. form_eq q.form r.form && meets r.footprint q.footprint) p false) o false ≡ true
          → Together s t
      by_rests None p at_t at_s h = cc
      by_rests (Some r) None at_t at_s h = absurd (let e = (and_parts (selects r.form) false h).1 in cc)
      by_rests (Some r) (Some q) at_t at_s h =
          let first = and_parts (selects r.form) (form_eq q.form r.form && meets r.footprint q.footprint) h in
          let second = and_parts (form_eq q.form r.form) (meets r.footprint q.footprint) first.1 in
          let of_t = is_there_at t r at_t in
          let of_s = is_there_at s q at_s in
          let form_s : q.form ≡ r.form = form_is q.form r.form second.0 in
          let one = selecting before t (ap (λ (r : Rests). selects r.form) (sym of_t.rests_on) ∙ first.0) in
          let other = selecting before s (ap (λ (r : Rests). selects r.form) (sym of_s.rests_on) ∙ ap selects form_s ∙ first.0) in
          let class = one_class before s t _ _ other one
          ((λ i. meets ((sym of_t.rests_on) i).footprint ((sym of_s.rests_on) i).footprint) ∙ second.1) in
          let receivers = changes before changed.event one.invocation.named
          (key_met one.invocation.named (events.keys before changed.event)
          (ap (λ (ks : List Key). meets ks (events.keys before changed.event)) (sym one.rests_on)
          ∙ (and_parts (is_some (links t)) (touches before changed.event t)
          (is_touched world keys defined links index changed rising t inside)).1)) in
          let forms : (rests before s).form ≡ (rests before t).form =
          ap (λ (r : Rests). r.form) (sym of_s.rests_on) ∙ form_s ∙ ap (λ (r : Rests). r.form) of_t.rests_on in
          let a = of_selecting s of_s.link of_s.is _ other receivers in
          let b = of_selecting t of_t.link of_t.is _ one receivers in
          record {
            links_are = a.link ∙ ap Some (λ i. link_alike before.classes (class i) (forms i)) ∙ sym b.link;
            scratch = a.scratch ∙ ap Ok (λ i. link_alike world.classes (class i) (forms i)) ∙ sym b.scratch;
            rests_on = at_s ∙ ap Some (of_s.rests_on ∙ sym a.rests_on) ∙ ap (rests_if world s) (sym of_s.is);
          }

  go_together : (s t : ℕ) → Together s t → goes world links s ≡ goes world links t
  go_together s t both = λ i. is_some (both.links_are i) && is_none (kept false (both.links_are i) (both.scratch i))

-- ---- once the links that go were dropped

module _ (world : World) (keys : List Key) (defined : Option ℕ) (links : ℕ → Option Link) (index : List (ℕ × Rests))
    (changed : HasChanged world keys defined links index) (rising : AreRising index) (asked gone lost : List ℕ) (now : ℕ → Option Link)
    (are_asked : AreAsked index keys asked) (found : (s : ℕ) → has s gone ≡ (has s asked && goes world links s))
    (listed : (s : ℕ) → has s lost ≡ is_asked index gone s)
    (removed : (s : ℕ) → now s ≡ (if has s lost then None else links s)) where
  -- one that is asked stands for a touched site
  record StandsFor (s : ℕ) (xs : List ℕ) : Type 0 where
    item : ℕ
    there : has item xs ≡ true
    alike : (item ≡ s) ⊎ (are_together index s item ≡ true)

  stands_for : (s : ℕ) (xs : List ℕ) → is_asked index xs s ≡ true → StandsFor s xs
  stands_for s xs h =
      let r = passing_one (λ t. (t == s) || are_together index s t) xs h in
      elim (or_cases (r.item == s) (are_together index s r.item) r.passes) [
        | inl same ↦ record { item = r.item; there = r.there; alike = inl ((Decides-eqb r.item s).0 same) }
        | inr together ↦ record { item = r.item; there = r.there; alike = inr together }
      ]

  are_lost : (s : ℕ) → has s lost ≡ goes world links s
  are_lost s = listed s ∙ one_answer (is_asked index gone s) (goes world links s) (λ e. e, λ e. e) (back, forth)
    where
      forth : is_asked index gone s ≡ true → goes world links s ≡ true
      forth h =
          let one = stands_for s gone h in
          let r = and_parts (has one.item asked) (goes world links one.item) (sym (found one.item) ∙ one.there) in
          by_alike one.item one.alike r.0 r.1
        where
          by_alike : (t : ℕ) → (t ≡ s) ⊎ (are_together index s t ≡ true) → has t asked ≡ true → goes world links t ≡ true → goes world links s ≡ true
          by_alike t (inl same) inside gone = ap (goes world links) (sym same) ∙ gone
          by_alike t (inr together) inside gone =
              go_together world keys defined links index changed rising s t
              (are_alike world keys defined links index changed rising s t (are_asked.touched t inside) together) ∙ gone

      back : goes world links s ≡ true → is_asked index gone s ≡ true
      back h = by_touched (has s (touched_by index keys)) refl
        where
          by_alike : (t : ℕ) → (t ≡ s) ⊎ (are_together index s t ≡ true) → has t asked ≡ true → is_asked index gone s ≡ true
          by_alike t (inl same) inside =
              any_there (λ t. (t == s) || are_together index s t) t gone
              (found t ∙ and_from (has t asked) (goes world links t) inside (ap (goes world links) same ∙ h))
              (or_left (t == s) (are_together index s t) ((Decides-eqb t s).1 same))
          by_alike t (inr together) inside =
              any_there (λ t. (t == s) || are_together index s t) t gone
              (found t ∙ and_from (has t asked) (goes world links t) inside
              (sym (go_together world keys defined links index changed rising s t
              (are_alike world keys defined links index changed rising s t (are_asked.touched t inside) together)) ∙ h))
              (or_right (t == s) (are_together index s t) together)

          by_touched : (b : Bool) → has s (touched_by index keys) ≡ b → is_asked index gone s ≡ true
          by_touched false outside = absurd (both_ways (goes world links s) (untouched_keeps world keys defined links index changed rising s outside) h)
          by_touched true inside = let one = stands_for s asked (are_asked.all s inside) in by_alike one.item one.alike one.there

  are_kept : (s : ℕ) → now s ≡ kept_at world links s
  are_kept s = removed s ∙ ap (λ (b : Bool). if b then None else links s) (are_lost s) ∙ kept_or (links s) (scratch world s)

  up_to_date : (left : List (ℕ × Rests)) → IsIndex world now left → AreUpToDate world (λ s. false) links now left lost
  up_to_date left indexed = record {
    links = are_kept;
    index = indexed;
    lost = λ s. are_lost s ∙ ap (λ (o : Option Link). is_some (links s) && is_none o) (sym (are_kept s));
  }

  -- what a site rests on that keeps its link, where one was asked for it
  kept_rests : (s : ℕ) → has s asked ≡ false → rests_at index s ≡ rests_if world s (links s)
  kept_rests s other = by_touched (has s (touched_by index keys)) refl
    where
      by_alike : (t : ℕ) → (t ≡ s) ⊎ (are_together index s t ≡ true) → has t asked ≡ true → rests_at index s ≡ rests_if world s (links s)
      by_alike t (inl same) inside = absurd (both_ways (has s asked) other (ap (λ n. has n asked) (sym same) ∙ inside))
      by_alike t (inr together) inside = (are_alike world keys defined links index changed rising s t (are_asked.touched t inside) together).rests_on

      by_touched : (b : Bool) → has s (touched_by index keys) ≡ b → rests_at index s ≡ rests_if world s (links s)
      by_touched false outside = sym (untouched_stays world keys defined links index changed rising s outside).1
      by_touched true inside = let one = stands_for s asked (are_asked.all s inside) in by_alike one.item one.alike one.there

  -- the asked sites were looked up again
  refreshed : (left : List (ℕ × Rests))
      → ((s : ℕ) → rests_at left s ≡ (if has s asked then rests_if world s (now s) else if has s lost then None else rests_at index s))
      → AreUpToDate world (λ s. false) links now left lost
  refreshed left indexed = up_to_date left (λ s. indexed s ∙ by_asked s (has s asked) refl)
    where
      by_lost : (s : ℕ) → has s asked ≡ false → (b : Bool) → has s lost ≡ b → (if b then None else rests_at index s) ≡ rests_if world s (now s)
      by_lost s other true is = ap (rests_if world s) (sym (removed s ∙ ap (λ (b : Bool). if b then None else links s) is))
      by_lost s other false is =
          kept_rests s other ∙ ap (rests_if world s) (sym (removed s ∙ ap (λ (b : Bool). if b then None else links s) is))

      by_asked : (s : ℕ) (b : Bool) → has s asked ≡ b
          → (if b then rests_if world s (now s) else if has s lost then None else rests_at index s) ≡ rests_if world s (now s)
      by_asked s true is = refl
      by_asked s false is = by_lost s is (has s lost) refl

  -- the sites whose links went were taken out, and what the others rest on stays
  left_out : ((s : ℕ) → has s (touched_by index keys) ≡ true → rests_at index s ≡ rests_if world s (links s))
      → (left : List (ℕ × Rests)) → ((s : ℕ) → rests_at left s ≡ (if has s lost then None else rests_at index s))
      → AreUpToDate world (λ s. false) links now left lost
  left_out rests_on left taken =
      up_to_date left (λ s. taken s ∙ by_lost s (has s lost) ∙ ap (rests_if world s) (sym (removed s)))
    where
      as_before : (s : ℕ) (b : Bool) → has s (touched_by index keys) ≡ b → rests_at index s ≡ rests_if world s (links s)
      as_before s true is = rests_on s is
      as_before s false is = sym (untouched_stays world keys defined links index changed rising s is).1

      by_lost : (s : ℕ) (b : Bool) → (if b then None else rests_at index s) ≡ rests_if world s (if b then None else links s)
      by_lost s true = refl
      by_lost s false = as_before s (has s (touched_by index keys)) refl

-- ---- what is told of one site

pub told_gone : (w : World) (x : ℕ) (links : ℕ → Option Link) (s : ℕ) (index : List (ℕ × Rests)) (l : Link) (stays : Bool)
    → IsTold w x links index s → links s ≡ Some l
    → TellsStay w s l x stays → not stays ≡ goes w links s
told_gone w x links s index l stays told is tells = sym (ap (λ (o : Option Link). is_some o && is_none (kept false o (scratch w s))) is
    ∙ by_kept (kept false (Some l) (scratch w s)) said)
  where
    said : stays ≡ is_some (kept false (Some l) (scratch w s))
    said =
        let same : told.link ≡ l = same_Some told.link l (sym told.is ∙ is) in
        told.told stays (subst (λ (m : Link). TellsStay w s m x stays) (sym same) tells) ∙ ap (λ (m : Link). is_some (kept false (Some m) (scratch w s))) same

    by_kept : (o : Option Link) → stays ≡ is_some o → is_none o ≡ not stays
    by_kept None e = sym (ap not e)
    by_kept (Some k) e = sym (ap not e)

-- ---- installs

not_with : (rows : List (ℕ × Link)) (before : Option Link) (s : ℕ) → has s (map (λ (row : ℕ × Link). row.0) rows) ≡ false → link_with rows before s ≡ before
not_with [] before s e = refl
not_with (row ∷ rows) before s e = by_test (row.0 == s) e (λ f. not_with rows before s f)
  where
    by_test : (b : Bool) → (b || has s (map (λ (row : ℕ × Link). row.0) rows)) ≡ false
        → (has s (map (λ (row : ℕ × Link). row.0) rows) ≡ false → link_with rows before s ≡ before)
        → link_with rows (if b then Some row.1 else before) s ≡ before
    by_test true f rest = cc
    by_test false f rest = rest f

-- the index is that of the links once the installed sites were looked up
pub installed_index : (w : World) (rows : List (ℕ × Link)) (links now : ℕ → Option Link) (index left : List (ℕ × Rests)) → IsIndex w links index
    → ((s : ℕ) → now s ≡ link_with rows (links s) s)
    → ((s : ℕ) → rests_at left s ≡ (if has s (map (λ (row : ℕ × Link). row.0) rows) then rests_if w s (now s) else rests_at index s))
    → IsIndex w now left
installed_index w rows links now index left was linked looked s = looked s ∙ by_test (has s (map (λ (row : ℕ × Link). row.0) rows)) refl
  where
    by_test : (b : Bool) → has s (map (λ (row : ℕ × Link). row.0) rows) ≡ b
        → (if b then rests_if w s (now s) else rests_at index s) ≡ rests_if w s (now s)
    by_test true e = refl
    by_test false e = was s ∙ ap (rests_if w s) (sym (linked s ∙ not_with rows (links s) s e))

-- ---- once all is done

pub are_up_to_date : (world : World) (keys : List Key) (defined : Option ℕ) (links : ℕ → Option Link) (index : List (ℕ × Rests))
    → (changed : HasChanged world keys defined links index) → (rising : AreRising index) → (asked gone lost : List ℕ) (now : ℕ → Option Link)
    → AreAsked index keys asked → ((s : ℕ) → has s gone ≡ (has s asked && goes world links s))
    → ((s : ℕ) → has s lost ≡ is_asked index gone s)
    → ((s : ℕ) → now s ≡ (if has s lost then None else links s))
    → (left : List (ℕ × Rests))
    → (is_some defined ≡ true → (s : ℕ) → rests_at left s ≡ (if has s lost then None else rests_at index s))
    → (is_some defined ≡ false → (s : ℕ)
    → rests_at left s ≡ (if has s asked then rests_if world s (now s) else if has s lost then None else rests_at index s))
    → AreUpToDate world (λ s. false) links now left lost
are_up_to_date world keys None links index changed rising asked gone lost now are_asked found listed removed left taken looked_up =
    refreshed world keys None links index changed rising asked gone lost now are_asked found listed removed left (looked_up refl)
are_up_to_date world keys (Some x) links index changed rising asked gone lost now are_asked found listed removed left taken looked_up =
    left_out world keys (Some x) links index changed rising asked gone lost now are_asked found listed removed
    (footprint_stays world keys links index rising x changed) left (taken refl)

pub on_ok : {A E : Type 0} {P Q : Type 0} → (r : Result A E) → (P → Q) → OnOk r P → OnOk r Q
on_ok (Ok x) f p = f p
on_ok (Err e) f p = p
