-- The classes of the fresh core: each event of a loader that stays is accepted, and leads to what is there by then of what stays.
use Rattle.std.specs.Prelude.{◌≡◌, ℕ, zero, suc, ◌<◌, ◌≤◌, ◌||◌, not, nat_le, Bool, true, false, List, [], ◌∷◌, ◌++◌, filter_map, find, length, fold}
use Rattle.std.specs.Prelude.{slice_get, slice_set, Option, Some, None, option_map, option_and_then, is_some, is_none, if◌then◌else◌, IsOk}
use Rattle.std.specs.Option.{option_map_or}
use Rattle.std.specs.Bool.{then_some}
use Rattle.std.specs.Str.{bytes_eq}
use Rattle.std.proofs.Common.{refl, sym, ap, subst, ◌∙◌, arith, append_assoc, length-append}
use Rattle.std.proofs.lemmas.Bool.{both_ways, or_right}
use Rattle.std.proofs.lemmas.Slice.Eq.{bytes_eq-Decides}
use Rattle.std.proofs.lemmas.Bool.Decides.{nat_tests}
use Rattle.std.proofs.lemmas.List.{append-nil}
use Rattle.std.proofs.lemmas.List.Sums.{fold-append}
use Rattle.std.proofs.lemmas.Option.{slice_get_within}
use Rattle.jl_types.specs.declared.limits.Limits.{Limits}
use Rattle.jl_class.specs.Class.{ClassFile}
use Rattle.jl_types.specs.declared.event.EventOf.TheVariants as event
use Rattle.jl_types.specs.declared.event.Made.{Made}
use Rattle.jl_types.specs.declared.refusal.Refusal.{Refusal}
use Rattle.jl_types.specs.declared.refusal.Refusal.TheVariants as refusal
use Rattle.jl_types.specs.declared.refusal.DelegateFault.TheVariants as delegate
use Rattle.jl_types.specs.Values.World.{World, Class, Classes, nothing_yet}
use Rattle.jl_types.specs.Values.Members.{lookup, recorded, is_present, is_retired}
use Rattle.jl_types.specs.Linkage.Resolution.{first_of}
use Rattle.jl_types.specs.Events.Event.{Event}
use Rattle.jl_types.specs.Events.Verdict.{verdict, step, unless, with_classes}
use Rattle.jl_types.specs.Events.History.{world_after}
use Rattle.jl_types.specs.Events.Definitions.{define_fault, class_made, delegate_fault, delegated, is_unknown, with_record}
use Rattle.jl_types.specs.Events.Retirement.{is_listed, retired, MayRetire}
use Rattle.jl_types.proofs.Firsts.{first_none, test_none}
use Rattle.jl_types.proofs.Lists.{at_end, element_at}
use Rattle.jl_types.proofs.Orders.{world_good, looked_up}
use Rattle.jl_types.proofs.Places.{world_more}
use Rattle.jl_types.proofs.Retiring.{retired_after, may_retire, is_free as free_to_retire}
use Rattle.jl_hierarchy.specs.Constancy.{IsClosed}
use Rattle.jl_relink.proofs.Closing.{no_fault, free_loader, free_loaders}
use Rattle.jl_memo.proofs.Staying.{StaysOn, all_events}
use Rattle.jl_renewal.specs.declared.released.Released.{Released}
use Rattle.jl_renewal.specs.Numbers.{Numbers, new_number, renumbered, how_many}
use Rattle.jl_renewal.specs.Staying.{numbers_of, staying_loaders, staying_classes}
use Rattle.jl_renewal.specs.Renewal.{class_event, definer}
use Rattle.jl_renewal.proofs.Fit.{IsFit}
use Rattle.jl_renewal.proofs.NumberLaws.{number_is, renumbered_is, number_gone}
use Rattle.jl_renewal.proofs.Phases.{OneStep, Leads, leads_through}
use Rattle.jl_renewal.proofs.ClassLaws.{fresh_of, loader_stays, loader_goes, class_stays}
use Rattle.jl_renewal.proofs.ClassSteps.{IsEarlier, l_stays, finds, known_still, define_accepted, is_free}
use Rattle.jl_renewal.proofs.DefinedLaws.{defined_same, defined_gone, delegated_same, delegated_gone, retired_gone, loader_more}
use Rattle.jl_renewal.proofs.MovedLists.{length_set, length_emptied}

-- ---- loaders only get more

as_many : (loaders : List (List (List ℕ × ℕ))) (l : ℕ) (name : List ℕ) (c : ℕ) → length (with_record loaders l name c) ≡ length loaders
as_many loaders l name c = by_loader (slice_get loaders l)
  where
    by_loader : (o : Option (List (List ℕ × ℕ)))
        → length (option_map_or (λ records. slice_set loaders l (records ++ (name, c) ∷ [])) o loaders) ≡ length loaders
    by_loader None = refl
    by_loader (Some records) = length_set loaders l (records ++ (name, c) ∷ [])

loaders_step : (w : World) (e : Event) → length w.classes.loaders ≤ length (step w e).classes.loaders
loaders_step w event.NewLoader = let more = length-append w.classes.loaders ([] ∷ []) in omega (arith, more)
loaders_step w (event.Define l file) = let same = as_many w.classes.loaders l file.name (length w.classes.rows) in omega (arith, same)
loaders_step w (event.Delegate l name to) = by_class (lookup w.classes to name)
  where
    by_class : (o : Option ℕ) → length w.classes.loaders ≤ length (option_map_or (with_record w.classes.loaders l name) o w.classes.loaders)
    by_class None = omega arith
    by_class (Some c) = let same = as_many w.classes.loaders l name c in omega (arith, same)
loaders_step w (event.Request place) = omega arith
loaders_step w (event.NewCallSite kind ty t) = omega arith
loaders_step w (event.SetTarget c t) = omega arith
loaders_step w event.NewSwitch = omega arith
loaders_step w (event.Invalidate points) = omega arith
loaders_step w (event.Bind s c) = omega arith
loaders_step w (event.Install rows) = omega arith
loaders_step w (event.Retire l) = let same = length_emptied w.classes.loaders (l ∷ []) in omega (arith, same)
loaders_step w (event.RetireAll loaders) = let same = length_emptied w.classes.loaders loaders in omega (arith, same)
loaders_step w (event.Release call_sites points) = omega arith

pub loaders_after : (es : List Event) (w : World) → length w.classes.loaders ≤ length (fold step w es).classes.loaders
loaders_after [] w = omega arith
loaders_after (e ∷ es) w = let first = loaders_step w e in let rest = loaders_after es (step w e) in omega (arith, first, rest)

-- ---- small facts

known_there : (cs : Classes) (l : ℕ) → is_unknown cs l ≡ false → l < length cs.loaders
known_there cs l e = within (length cs.loaders) l (first (nat_le (length cs.loaders) l) (is_retired cs l) e)
  where
    first : (a b : Bool) → (a || b) ≡ false → a ≡ false
    first true b e = cc
    first false b e = refl

    within : (a b : ℕ) → nat_le a b ≡ false → b < a
    within a b e = grind (arith, nat_tests, e)

accepted_by : {A : Type 0} (F : A → Refusal) (o : Option A) (m : Made) → o ≡ None → IsOk (unless (option_map F o) m)
accepted_by F None m e = refl
accepted_by F (Some a) m e = cc

pub lookup_there : (cs : Classes) (l : ℕ) (name : List ℕ) (c : ℕ) → lookup cs l name ≡ Some c → l < length cs.loaders
lookup_there cs l name c = by_loader (slice_get cs.loaders l) refl
  where
    by_loader : (o : Option (List (List ℕ × ℕ))) → slice_get cs.loaders l ≡ o → option_and_then (recorded name) o ≡ Some c → l < length cs.loaders
    by_loader None is e = cc
    by_loader (Some records) is e = slice_get_within cs.loaders l records is

none_some : {A : Type 0} (o : Option A) → is_none o ≡ false → (a : A) × (o ≡ Some a)
none_some None e = cc
none_some (Some a) e = (a, refl)

none_first : {A : Type 0} (o : Option A) (rest : List (Option A)) → o ≡ None → first_of rest ≡ None → first_of (o ∷ rest) ≡ None
none_first None rest e none = none
none_first (Some a) rest e none = cc

none_test : {A : Type 0} (b : Bool) (x : A) → b ≡ false → then_some b x ≡ None
none_test true x e = cc
none_test false x e = refl

or_false : (a b : Bool) → a ≡ false → b ≡ false → (a || b) ≡ false
or_false true b ea eb = cc
or_false false b ea eb = eb

-- what no fault of a delegation says
may_delegate : (cs : Classes) (l : ℕ) (name : List ℕ) (to : ℕ) → delegate_fault cs l name to ≡ None
    → ((is_unknown cs l || is_unknown cs to) ≡ false) × (is_none (lookup cs to name) ≡ false) × (is_some (lookup cs l name) ≡ false)
may_delegate cs l name to none =
    let known = first_none (then_some (is_unknown cs l || is_unknown cs to) delegate.UnknownLoader) _ none in
    let found = first_none (then_some (is_none (lookup cs to name)) delegate.NotRecorded) _ known.1 in
    let new = first_none (then_some (is_some (lookup cs l name)) delegate.AlreadyRecorded) _ found.1 in (
      test_none _ delegate.UnknownLoader known.0,
      test_none _ delegate.NotRecorded found.0,
      test_none _ delegate.AlreadyRecorded new.0,
    )

-- the loader finds what it has recorded anew
found_new : (loaders : List (List (List ℕ × ℕ))) (l : ℕ) (name : List ℕ) (c : ℕ) → l < length loaders
    → is_some (option_and_then (recorded name) (slice_get loaders l)) ≡ false
    → option_and_then (recorded name) (slice_get (with_record loaders l name c) l) ≡ Some c
found_new loaders l name c there none =
    let records = element_at loaders l there in
    ap (λ (o : Option (List (List ℕ × ℕ))). option_and_then (recorded name)
    (slice_get (option_map_or (λ records. slice_set loaders l (records ++ (name, c) ∷ [])) o loaders) l)) records.1
    ∙ (ap (option_and_then (recorded name)) (set_there loaders l (records.0 ++ (name, c) ∷ []) there)
    ∙ at_last records.0 (sym (ap (λ (o : Option (List (List ℕ × ℕ))). is_some (option_and_then (recorded name) o)) records.1) ∙ none))
  where
    set_there : (xs : List (List (List ℕ × ℕ))) (i : ℕ) (x : List (List ℕ × ℕ)) → i < length xs → slice_get (slice_set xs i x) i ≡ Some x
    set_there [] i x lt = absurd (omega (arith, lt))
    set_there (y ∷ xs) zero x lt = refl
    set_there (y ∷ xs) (suc i) x lt = set_there xs i x (omega (arith, lt))

    at_last : (records : List (List ℕ × ℕ)) → is_some (recorded name records) ≡ false → recorded name (records ++ (name, c) ∷ []) ≡ Some c
    at_last [] none = ap (λ (b : Bool). option_map (λ (r : List ℕ × ℕ). r.1) (if b then Some (name, c) else None)) ((bytes_eq-Decides name name).1 refl)
    at_last (r ∷ records) none = by_test (bytes_eq r.0 name) (at_last records) none
      where
        by_test : (b : Bool) → (is_some (recorded name records) ≡ false → recorded name (records ++ (name, c) ∷ []) ≡ Some c)
            → is_some (option_map (λ (r : List ℕ × ℕ). r.1) (if b then Some r else find (λ (r : List ℕ × ℕ). bytes_eq r.0 name) records)) ≡ false
            → option_map (λ (r : List ℕ × ℕ). r.1) (if b then Some r else find (λ (r : List ℕ × ℕ). bytes_eq r.0 name) (records ++ (name, c) ∷ [])) ≡ Some c
        by_test true rest none = cc
        by_test false rest none = rest none

-- a world of these classes alone
abbrev pub of_classes : Classes → World
of_classes cs = record { classes = cs; places = []; bindings = []; sites = record { call_sites = []; switches = [] } }

-- ---- one event of the old log

module _ (old_limits : Limits) (h : List Event) (released : Released) (closed : IsClosed (world_after h).classes)
    (fits : (front rest : List Event) → h ≡ front ++ rest → IsFit (world_after front))
    (accepted : (front : List Event) (e : Event) (rest : List Event) → h ≡ front ++ e ∷ rest → IsOk (verdict old_limits (world_after front) e))
    (limits : Limits) (few : how_many (staying_classes (world_after h).classes) ≤ limits.classes) where
  abbrev w : World
  w = world_after h

  abbrev n : Numbers
  n = numbers_of w released

  -- the fresh core once the events of a front are gone over
  abbrev pub G : List Event → World
  G front = of_classes (fresh_of w released (world_after front).classes)

  owned : (c : ℕ) (row : Class) → slice_get w.classes.rows c ≡ Some row → is_retired w.classes row.loader ≡ false
      → slice_get (staying_loaders w.classes) row.loader ≡ Some true
  owned c row is live =
      let fit = fits h [] (sym (append-nil h)) in
      loader_stays w.classes row.loader (lookup_there w.classes row.loader row.file.name c (fit.found c row is live)) live

  module _ (front : List Event) (e : Event) (rest : List Event) (split : h ≡ front ++ e ∷ rest) where
    abbrev mid : World
    mid = world_after front

    abbrev next : World
    next = step mid e

    on : StaysOn mid w
    on = subst (λ (k : List Event). StaysOn mid (world_after k)) (sym split) (all_events (e ∷ rest) front)

    on_next : StaysOn next w
    on_next =
        subst (λ (v : World). StaysOn v w) (world_more front e)
        (subst (λ (k : List Event). StaysOn (world_after (front ++ e ∷ [])) (world_after k)) (append_assoc front (e ∷ []) rest ∙ sym split)
        (all_events rest (front ++ e ∷ [])))

    last_is : fold step mid (e ∷ rest) ≡ w
    last_is = sym (fold-append step nothing_yet front (e ∷ rest)) ∙ ap world_after (sym split)

    fewer : length mid.classes.loaders ≤ length w.classes.loaders
    fewer = subst (λ (v : World). length mid.classes.loaders ≤ length v.classes.loaders) last_is (loaders_after (e ∷ rest) mid)

    fewer_next : length next.classes.loaders ≤ length w.classes.loaders
    fewer_next = subst (λ (v : World). length next.classes.loaders ≤ length v.classes.loaders) last_is (loaders_after rest next)

    earlier : IsEarlier w mid.classes
    earlier = record {
      loaders = fewer;
      first = closed.first;
      some = let more = loaders_after front nothing_yet in omega (arith, more);
      rows = on.classes.rows;
      owned = owned;
      found = λ l name c live is. (
        closed.records l name c live (on.classes.records l name c live is),
        element_at mid.classes.rows c (looked_up mid.classes (world_good front) l name c is),
      );
    }

    -- what is gone over leaves the fresh core as it is
    leaves : fresh_of w released next.classes ≡ fresh_of w released mid.classes → G (front ++ e ∷ []) ≡ G front
    leaves same = ap (λ (v : World). of_classes (fresh_of w released v.classes)) (world_more front e) ∙ ap of_classes same

    -- or leads to these classes
    leads_to : (cs : Classes) → cs ≡ fresh_of w released next.classes → of_classes cs ≡ G (front ++ e ∷ [])
    leads_to cs same = ap of_classes same ∙ sym (ap (λ (v : World). of_classes (fresh_of w released v.classes)) (world_more front e))

    renumbered_live : (l : ℕ) → is_retired w.classes l ≡ false → l < length mid.classes.loaders → new_number n.loaders l ≡ Some (renumbered n.loaders l)
    renumbered_live l live there =
        let stays = l_stays w released mid.classes earlier l live there in
        number_is (staying_loaders w.classes) l stays ∙ ap Some (sym (renumbered_is (staying_loaders w.classes) l stays))

    none_gone : (l : ℕ) → is_retired w.classes l ≡ true → l < length mid.classes.loaders → new_number n.loaders l ≡ None
    none_gone l gone there = number_gone (staying_loaders w.classes) l (loader_goes w.classes l (let le = fewer in omega (arith, there, le)) gone)

    -- an event that changes no class
    quiet : next.classes ≡ mid.classes → OneStep limits (G front) None (G (front ++ e ∷ []))
    quiet same = leaves (ap (fresh_of w released) same)

  -- ---- a definition

  module _ (front : List Event) (l : ℕ) (file : ClassFile) (rest : List Event) (split : h ≡ front ++ event.Define l file ∷ rest) where
    abbrev before : Classes
    before = (world_after front).classes

    free : define_fault old_limits.classes before l file ≡ None
    free = no_fault refusal.Define (define_fault old_limits.classes before l file) _ (accepted front (event.Define l file) rest split)

    l_there : l < length before.loaders
    l_there = known_there before l (is_free old_limits.classes before l file free).known

    last : slice_get w.classes.rows (length before.rows) ≡ Some (class_made before l file)
    last =
        (on_next front (event.Define l file) rest split).classes.rows (length before.rows) (class_made before l file)
        (at_end before.rows (class_made before l file))

    -- it is of a loader that stays, and so stays
    its : is_retired w.classes l ≡ false → slice_get (staying_classes w.classes) (length before.rows) ≡ Some true
    its live =
        class_stays w.classes (length before.rows)
        (ap (λ (o : Option Class). option_map_or (λ row. not (is_retired w.classes row.loader)) o false) last ∙ ap not live)

    define_step : OneStep limits (G front) (class_event w n (event.Define l file)) (G (front ++ event.Define l file ∷ []))
    define_step = by_live (is_retired w.classes l) refl
      where
        is : IsEarlier w before
        is = earlier front (event.Define l file) rest split

        by_live : (b : Bool) → is_retired w.classes l ≡ b
            → OneStep limits (G front) (class_event w n (event.Define l file)) (G (front ++ event.Define l file ∷ []))
        by_live true gone =
            subst (λ (o : Option ℕ). OneStep limits (G front) (option_map (λ k. event.Define k file) o) (G (front ++ event.Define l file ∷ [])))
            (sym (none_gone front (event.Define l file) rest split l gone l_there))
            (leaves front (event.Define l file) rest split
            (defined_gone w released before l gone (let le = is.loaders in let there = l_there in omega (arith, le, there)) l_there file last))
        by_live false live =
            subst (λ (o : Option ℕ). OneStep limits (G front) (option_map (λ k. event.Define k file) o) (G (front ++ event.Define l file ∷ [])))
            (sym (renumbered_live front (event.Define l file) rest split l live l_there)) (
              accepted_by refusal.Define _ _ (define_accepted w released before is l live l_there file limits.classes few (its live) old_limits.classes free),
              leads_to front (event.Define l file) rest split _ (defined_same w released before is l live l_there file last),
            )

  -- ---- a delegation

  module _ (front : List Event) (l : ℕ) (name : List ℕ) (to : ℕ) (rest : List Event) (split : h ≡ front ++ event.Delegate l name to ∷ rest) where
    abbrev sooner : Classes
    sooner = (world_after front).classes

    abbrev e : Event
    e = event.Delegate l name to

    abbrev k : ℕ
    k = renumbered n.loaders l

    abbrev fresh : Classes
    fresh = fresh_of w released sooner

    unrefused : delegate_fault sooner l name to ≡ None
    unrefused = no_fault refusal.Delegate (delegate_fault sooner l name to) _ (accepted front e rest split)

    unknown : (is_unknown sooner l || is_unknown sooner to) ≡ false
    unknown = (may_delegate sooner l name to unrefused).0

    loader_there : l < length sooner.loaders
    loader_there = known_there sooner l (first (is_unknown sooner l) (is_unknown sooner to) unknown)
      where
        first : (a b : Bool) → (a || b) ≡ false → a ≡ false
        first true b e = cc
        first false b e = refl

    -- the class that the other loader finds
    given : (c : ℕ) × (lookup sooner to name ≡ Some c)
    given = none_some (lookup sooner to name) (may_delegate sooner l name to unrefused).1

    is_new : is_some (lookup sooner l name) ≡ false
    is_new = (may_delegate sooner l name to unrefused).2

    found_now : lookup (delegated sooner l name to) l name ≡ Some given.0
    found_now =
        ap (λ (o : Option ℕ). lookup (record sooner { loaders = option_map_or (with_record sooner.loaders l name) o sooner.loaders }) l name) given.1
        ∙ found_new sooner.loaders l name given.0 loader_there is_new

    is : IsEarlier w sooner
    is = earlier front e rest split

    module _ (live : is_retired w.classes l ≡ false) where
      found_last : lookup w.classes l name ≡ Some given.0
      found_last = (on_next front e rest split).classes.records l name given.0 live found_now

      -- the class stays, and its loader gives it
      present : is_present w.classes given.0 ≡ true
      present = closed.records l name given.0 live found_last

      row : (r : Class) × (slice_get sooner.rows given.0 ≡ Some r)
      row = element_at sooner.rows given.0 (looked_up sooner (world_good front) to name given.0 given.1)

      abbrev d : ℕ
      d = row.0.loader

      last_row : slice_get w.classes.rows given.0 ≡ Some row.0
      last_row = is.rows given.0 row.0 row.1

      d_live : is_retired w.classes d ≡ false
      d_live =
          not_true (is_retired w.classes d)
          (sym (ap (λ (o : Option Class). option_map_or (λ r. not (is_retired w.classes r.loader)) o false) last_row) ∙ present)
        where
          not_true : (b : Bool) → not b ≡ true → b ≡ false
          not_true true e = cc
          not_true false e = refl

      fit : IsFit (world_after front)
      fit = fits front (e ∷ rest) split

      d_finds : lookup sooner d name ≡ Some given.0
      d_finds =
          ap (lookup sooner d) (sym (fit.named to name given.0 row.0 given.1 row.1))
          ∙ fit.found given.0 row.0 row.1 ((on front e rest split).alive d d_live)

      d_there : d < length sooner.loaders
      d_there = lookup_there sooner d name given.0 d_finds

      fresh_finds : lookup fresh (renumbered n.loaders d) name ≡ Some (renumbered n.classes given.0)
      fresh_finds = finds w released sooner is d d_live d_there name ∙ ap (option_map (renumbered n.classes)) d_finds

      is_delegation : class_event w n e ≡ Some (event.Delegate k name (renumbered n.loaders d))
      is_delegation =
          ap (option_and_then (λ j. option_map (event.Delegate j name) (option_and_then (new_number n.loaders) (definer w.classes l name))))
          (renumbered_live front e rest split l live loader_there)
          ∙ ap (option_map (event.Delegate k name))
          (ap (λ (o : Option ℕ). option_and_then (new_number n.loaders)
          (option_and_then (λ c. option_map (λ (r : Class). r.loader) (slice_get w.classes.rows c)) o)) found_last
          ∙ (ap (λ (o : Option Class). option_and_then (new_number n.loaders) (option_map (λ (r : Class). r.loader) o)) last_row
          ∙ renumbered_live front e rest split d d_live d_there))

      no_delegate_fault : delegate_fault fresh k name (renumbered n.loaders d) ≡ None
      no_delegate_fault =
          none_first _ _ (none_test _ delegate.UnknownLoader
          (or_false _ _ (known_still w released sooner is l live loader_there) (known_still w released sooner is d d_live d_there)))
          (none_first _ _ (none_test _ delegate.NotRecorded (ap is_none fresh_finds))
          (none_first _ _ (none_test _ delegate.AlreadyRecorded
          (ap is_some (finds w released sooner is l live loader_there name) ∙ (some_map (lookup sooner l name) ∙ is_new))) refl))
        where
          some_map : (o : Option ℕ) → is_some (option_map (renumbered n.classes) o) ≡ is_some o
          some_map None = refl
          some_map (Some c) = refl

      live_step : OneStep limits (G front) (class_event w n e) (G (front ++ e ∷ []))
      live_step =
          subst (λ (o : Option Event). OneStep limits (G front) o (G (front ++ e ∷ []))) (sym is_delegation) (
            accepted_by refusal.Delegate _ _ no_delegate_fault,
            leads_to front e rest split _
                (delegated_same w released sooner is l live loader_there name to (renumbered n.loaders d) given.0 given.1 fresh_finds),
          )

    delegate_step : OneStep limits (G front) (class_event w n e) (G (front ++ e ∷ []))
    delegate_step = by_live (is_retired w.classes l) refl
      where
        by_live : (b : Bool) → is_retired w.classes l ≡ b → OneStep limits (G front) (class_event w n e) (G (front ++ e ∷ []))
        by_live true gone =
            subst (λ (o : Option ℕ). OneStep limits (G front)
            (option_and_then (λ j. option_map (event.Delegate j name) (option_and_then (new_number n.loaders) (definer w.classes l name))) o)
            (G (front ++ e ∷ [])))
            (sym (none_gone front e rest split l gone loader_there))
            (leaves front e rest split
            (delegated_gone w released sooner l gone (let le = is.loaders in let there = loader_there in omega (arith, le, there)) loader_there name to))
        by_live false live = live_step live

  -- ---- retirements, and a loader more

  module _ (front : List Event) (loaders : List ℕ) (may : MayRetire (world_after front).classes loaders)
      (on_retired : StaysOn (with_classes (world_after front) (retired (world_after front).classes loaders)) w)
      (few_then : length (world_after front).classes.loaders ≤ length w.classes.loaders) where
    abbrev held : Classes
    held = (world_after front).classes

    each_there : (l : ℕ) → is_listed loaders l ≡ true → l < length held.loaders
    each_there l listed = known_there held l ((free_to_retire held loaders may).known l listed)

    each_gone : (l : ℕ) → is_listed loaders l ≡ true → is_retired w.classes l ≡ true
    each_gone l listed = by_live (is_retired w.classes l) refl
      where
        now : is_retired (retired held loaders) l ≡ true
        now = retired_after held loaders l ∙ or_right (is_retired held l) (is_listed loaders l) listed

        by_live : (b : Bool) → is_retired w.classes l ≡ b → b ≡ true
        by_live true is = refl
        by_live false is = absurd (both_ways (is_retired (retired held loaders) l) (on_retired.alive l is) now)

    retired_leaves : fresh_of w released (retired held loaders) ≡ fresh_of w released held
    retired_leaves =
        retired_gone w released held loaders
        (λ l listed.
        let there = each_there l listed in
        (loader_goes w.classes l (omega (arith, there, few_then)) (each_gone l listed), there))

  retire_step : (front : List Event) (l : ℕ) (rest : List Event) → h ≡ front ++ event.Retire l ∷ rest
      → OneStep limits (G front) None (G (front ++ event.Retire l ∷ []))
  retire_step front l rest split =
      let free = free_loader old_limits (world_after front) l (accepted front (event.Retire l) rest split) in
      leaves front (event.Retire l) rest split
      (retired_leaves front (l ∷ []) (may_retire (world_after front) (l ∷ []) free)
      (on_next front (event.Retire l) rest split) (fewer front (event.Retire l) rest split))

  retire_all_step : (front : List Event) (loaders : List ℕ) (rest : List Event) → h ≡ front ++ event.RetireAll loaders ∷ rest
      → OneStep limits (G front) None (G (front ++ event.RetireAll loaders ∷ []))
  retire_all_step front loaders rest split =
      let free = free_loaders old_limits (world_after front) loaders (accepted front (event.RetireAll loaders) rest split) in
      leaves front (event.RetireAll loaders) rest split
      (retired_leaves front loaders (may_retire (world_after front) loaders free)
      (on_next front (event.RetireAll loaders) rest split) (fewer front (event.RetireAll loaders) rest split))

  loader_step : (front rest : List Event) → h ≡ front ++ event.NewLoader ∷ rest → OneStep limits (G front) None (G (front ++ event.NewLoader ∷ []))
  loader_step front rest split =
      leaves front event.NewLoader rest split
      (loader_more w released (world_after front).classes
      (let le = fewer_next front event.NewLoader rest split in
      let more = length-append (world_after front).classes.loaders ([] ∷ []) in
      omega (arith, le, more)))

  -- ---- all of them

  each : (front : List Event) (e : Event) (rest : List Event) → h ≡ front ++ e ∷ rest
      → OneStep limits (G front) (class_event w n e) (G (front ++ e ∷ []))
  each front event.NewLoader rest split = loader_step front rest split
  each front (event.Define l file) rest split = define_step front l file rest split
  each front (event.Delegate l name to) rest split = delegate_step front l name to rest split
  each front (event.Request place) rest split = quiet front (event.Request place) rest split refl
  each front (event.NewCallSite kind ty t) rest split = quiet front (event.NewCallSite kind ty t) rest split refl
  each front (event.SetTarget c t) rest split = quiet front (event.SetTarget c t) rest split refl
  each front event.NewSwitch rest split = quiet front event.NewSwitch rest split refl
  each front (event.Invalidate points) rest split = quiet front (event.Invalidate points) rest split refl
  each front (event.Bind s c) rest split = quiet front (event.Bind s c) rest split refl
  each front (event.Install rows) rest split = quiet front (event.Install rows) rest split refl
  each front (event.Retire l) rest split = retire_step front l rest split
  each front (event.RetireAll loaders) rest split = retire_all_step front loaders rest split
  each front (event.Release call_sites points) rest split = quiet front (event.Release call_sites points) rest split refl

  pub classes_lead : Leads limits (G []) (filter_map (class_event w n) h) (G h)
  classes_lead = leads_through limits (class_event w n) G h each
