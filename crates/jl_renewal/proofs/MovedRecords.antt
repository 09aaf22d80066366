-- What a loader that isn't retired has recorded is present, each record of it.
use Rattle.std.specs.Prelude.{◌≡◌, ◌≤◌, ◌<◌, ℕ, zero, suc, ◌+◌, ◌||◌, ◌&&◌, not, nat_le, Bool, true, false, List, [], ◌∷◌, ◌++◌, length}
use Rattle.std.specs.Prelude.{slice_get, slice_set, find, take, Option, Some, None, option_map, option_and_then, IsOk, if◌then◌else◌}
use Rattle.std.specs.Bool.{then_some}
use Rattle.std.specs.List.{list_any}
use Rattle.std.specs.Option.{option_map_or}
use Rattle.std.specs.Str.{bytes_eq}
use Rattle.std.proofs.Common.{refl, sym, ap, subst, ◌∙◌, arith, inl, inr}
use Rattle.std.proofs.lemmas.Bool.{or_parts, or_from, or_cases, leb-false}
use Rattle.std.proofs.lemmas.List.{take_more, take_all}
use Rattle.std.proofs.lemmas.List.Folds.{list_any-append}
use Rattle.std.proofs.lemmas.Option.{same_Some, slice_get_within, get_or_from_slice_get}
use Rattle.jl_types.specs.declared.limits.Limits.{Limits}
use Rattle.jl_class.specs.Class.{ClassFile}
use Rattle.jl_types.specs.declared.event.EventOf.TheVariants as event
use Rattle.jl_types.specs.declared.refusal.Refusal.TheVariants as refusal
use Rattle.jl_types.specs.declared.refusal.DelegateFault.TheVariants as delegate
use Rattle.jl_types.specs.Values.World.{World, Class, Classes, nothing_yet}
use Rattle.jl_types.specs.Values.Members.{lookup, recorded, is_present, is_retired}
use Rattle.jl_types.specs.Events.Event.{Event}
use Rattle.jl_types.specs.Events.Verdict.{verdict, step}
use Rattle.jl_types.specs.Events.History.{world_after}
use Rattle.jl_types.specs.Events.Definitions.{define_fault, class_made, defined, delegate_fault, is_unknown, with_record}
use Rattle.jl_types.specs.Events.Retirement.{is_listed, is_of_any, retired, MayRetire}
use Rattle.jl_types.proofs.Firsts.{first_none, test_none}
use Rattle.jl_types.proofs.Lists.{at_end, element_at}
use Rattle.jl_types.proofs.Orders.{IsGood, world_good}
use Rattle.jl_types.proofs.Places.{world_more}
use Rattle.jl_types.proofs.Retiring.{retired_after, present_after, kept_apart, may_retire, is_free as free_to_retire}
use Rattle.jl_hierarchy.proofs.Closed.{present_still}
use Rattle.jl_relink.proofs.Closing.{no_fault, free_loader, free_loaders}
use Rattle.jl_renewal.proofs.ClassPhase.{loaders_after}
use Rattle.jl_renewal.proofs.ClassSteps.{is_free}
use Rattle.jl_renewal.proofs.Fit.{AllAccepted}
use Rattle.jl_renewal.proofs.FitParts.{at_more}
use Rattle.jl_renewal.proofs.FitSites.{set_at}
use Rattle.jl_renewal.proofs.MovedLists.{length_emptied}

abbrev Records : Type 0
Records = List (List ℕ × ℕ)

abbrev pub AllPresent : Classes → Type 0
AllPresent cs = (l : ℕ) (records : Records) → is_retired cs l ≡ false → slice_get cs.loaders l ≡ Some records
    → list_any (λ r. not (is_present cs r.1)) records ≡ false

-- records keep to a test that their classes keep to
still_none : (p q : ℕ → Bool) → ((c : ℕ) → p c ≡ false → q c ≡ false) → (records : Records) → list_any (λ r. p r.1) records ≡ false
    → list_any (λ r. q r.1) records ≡ false
still_none p q each [] e = refl
still_none p q each (r ∷ records) e =
    let parts = or_parts (p r.1) (list_any (λ r. p r.1) records) e in
    or_from (q r.1) (list_any (λ r. q r.1) records) (each r.1 parts.0) (still_none p q each records parts.1)

not_from : (a b : Bool) → (a ≡ true → b ≡ true) → not a ≡ false → not b ≡ false
not_from true b h e = ap not (h refl)
not_from false b h e = cc

-- what is found is present
found_present : (cs : Classes) (name : List ℕ) (records : Records) (c : ℕ) → list_any (λ r. not (is_present cs r.1)) records ≡ false
    → recorded name records ≡ Some c → not (is_present cs c) ≡ false
found_present cs name [] c all e = cc
found_present cs name (r ∷ records) c all e =
    let parts = or_parts (not (is_present cs r.1)) (list_any (λ r. not (is_present cs r.1)) records) all in
    by_test (bytes_eq r.0 name) e parts.0 (found_present cs name records c parts.1)
  where
    by_test : (b : Bool) → option_map (λ (x : List ℕ × ℕ). x.1) (if b then Some r else find (λ (x : List ℕ × ℕ). bytes_eq x.0 name) records) ≡ Some c
        → not (is_present cs r.1) ≡ false → (recorded name records ≡ Some c → not (is_present cs c) ≡ false) → not (is_present cs c) ≡ false
    by_test true e here rest = ap (λ (d : ℕ). not (is_present cs d)) (sym (same_Some r.1 c e)) ∙ here
    by_test false e here rest = rest e

module _ (cs : Classes) (all : AllPresent cs) where
  -- a record more, of a class that is present in the classes that there are then
  with_one_more : (ds : Classes) (loader : ℕ) (name : List ℕ) (c : ℕ) → ((d : ℕ) → is_present cs d ≡ true → is_present ds d ≡ true)
      → is_present ds c ≡ true → (l : ℕ) (records : Records) → is_retired cs l ≡ false
      → slice_get (with_record cs.loaders loader name c) l ≡ Some records → list_any (λ r. not (is_present ds r.1)) records ≡ false
  with_one_more ds loader name c on present l records live at = by_loader (slice_get cs.loaders loader) refl at
    where
      still : (rs : Records) → list_any (λ r. not (is_present cs r.1)) rs ≡ false → list_any (λ r. not (is_present ds r.1)) rs ≡ false
      still = still_none (λ d. not (is_present cs d)) (λ d. not (is_present ds d)) (λ d. not_from (is_present cs d) (is_present ds d) (on d))

      one_more : (olds : Records) → slice_get cs.loaders loader ≡ Some olds → loader ≡ l
          → list_any (λ r. not (is_present ds r.1)) (olds ++ (name, c) ∷ []) ≡ false
      one_more olds is same =
          list_any-append (λ (r : List ℕ × ℕ). not (is_present ds r.1)) olds ((name, c) ∷ [])
          ∙ or_from (list_any (λ r. not (is_present ds r.1)) olds) (not (is_present ds c) || false)
          (still olds (all l olds live (ap (slice_get cs.loaders) (sym same) ∙ is)))
          (or_from (not (is_present ds c)) false (ap not present) refl)

      by_loader : (o : Option Records) → slice_get cs.loaders loader ≡ o
          → slice_get (option_map_or (λ records. slice_set cs.loaders loader (records ++ (name, c) ∷ [])) o cs.loaders) l ≡ Some records
          → list_any (λ r. not (is_present ds r.1)) records ≡ false
      by_loader None is at = still records (all l records live at)
      by_loader (Some olds) is at = elim (set_at cs.loaders loader (olds ++ (name, c) ∷ []) l records at) [
        | inl before ↦ still records (all l records live before)
        | inr new ↦ subst (λ (rs : Records). list_any (λ r. not (is_present ds r.1)) rs ≡ false) new.1 (one_more olds is new.0)
      ]

  all_with_loader : AllPresent (record cs { loaders = cs.loaders ++ [] ∷ [] })
  all_with_loader l records live at = elim (at_more cs.loaders [] l records at) [
    | inl before ↦ all l records live before
    | inr new ↦ subst (λ (rs : Records). list_any (λ r. not (is_present cs r.1)) rs ≡ false) new.1 refl
  ]

  all_defined : IsGood cs → (loader : ℕ) (file : ClassFile) → is_unknown cs loader ≡ false → AllPresent (defined cs loader file)
  all_defined good loader file known l records live at =
      with_one_more (defined cs loader file) loader file.name (length cs.rows) (present_still cs good loader file)
      (ap (λ (o : Option Class). option_map_or (λ row. not (is_retired cs row.loader)) o false) (at_end cs.rows (class_made cs loader file))
      ∙ ap not (or_parts (nat_le (length cs.loaders) loader) (is_retired cs loader) known).1)
      l records live at

  all_delegated : (loader : ℕ) (name : List ℕ) (to : ℕ) → is_unknown cs to ≡ false
      → AllPresent (record cs { loaders = option_map_or (with_record cs.loaders loader name) (lookup cs to name) cs.loaders })
  all_delegated loader name to known l records live at = by_class (lookup cs to name) refl at
    where
      found : (c : ℕ) (o : Option Records) → slice_get cs.loaders to ≡ o → option_and_then (recorded name) o ≡ Some c → is_present cs c ≡ true
      found c None is e = cc
      found c (Some rs) is e = true_from (is_present cs c)
          (found_present cs name rs c (all to rs (or_parts (nat_le (length cs.loaders) to) (is_retired cs to) known).1 is) e)
        where
          true_from : (b : Bool) → not b ≡ false → b ≡ true
          true_from true e = refl
          true_from false e = cc

      by_class : (o : Option ℕ) → lookup cs to name ≡ o
          → slice_get (option_map_or (with_record cs.loaders loader name) o cs.loaders) l ≡ Some records
          → list_any (λ r. not (is_present cs r.1)) records ≡ false
      by_class None is at = all l records live at
      by_class (Some c) is at = with_one_more cs loader name c (λ d h. h) (found c (slice_get cs.loaders to) refl is) l records live at

  all_retired : (loaders : List ℕ) → MayRetire cs loaders → AllPresent (retired cs loaders)
  all_retired loaders may l records live at =
      let parts = or_parts (is_retired cs l) (is_listed loaders l) (sym (retired_after cs loaders l) ∙ live) in
      let before = sym (kept_apart cs.loaders loaders l parts.1) ∙ at in
      let none = (free_to_retire cs loaders may).records l (slice_get_within cs.loaders l records before) in
      both_none records (all l records parts.0 before)
      (second_false (is_listed loaders l) (list_any (λ r. is_of_any cs loaders r.1) records) parts.1
      (sym (ap (λ (o : Option Records). not (is_listed loaders l) && option_map_or (list_any (λ r. is_of_any cs loaders r.1)) o false) before) ∙ none))
    where
      second_false : (a b : Bool) → a ≡ false → (not a && b) ≡ false → b ≡ false
      second_false true b e none = cc
      second_false false b e none = none

      by_tests : (a b : Bool) → not a ≡ false → b ≡ false → not (a && not b) ≡ false
      by_tests true true e other = cc
      by_tests true false e other = refl
      by_tests false b e other = cc

      both_none : (rs : Records) → list_any (λ r. not (is_present cs r.1)) rs ≡ false → list_any (λ r. is_of_any cs loaders r.1) rs ≡ false
          → list_any (λ r. not (is_present (retired cs loaders) r.1)) rs ≡ false
      both_none [] e other = refl
      both_none (r ∷ rs) e other =
          let here = or_parts (not (is_present cs r.1)) (list_any (λ r. not (is_present cs r.1)) rs) e in
          let there = or_parts (is_of_any cs loaders r.1) (list_any (λ r. is_of_any cs loaders r.1) rs) other in
          or_from (not (is_present (retired cs loaders) r.1)) (list_any (λ r. not (is_present (retired cs loaders) r.1)) rs)
          (ap not (present_after cs loaders r.1) ∙ by_tests (is_present cs r.1) (is_of_any cs loaders r.1) here.0 there.0)
          (both_none rs here.1 there.1)

-- ---- each event

all_step : (limits : Limits) (w : World) (e : Event) → IsGood w.classes → AllPresent w.classes → IsOk (verdict limits w e) → AllPresent (step w e).classes
all_step limits w event.NewLoader good all accepted = all_with_loader w.classes all
all_step limits w (event.Define loader file) good all accepted =
    all_defined w.classes all good loader file
    (is_free limits.classes w.classes loader file (no_fault refusal.Define (define_fault limits.classes w.classes loader file) _ accepted)).known
all_step limits w (event.Delegate loader name to) good all accepted =
    let none = no_fault refusal.Delegate (delegate_fault w.classes loader name to) _ accepted in
    let unknown = first_none (then_some (is_unknown w.classes loader || is_unknown w.classes to) delegate.UnknownLoader) _ none in
    all_delegated w.classes all loader name to
    (or_parts (is_unknown w.classes loader) (is_unknown w.classes to) (test_none _ delegate.UnknownLoader unknown.0)).1
all_step limits w (event.Request place) good all accepted = all
all_step limits w (event.NewCallSite kind ty t) good all accepted = all
all_step limits w (event.SetTarget c t) good all accepted = all
all_step limits w event.NewSwitch good all accepted = all
all_step limits w (event.Invalidate points) good all accepted = all
all_step limits w (event.Bind s c) good all accepted = all
all_step limits w (event.Install rows) good all accepted = all
all_step limits w (event.Retire loader) good all accepted =
    all_retired w.classes all (loader ∷ []) (may_retire w (loader ∷ []) (free_loader limits w loader accepted))
all_step limits w (event.RetireAll loaders) good all accepted =
    all_retired w.classes all loaders (may_retire w loaders (free_loaders limits w loaders accepted))
all_step limits w (event.Release call_sites points) good all accepted = all

-- ---- all events

at_first : AllPresent nothing_yet.classes
at_first zero records live at = subst (λ (rs : Records). list_any (λ r. not (is_present nothing_yet.classes r.1)) rs ≡ false) (same_Some [] records at) refl
at_first (suc l) records live at = cc

pub all_after : (limits : Limits) (h : List Event) → AllAccepted limits h → AllPresent (world_after h).classes
all_after limits h all =
    subst (λ (es : List Event). AllPresent (world_after es).classes) (take_all (length h) h (omega arith)) (first (length h) (omega arith))
  where
    next : (n : ℕ) (e : Event) → slice_get h n ≡ Some e → AllPresent (world_after (take n h)).classes → AllPresent (world_after (take (n + 1) h)).classes
    next n e at so_far =
        subst (λ (es : List Event). AllPresent (world_after es).classes)
        (sym (take_more h n e (slice_get_within h n e at) ∙ ap (λ (f : Event). take n h ++ f ∷ []) (get_or_from_slice_get h n e e at)))
        (subst (λ (w : World). AllPresent w.classes) (sym (world_more (take n h) e))
        (all_step limits (world_after (take n h)) e (world_good (take n h)) so_far (all n e at)))

    first : (n : ℕ) → n ≤ length h → AllPresent (world_after (take n h)).classes
    first zero le = at_first
    first (suc n) le =
        let one = element_at h n (omega (arith, le)) in
        let more : n + 1 ≡ suc n = omega arith in
        subst (λ (k : ℕ). AllPresent (world_after (take k h)).classes) more (next n one.0 one.1 (first n (omega (arith, le))))

-- ---- retired loaders were there

abbrev pub AreKnown : Classes → Type 0
AreKnown cs = (l : ℕ) → is_retired cs l ≡ true → l < length cs.loaders

loaders_grow : (w : World) (e : Event) → length w.classes.loaders ≤ length (step w e).classes.loaders
loaders_grow w e = loaders_after (e ∷ []) w

known_retired : (w : World) (loaders : List ℕ) → AreKnown w.classes → MayRetire w.classes loaders → AreKnown (retired w.classes loaders)
known_retired w loaders all may l is =
    let same = length_emptied w.classes.loaders loaders in
    elim (or_cases (is_retired w.classes l) (is_listed loaders l) (sym (retired_after w.classes loaders l) ∙ is)) [
      | inl before ↦ let lt = all l before in omega (arith, lt, same)
      | inr now ↦
          let known = or_parts (nat_le (length w.classes.loaders) l) (is_retired w.classes l) ((free_to_retire w.classes loaders may).known l now) in
          let lt = leb-false (length w.classes.loaders) l known.0 in
          omega (arith, lt, same)
    ]

known_step : (limits : Limits) (w : World) (e : Event) → AreKnown w.classes → IsOk (verdict limits w e) → AreKnown (step w e).classes
known_step limits w event.NewLoader all accepted l is = let lt = all l is in let le = loaders_grow w event.NewLoader in omega (arith, lt, le)
known_step limits w (event.Define loader file) all accepted l is =
    let lt = all l is in let le = loaders_grow w (event.Define loader file) in omega (arith, lt, le)
known_step limits w (event.Delegate loader name to) all accepted l is =
    let lt = all l is in let le = loaders_grow w (event.Delegate loader name to) in omega (arith, lt, le)
known_step limits w (event.Request place) all accepted l is = all l is
known_step limits w (event.NewCallSite kind ty t) all accepted l is = all l is
known_step limits w (event.SetTarget c t) all accepted l is = all l is
known_step limits w event.NewSwitch all accepted l is = all l is
known_step limits w (event.Invalidate points) all accepted l is = all l is
known_step limits w (event.Bind s c) all accepted l is = all l is
known_step limits w (event.Install rows) all accepted l is = all l is
known_step limits w (event.Retire loader) all accepted l is =
    known_retired w (loader ∷ []) all (may_retire w (loader ∷ []) (free_loader limits w loader accepted)) l is
known_step limits w (event.RetireAll loaders) all accepted l is =
    known_retired w loaders all (may_retire w loaders (free_loaders limits w loaders accepted)) l is
known_step limits w (event.Release call_sites points) all accepted l is = all l is

pub known_after : (limits : Limits) (h : List Event) → AllAccepted limits h → AreKnown (world_after h).classes
known_after limits h all =
    subst (λ (es : List Event). AreKnown (world_after es).classes) (take_all (length h) h (omega arith)) (first (length h) (omega arith))
  where
    next : (n : ℕ) (e : Event) → slice_get h n ≡ Some e → AreKnown (world_after (take n h)).classes → AreKnown (world_after (take (n + 1) h)).classes
    next n e at so_far =
        subst (λ (es : List Event). AreKnown (world_after es).classes)
        (sym (take_more h n e (slice_get_within h n e at) ∙ ap (λ (f : Event). take n h ++ f ∷ []) (get_or_from_slice_get h n e e at)))
        (subst (λ (w : World). AreKnown w.classes) (sym (world_more (take n h) e))
        (known_step limits (world_after (take n h)) e so_far (all n e at)))

    first : (n : ℕ) → n ≤ length h → AreKnown (world_after (take n h)).classes
    first zero le = λ l is. cc
    first (suc n) le =
        let one = element_at h n (omega (arith, le)) in
        let more : n + 1 ≡ suc n = omega arith in
        subst (λ (k : ℕ). AreKnown (world_after (take k h)).classes) more (next n one.0 one.1 (first n (omega (arith, le))))
