-- A retirement, be it of several loaders at once, is accepted in the fresh core, and leads there to what it has led to in the old one.
use Rattle.std.specs.Prelude.{◌≡◌, ℕ, zero, suc, ◌+◌, ◌<◌, ◌⊎◌, ◌==◌, ◌&&◌, ◌||◌, not, Bool, true, false, List, [], ◌∷◌, ◌++◌, map, find}
use Rattle.std.specs.Prelude.{nat_lt, length, slice_get, slice_set, filter_map, Option, Some, None, option_map, option_to_list, is_none, is_ok, IsOk}
use Rattle.std.specs.Prelude.{if◌then◌else◌}
use Rattle.std.specs.Bool.{then_some}
use Rattle.std.specs.List.{AllByRecursion, cons_option, list_any, range_with_len}
use Rattle.std.specs.Option.{option_map_or}
use Rattle.std.proofs.Common.{refl, sym, ap, subst, ◌∙◌, arith, inl, inr}
use Rattle.std.proofs.lemmas.Bool.{or_parts, or_cases, or_left, or_right, or_from, both_ways, and_from, not-false}
use Rattle.std.proofs.lemmas.Bool.Decides.{Decides-eqb}
use Rattle.std.proofs.lemmas.Cmp.{nat_eq_equiv}
use Rattle.std.proofs.lemmas.List.{append-nil}
use Rattle.std.proofs.lemmas.List.Elements.{filter_map-append, recursion_from_All}
use Rattle.std.proofs.lemmas.Option.{slice_get_within}
use Rattle.jl_types.specs.declared.limits.Limits.{Limits}
use Rattle.jl_types.specs.declared.event.EventOf.TheVariants as event
use Rattle.jl_types.specs.declared.event.Made.TheVariants as made
use Rattle.jl_types.specs.declared.refusal.CallSiteFault.TheVariants.{UnknownMethod, UnknownSwitch, TooDeep}
use Rattle.jl_types.specs.declared.refusal.Refusal.{Refusal}
use Rattle.jl_types.specs.declared.refusal.Refusal.TheVariants as refusal
use Rattle.jl_types.specs.declared.refusal.RetireFault.TheVariants.{UnknownLoader, FirstLoader, Inherited, Recorded, Targeted}
use Rattle.jl_types.specs.Values.Target.{Target, Method, Guard, Invoker, depth}
use Rattle.jl_types.specs.Values.World.{World, Class, Classes, CallSite, unreleased, is_missing}
use Rattle.jl_types.specs.Values.Members.{is_present, is_retired, numbers}
use Rattle.jl_types.specs.Values.Ancestry.{parents, is_parent, IsAncestor, itself, over, is_ancestor_within, AreOrdered}
use Rattle.jl_types.specs.Linkage.Resolution.{first_of}
use Rattle.jl_types.specs.Linkage.Targets.{parts, part_fault, may_be_named}
use Rattle.jl_types.specs.Events.Definitions.{is_unknown}
use Rattle.jl_types.specs.Events.Retirement.{is_listed, is_of, is_of_any, inherits_from, records_from, has_target, names_from, classes_fault, targeted}
use Rattle.jl_types.specs.Events.Retirement.{retire_fault, emptied, gone_with, retired}
use Rattle.jl_types.specs.Events.Verdict.{unless, verdict, with_classes}
use Rattle.jl_types.proofs.Ancestors.{ancestor_decides}
use Rattle.jl_types.proofs.Bools.{any-filter, any-filter-at, any-map, any-range-from, first_test, second_test}
use Rattle.jl_types.proofs.Firsts.{first_none, test_none}
use Rattle.jl_types.proofs.Grown.{above}
use Rattle.jl_types.proofs.Lists.{element_at, passes_within}
use Rattle.jl_types.proofs.Retiring.{AreFree, free_one, free_all, may_retire, untargeted}
use Rattle.jl_hierarchy.specs.Constancy.{IsClosed}
use Rattle.jl_relink.proofs.Closing.{free_loader, free_loaders}
use Rattle.jl_renewal.specs.Moved.{Flags, Rests, moved, shifted, kept, moved_record, moved_class, moved_classes, moved_call_site}
use Rattle.jl_renewal.specs.Moved.{moved_target, moved_world}
use Rattle.jl_renewal.proofs.MovedFollows.{Follows}
use Rattle.jl_renewal.proofs.Fit.{IsFit}
use Rattle.jl_renewal.proofs.FitParts.{find_none, none_in_range, none_placed, none_mapped}
use Rattle.jl_renewal.proofs.PlacePhase.{position_none}
use Rattle.jl_renewal.proofs.ReleasedRows.{row_at as call_site_row}
use Rattle.jl_renewal.proofs.MovedLists.{shifted_is, same_numbers, moved_onto, among_moved, kept_unset}
use Rattle.jl_renewal.proofs.MovedClasses.{loader_at, known, row_at, owner_stays, tested, present_same, present_stays}
use Rattle.jl_renewal.proofs.MovedSites.{placed, allowed}

-- ---- tests of all numbers

-- an element that passes
pub record Among {A : Type 0} (p : A → Bool) (xs : List A) : Type 0 where
  pub item : A
  pub passes : p item ≡ true
  pub listed : (q : A → Bool) → q item ≡ true → list_any q xs ≡ true

any_element : {A : Type 0} (p : A → Bool) (xs : List A) → list_any p xs ≡ true → Among p xs
any_element p [] e = cc
any_element p (x ∷ xs) e = elim (or_cases (p x) (list_any p xs) e) [
  | inl h ↦ record { item = x; passes = h; listed = λ q is. or_left (q x) (list_any q xs) is }
  | inr h ↦
      let r = any_element p xs h in
      record { item = r.item; passes = r.passes; listed = λ q is. or_right (q x) (list_any q xs) (r.listed q is) }
]

-- a parent comes before its class
parent_before : (n p : ℕ) (ps : List ℕ) → AllByRecursion (λ q. q < n) ps → list_any (λ q. p == q) ps ≡ true → p < n
parent_before n p [] o h = cc
parent_before n p (q ∷ ps) o h = elim (or_cases (p == q) (list_any (λ q. p == q) ps) h) [
  | inl is ↦ subst (λ (i : ℕ). i < n) (sym ((Decides-eqb p q).0 is)) o.0
  | inr further ↦ parent_before n p ps o.1 further
]

-- those that are retired stay so, each once
module _ (stays : List Bool) (gone : List ℕ) (l : ℕ) (loaders : List ℕ) where
  abbrev were : List ℕ
  were = filter_map (moved stays) gone

  abbrev more : List ℕ
  more = filter_map (moved stays) loaders

  one_more : (o : Option ℕ) → moved stays l ≡ o → filter_map (moved stays) (gone ++ l ∷ []) ≡ were ++ cons_option o []
  one_more o is = filter_map-append (moved stays) gone (l ∷ []) ∙ ap (λ (o : Option ℕ). were ++ cons_option o []) is

  one_gone : (o : Option ℕ) → moved stays l ≡ o → (b : Bool) → is_listed gone l ≡ b
      → gone_with (filter_map (moved stays) (if b then gone else gone ++ l ∷ [])) more ≡ gone_with were (cons_option o more)
  one_gone None is true there = refl
  one_gone None is false new = ap (λ (ks : List ℕ). gone_with ks more) (one_more None is ∙ append-nil were)
  one_gone (Some m) is true there =
      sym (ap (λ (b : Bool). gone_with (if b then were else were ++ m ∷ []) more) (among_moved stays gone l m is ∙ there))
  one_gone (Some m) is false new =
      ap (λ (ks : List ℕ). gone_with ks more) (one_more (Some m) is)
      ∙ sym (ap (λ (b : Bool). gone_with (if b then were else were ++ m ∷ []) more) (among_moved stays gone l m is ∙ new))

gone_moved : (stays : List Bool) (gone loaders : List ℕ)
    → filter_map (moved stays) (gone_with gone loaders) ≡ gone_with (filter_map (moved stays) gone) (filter_map (moved stays) loaders)
gone_moved stays gone [] = refl
gone_moved stays gone (l ∷ loaders) =
    gone_moved stays (if is_listed gone l then gone else gone ++ l ∷ []) loaders
    ∙ one_gone stays gone l loaders (moved stays l) refl (is_listed gone l) refl

-- those that go find nothing, and the others what they found
emptied_moved : (k : Flags) (loaders : List ℕ) (found : List (List (List ℕ × ℕ))) → map (map (moved_record k)) (kept k.loaders (emptied found loaders))
    ≡ emptied (map (map (moved_record k)) (kept k.loaders found)) (filter_map (moved k.loaders) loaders)
emptied_moved k [] found = refl
emptied_moved k (l ∷ loaders) found = emptied_moved k loaders (slice_set found l []) ∙ by_number (moved k.loaders l) refl
  where
    by_number : (o : Option ℕ) → moved k.loaders l ≡ o
        → emptied (map (map (moved_record k)) (kept k.loaders (slice_set found l []))) (filter_map (moved k.loaders) loaders)
        ≡ emptied (map (map (moved_record k)) (kept k.loaders found)) (cons_option o (filter_map (moved k.loaders) loaders))
    by_number None is =
        ap (λ (fs : List (List (List ℕ × ℕ))). emptied (map (map (moved_record k)) fs) (filter_map (moved k.loaders) loaders))
        (kept_unset k.loaders found l [] is)
    by_number (Some m) is =
        ap (λ (fs : List (List (List ℕ × ℕ))). emptied fs (filter_map (moved k.loaders) loaders))
        (placed (map (moved_record k)) k.loaders found l m [] is)

module _ (k : Flags) (w : World) (rests : Rests k w) (fit : IsFit w) (closed : IsClosed w.classes) (ordered : AreOrdered w.classes.rows) where
  abbrev cs : Classes
  cs = w.classes

  abbrev ds : Classes
  ds = moved_classes k w.classes

  abbrev v : World
  v = moved_world k w

  -- an ancestor in the fresh core of a class that is present is one in the old core
  pub ancestor_was : (steps a b x y : ℕ) → moved k.classes a ≡ Some b → moved k.classes x ≡ Some y → is_present cs x ≡ true
      → is_ancestor_within steps ds.rows b y ≡ true → IsAncestor cs.rows a x
  ancestor_was zero a b x y ea ex present h = cc
  ancestor_was (suc steps) a b x y ea ex present h =
      by_row (slice_get cs.rows x) refl
      (sym (ap (λ (o : Option Class). option_map_or (λ row. (b == y) || list_any (is_ancestor_within steps ds.rows b) (parents row)) o false)
      (row_at k w rests x y ex)) ∙ h)
      (ancestor_was steps a b)
    where
      parents_moved : (row : Class) → parents (moved_class k row) ≡ map (shifted k.classes) (parents row)
      parents_moved row = by_superclass row.superclass
        where
          by_superclass : (o : Option ℕ) → option_to_list (option_map (shifted k.classes) o) ++ map (shifted k.classes) row.interfaces
              ≡ map (shifted k.classes) (option_to_list o ++ row.interfaces)
          by_superclass None = refl
          by_superclass (Some s) = refl

      by_row : (o : Option Class) → slice_get cs.rows x ≡ o
          → option_map_or (λ row. (b == y) || list_any (is_ancestor_within steps ds.rows b) (parents row)) (option_map (moved_class k) o) false ≡ true
          → ((x y : ℕ) → moved k.classes a ≡ Some b → moved k.classes x ≡ Some y → is_present cs x ≡ true
          → is_ancestor_within steps ds.rows b y ≡ true → IsAncestor cs.rows a x)
          → IsAncestor cs.rows a x
      by_row None is h next = cc
      by_row (Some row) is h next = by_case (or_cases (b == y) (list_any (is_ancestor_within steps ds.rows b) (parents (moved_class k row))) h)
        where
          by_case : ((b == y) ≡ true) ⊎ (list_any (is_ancestor_within steps ds.rows b) (parents (moved_class k row)) ≡ true) → IsAncestor cs.rows a x
          by_case (inl same) =
              let one : a ≡ x = (Decides-eqb a x).0 (sym (same_numbers k.classes a x b y ea ex) ∙ same) in
              subst (λ (z : ℕ). IsAncestor cs.rows a z) one (itself (ap (slice_get cs.rows) one ∙ is))
          by_case (inr further) =
              let found = any_element (λ p. is_ancestor_within steps ds.rows b (shifted k.classes p)) (parents row)
              (sym (any-map (is_ancestor_within steps ds.rows b) (shifted k.classes) (parents row))
              ∙ (sym (ap (list_any (is_ancestor_within steps ds.rows b)) (parents_moved row)) ∙ further)) in
              let among : is_parent row found.item ≡ true = found.listed (λ q. found.item == q) (nat_eq_equiv.refl found.item) in
              let lt = parent_before x found.item (parents row) (recursion_from_All (λ q. q < x) (parents row) (ordered x row is)) among in
              let within = slice_get_within cs.rows x row is in
              let here = element_at cs.rows found.item (omega (arith, lt, within)) in
              let there = closed.ancestors found.item x ((ancestor_decides cs ordered found.item x).1 (over is among (itself here.1))) present in
              let q = present_stays k w rests found.item there in
              over is among (next found.item q.0 ea q.1 there
              (ap (is_ancestor_within steps ds.rows b) (sym (shifted_is k.classes found.item q.0 q.1)) ∙ found.passes))

  -- ---- one of the loaders

  module _ (loaders : List ℕ) (l m : ℕ) (at : moved k.loaders l ≡ Some m) where
    -- the loaders that go with it
    abbrev others : List ℕ
    others = filter_map (moved k.loaders) loaders

    -- a class of one of them
    any_same : (c d : ℕ) → moved k.classes c ≡ Some d → is_of_any ds others d ≡ is_of_any cs loaders c
    any_same c d e = tested k w rests (λ row. is_listed others row.loader) (λ row. is_listed loaders row.loader) c d e
        (λ row is.
        let o = owner_stays k w rests c d row e is in
        ap (is_listed others) (shifted_is k.loaders row.loader o.0 o.1) ∙ among_moved k.loaders loaders row.loader o.0 o.1)

    -- a class of the loader
    of_same : (c d : ℕ) → moved k.classes c ≡ Some d → is_of ds m d ≡ is_of cs l c
    of_same c d e = tested k w rests (λ row. row.loader == m) (λ row. row.loader == l) c d e
        (λ row is.
        let o = owner_stays k w rests c d row e is in
        ap (λ (x : ℕ). x == m) (shifted_is k.loaders row.loader o.0 o.1) ∙ same_numbers k.loaders row.loader l o.0 m o.1 at)

    -- ---- no class of a loader that stays has an ancestor of this one

    -- no test of the old core passes
    module _ (free : classes_fault cs loaders l ≡ None) where
      unknown : (then_some (is_unknown cs l) UnknownLoader ≡ None)
          × (first_of (then_some (l == 0) FirstLoader
          ∷ option_map Inherited (find (inherits_from cs loaders l) (numbers cs))
          ∷ option_map Recorded (find (records_from cs loaders l) (range_with_len 0 (length cs.loaders)))
          ∷ []) ≡ None)
      unknown = first_none _ _ free

      first_one : (then_some (l == 0) FirstLoader ≡ None)
          × (first_of (option_map Inherited (find (inherits_from cs loaders l) (numbers cs))
          ∷ option_map Recorded (find (records_from cs loaders l) (range_with_len 0 (length cs.loaders)))
          ∷ []) ≡ None)
      first_one = first_none _ _ unknown.1

      inherited : (option_map Inherited (find (inherits_from cs loaders l) (numbers cs)) ≡ None)
          × (first_of (option_map Recorded (find (records_from cs loaders l) (range_with_len 0 (length cs.loaders))) ∷ []) ≡ None)
      inherited = first_none _ _ first_one.1

      recorded : option_map Recorded (find (records_from cs loaders l) (range_with_len 0 (length cs.loaders))) ≡ None
      recorded = (first_none _ _ inherited.1).0

      none_inherits : (y : ℕ) → inherits_from ds others m y ≡ false
      none_inherits y = by_test (inherits_from ds others m y) refl
        where
          by_test : (b : Bool) → inherits_from ds others m y ≡ b → b ≡ false
          by_test false e = refl
          by_test true e =
              let x = moved_onto k.classes y in
              let present = sym (present_same k w rests x.0 y x.1) ∙ first_test (is_present ds y) _ e in
              let rest = second_test (is_present ds y) _ e in
              let other = ap not (sym (any_same x.0 y x.1)) ∙ first_test (not (is_of_any ds others y)) _ rest in
              let heirs = second_test (not (is_of_any ds others y)) _ rest in
              let found = any-filter (λ a. is_ancestor_within (y + 1) ds.rows a y) (is_of ds m) (range_with_len 0 (y + 1)) heirs in
              let a = moved_onto k.classes found.item in
              let above_it = ancestor_was (y + 1) a.0 found.item x.0 y a.1 x.1 present found.meets in
              let is = (ancestor_decides cs ordered a.0 x.0).1 above_it in
              let le = above cs.rows ordered a.0 above_it in
              let theirs = sym (of_same a.0 found.item a.1) ∙ found.passes in
              let listed = any-filter-at (λ b. is_ancestor_within (x.0 + 1) cs.rows b x.0) (is_of cs l) a.0 (range_with_len 0 (x.0 + 1))
              (any-range-from (λ b. b == a.0) 0 (x.0 + 1) a.0 (omega arith) (omega (arith, le)) (nat_eq_equiv.refl a.0)) is theirs in
              let within = passes_within (λ row. not (is_retired cs row.loader)) cs.rows x.0 present in
              absurd (both_ways (inherits_from cs loaders l x.0)
              (none_in_range (inherits_from cs loaders l) (length cs.rows) x.0
              (none_mapped Inherited (find (inherits_from cs loaders l) (numbers cs)) inherited.0) within)
              (and_from (is_present cs x.0) _ present (and_from (not (is_of_any cs loaders x.0)) _ other listed)))

      -- ---- no loader that stays records a class of this one

      any_recorded : (records : List (List ℕ × ℕ)) → list_any (λ r. is_none (moved k.classes r.1)) records ≡ false
          → list_any (λ r. is_of ds m r.1) (map (moved_record k) records) ≡ list_any (λ r. is_of cs l r.1) records
      any_recorded [] all = refl
      any_recorded (r ∷ records) all =
          let parts = or_parts (is_none (moved k.classes r.1)) (list_any (λ r. is_none (moved k.classes r.1)) records) all in
          let c = is_there (moved k.classes r.1) parts.0 in
          let first = ap (is_of ds m) (shifted_is k.classes r.1 c.0 c.1) ∙ of_same r.1 c.0 c.1 in
          let rest = any_recorded records parts.1 in
          λ i. first i || rest i
        where
          is_there : (o : Option ℕ) → is_none o ≡ false → (a : ℕ) × (o ≡ Some a)
          is_there None e = cc
          is_there (Some a) e = (a, refl)

      none_records : (j : ℕ) → records_from ds others m j ≡ false
      none_records j =
          let i = moved_onto k.loaders j in
          by_records i.0 i.1 (slice_get cs.loaders i.0) refl
        where
          same_tests : (i : ℕ) → moved k.loaders i ≡ Some j → (records : List (List ℕ × ℕ)) → slice_get cs.loaders i ≡ Some records
              → records_from ds others m j ≡ records_from cs loaders l i
          same_tests i e records is =
              let same = among_moved k.loaders loaders i j e in
              let all = any_recorded records (rests.recorded i j records e is) in
              ap (λ (o : Option (List (List ℕ × ℕ))). not (is_listed others j) && option_map_or (list_any (λ r. is_of ds m r.1)) o false)
              (loader_at k w rests i j e ∙ ap (option_map (map (moved_record k))) is)
              ∙ ((λ t. not (same t) && all t)
              ∙ ap (λ (o : Option (List (List ℕ × ℕ))). not (is_listed loaders i) && option_map_or (list_any (λ r. is_of cs l r.1)) o false) (sym is))

          by_records : (i : ℕ) → moved k.loaders i ≡ Some j → (o : Option (List (List ℕ × ℕ))) → slice_get cs.loaders i ≡ o → records_from ds others m j ≡ false
          by_records i e None is =
              ap (λ (o : Option (List (List ℕ × ℕ))). not (is_listed others j) && option_map_or (list_any (λ r. is_of ds m r.1)) o false)
              (loader_at k w rests i j e ∙ ap (option_map (map (moved_record k))) is)
              ∙ none_both (not (is_listed others j))
            where
              none_both : (b : Bool) → (b && false) ≡ false
              none_both true = refl
              none_both false = refl
          by_records i e (Some records) is =
              same_tests i e records is
              ∙ none_in_range (records_from cs loaders l) (length cs.loaders) i
              (none_mapped Recorded (find (records_from cs loaders l) (range_with_len 0 (length cs.loaders))) recorded)
              (slice_get_within cs.loaders i records is)

      -- ---- the classes have no fault

      classes_free : classes_fault ds others m ≡ None
      classes_free =
          let known_still = known k w rests l m at (test_none (is_unknown cs l) UnknownLoader unknown.0) in
          let other = same_numbers k.loaders l 0 m 0 at rests.first ∙ test_none (l == 0) FirstLoader first_one.0 in
          λ i. first_of (
          then_some (known_still i) UnknownLoader
          ∷ then_some (other i) FirstLoader
          ∷ option_map Inherited (find_none (inherits_from ds others m) (numbers ds) none_inherits i)
          ∷ option_map Recorded (find_none (records_from ds others m) (range_with_len 0 (length ds.loaders)) none_records i)
          ∷ [])

    -- ---- no target names a method of one of its classes

    -- a call site's, unless it is released
    by_row : (row : Option CallSite) → ((site : CallSite) → row ≡ Some site → names_from ds m (moved_target k site.target) ≡ false)
        → has_target (names_from ds m) (option_map (moved_call_site k) row) ≡ false
    by_row None h = refl
    by_row (Some site) h = h site refl

    names_same : (c : ℕ) (ty : List ℕ) (t : Target) → part_fault w c ty t ≡ None → names_from ds m (moved_target k t) ≡ names_from cs l t
    names_same c ty (Method n) none =
        let named = test_none (not (may_be_named cs n)) UnknownMethod (first_none (then_some (not (may_be_named cs n)) UnknownMethod) _ none).0 in
        let present = first_test (is_present cs n.class) _ (not-false (may_be_named cs n) named) in
        let d = present_stays k w rests n.class present in
        ap (is_of ds m) (shifted_is k.classes n.class d.0 d.1) ∙ of_same n.class d.0 d.1
    names_same c ty (Guard p first fallback) none =
        let known = first_none (then_some (is_missing w.sites.switches p) UnknownSwitch) _ none in
        let left = first_none (part_fault w c ty first) _ known.1 in
        let right = first_none (part_fault w c ty fallback) [] left.1 in
        let x = names_same c ty first left.0 in
        let y = names_same c ty fallback right.0 in
        λ i. x i || y i
    names_same c ty (Invoker d) none = refl

    module _ (unnamed : (i : ℕ) (site : CallSite) → unreleased w.sites.call_sites i ≡ Some site → names_from cs l site.target ≡ false) where
      none_named : (stays : List Bool) (rows : List (Option CallSite))
          → ((i : ℕ) (site : CallSite) → unreleased rows i ≡ Some site → names_from ds m (moved_target k site.target) ≡ false)
          → list_any (has_target (names_from ds m)) (map (option_map (moved_call_site k)) (kept stays rows)) ≡ false
      none_named [] [] h = refl
      none_named [] (row ∷ rows) h =
          or_from (has_target (names_from ds m) (option_map (moved_call_site k) row))
          (list_any (has_target (names_from ds m)) (map (option_map (moved_call_site k)) rows))
          (by_row row (h zero)) (none_named [] rows (λ i. h (suc i)))
      none_named (b ∷ stays) [] h = refl
      none_named (true ∷ stays) (row ∷ rows) h =
          or_from (has_target (names_from ds m) (option_map (moved_call_site k) row))
          (list_any (has_target (names_from ds m)) (map (option_map (moved_call_site k)) (kept stays rows)))
          (by_row row (h zero)) (none_named stays rows (λ i. h (suc i)))
      none_named (false ∷ stays) (row ∷ rows) h = none_named stays rows (λ i. h (suc i))

      target_names : (i : ℕ) (site : CallSite) → unreleased w.sites.call_sites i ≡ Some site → names_from ds m (moved_target k site.target) ≡ false
      target_names i site is =
          let deep = first_none (then_some (nat_lt 64 (depth site.target) || nat_lt 255 (parts site.target)) TooDeep) _ (fit.targets i site is) in
          let part = first_none (part_fault w i site.ty site.target) [] deep.1 in
          names_same i site.ty site.target part.0 ∙ unnamed i site is

      still_untargeted : targeted ds v.sites.call_sites m ≡ None
      still_untargeted =
          position_none (has_target (names_from ds m)) v.sites.call_sites None (none_named k.call_sites w.sites.call_sites target_names)

  -- ---- they are accepted

  abbrev there : List ℕ → List ℕ
  there loaders = filter_map (moved k.loaders) loaders

  free_there : (loaders : List ℕ) → AreFree w loaders → AreFree v (there loaders)
  free_there loaders free m listed =
      let l = moved_onto k.loaders m in
      let goes = sym (among_moved k.loaders loaders l.0 m l.1) ∙ listed in
      let classes = classes_free loaders l.0 m l.1 (may_retire w loaders free l.0 goes) in
      let unnamed : (i : ℕ) (site : CallSite) → unreleased w.sites.call_sites i ≡ Some site → names_from cs l.0 site.target ≡ false =
      λ i site at. none_placed (has_target (names_from cs l.0)) w.sites.call_sites (untargeted w loaders free l.0 goes) i (Some site)
      (call_site_row w.sites.call_sites i site at) in
      let targets = still_untargeted loaders l.0 m l.1 unnamed in
      λ i. first_of (classes i ∷ option_map Targeted (targets i) ∷ [])

  left_there : (loaders : List ℕ) → with_classes v (retired ds (there loaders)) ≡ moved_world k (with_classes w (retired cs loaders))
  left_there loaders = λ i. with_classes v (record {
    loaders = sym (emptied_moved k loaders cs.loaders) i;
    rows = ds.rows;
    retired = sym (gone_moved k.loaders cs.retired loaders) i;
  })

  pub retirement_follows : (l m : ℕ) → moved k.loaders l ≡ Some m → (limits more : Limits) → IsOk (verdict limits w (event.Retire l))
      → Follows more k w (event.Retire l) (event.Retire m)
  retirement_follows l m at limits more accepted =
      let one : there (l ∷ []) ≡ m ∷ [] = ap (λ (o : Option ℕ). cons_option o []) at in
      let free = free_there (l ∷ []) (free_loader limits w l accepted) in
      record {
        accepted = allowed refusal.Retire (retire_fault v (m ∷ []) m) _ (free_one v m (subst (AreFree v) one free));
        after = ap (λ (ls : List ℕ). with_classes v (retired ds ls)) (sym one) ∙ left_there (l ∷ []);
      }

  pub retirements_follow : (loaders : List ℕ) (limits more : Limits) → IsOk (verdict limits w (event.RetireAll loaders))
      → Follows more k w (event.RetireAll loaders) (event.RetireAll (there loaders))
  retirements_follow loaders limits more accepted =
      let free = free_there loaders (free_loaders limits w loaders accepted) in
      record {
        accepted = ap (λ (o : Option Refusal). is_ok (unless o made.Nothing)) (free_all v (there loaders) free);
        after = left_there loaders;
      }
