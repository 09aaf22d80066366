-- In a fresh core that stands beside the old one each site of a present class comes to what it comes to in that, under new numbers.
use Rattle.std.specs.Prelude.{◌≡◌, ℕ, zero, suc, ◌+◌, ◌<◌, ◌==◌, ◌||◌, not, nat_le, nat_lt, Bool, true, false, List, [], ◌∷◌, ◌++◌, map, filter_map}
use Rattle.std.specs.Prelude.{find, length, slice_get, Option, Some, None, option_map, option_and_then, option_to_list, is_some, if◌then◌else◌}
use Rattle.std.specs.Bool.{then_some}
use Rattle.std.specs.List.{AllByRecursion, cons_option}
use Rattle.std.specs.Option.{option_map_or, unwrap_or}
use Rattle.std.proofs.Common.{refl, sym, ap, ◌∙◌, arith}
use Rattle.std.proofs.lemmas.Bool.{leb-false, not-true, not-false}
use Rattle.std.proofs.lemmas.Bool.Decides.{Decides-eqb}
use Rattle.std.proofs.lemmas.Cmp.{nat_eq_equiv}
use Rattle.std.proofs.lemmas.List.Elements.{recursion_from_All}
use Rattle.std.proofs.lemmas.Option.{same_Some, slice_get_within, slice_get-map}
use Rattle.jl_types.specs.declared.ids.MethodId.{MethodId}
use Rattle.jl_types.specs.declared.ids.Place.{Place}
use Rattle.jl_types.specs.declared.refusal.CallSiteFault.TheVariants.{UnknownMethod, UnknownSwitch, TooDeep, InvokerOrder}
use Rattle.jl_types.specs.Values.Target.{Target, Method, Guard, Invoker, depth}
use Rattle.jl_types.specs.Values.World.{World, Class, Classes, CallSite, unreleased, is_missing}
use Rattle.jl_types.specs.Values.Members.{lookup, is_present, is_retired}
use Rattle.jl_types.specs.Values.Ancestry.{parents, AreOrdered}
use Rattle.jl_types.specs.Linkage.Targets.{parts, part_fault, may_be_named, evaluated, method_of}
use Rattle.jl_types.specs.Linkage.Stages.{bound_to}
use Rattle.jl_types.proofs.Ancestors.{ancestor_decides}
use Rattle.jl_types.proofs.Bools.{first_test, second_test}
use Rattle.jl_types.proofs.Firsts.{first_none, test_none}
use Rattle.jl_types.proofs.Lists.{passes_within}
use Rattle.jl_types.proofs.Releasing.{unreleased_within}
use Rattle.jl_types.proofs.Orders.{IsGood, looked_up}
use Rattle.jl_hierarchy.specs.Constancy.{IsClosed}
use Rattle.jl_renewal.specs.Numbers.{Numbers, renumbered, renumbered_target}
use Rattle.jl_renewal.specs.Staying.{is_in_staying_class, has_lost_call_site}
use Rattle.jl_renewal.specs.Renewed.{renumbered_class, renumbered_place, renumbered_binding, renumbered_call_site}
use Rattle.jl_renewal.specs.Moved.{Flags, Rests, Names, moved, shifted, kept, moved_class, moved_classes, moved_place, moved_binding}
use Rattle.jl_renewal.specs.Moved.{moved_target, moved_call_site, moved_world, all_numbers}
use Rattle.jl_renewal.proofs.Fit.{IsFit}
use Rattle.jl_renewal.proofs.Alike.{Embeds}
use Rattle.jl_renewal.proofs.AlikeLaws.{are_alike}
use Rattle.jl_renewal.proofs.AlikeSites.{SitesAlike}
use Rattle.jl_renewal.proofs.AlikeClasses.{present_row}
use Rattle.jl_renewal.proofs.ClassPhase.{lookup_there}
use Rattle.jl_renewal.proofs.MovedLists.{there_is, moved_onto, moved_rises, same_numbers, kept_at, shifted_is}
use Rattle.jl_renewal.proofs.MovedClasses.{finds, live_stays, present_stays, present_same, row_at}
use Rattle.jl_renewal.proofs.MovedTargets.{call_site_at}
use Rattle.jl_renewal.proofs.ReleasedRows.{missing_row, present_within as row_within, row_kept}
use Rattle.jl_renewal.proofs.RenewedSites.{lost_there}
use Rattle.jl_renewal.proofs.MovedRetiring.{ancestor_was}
use Rattle.jl_renewal.proofs.MovedCarries.{number_at}
use Rattle.jl_renewal.proofs.MovedNames.{invoked_there, guard_there}

module _ (k : Flags) (w : World) (rests : Rests k w) (names : Names k w) (fit : IsFit w) (closed : IsClosed w.classes) (good : IsGood w.classes)
    (some : zero < length w.classes.loaders) (fresh_ordered : AreOrdered (moved_world k w).classes.rows) where
  abbrev n : Numbers
  n = all_numbers k w

  abbrev v : World
  v = moved_world k w

  abbrev cs : Classes
  cs = w.classes

  abbrev ds : Classes
  ds = moved_classes k w.classes

  -- ---- numbers

  class_number : (c : ℕ) → c < length cs.rows → shifted k.classes c ≡ renumbered n.classes c
  class_number c lt = ap (λ (o : Option ℕ). unwrap_or o 0) (sym (number_at k.classes (length cs.rows) c lt))

  class_moved : (c d : ℕ) → c < length cs.rows → moved k.classes c ≡ Some d → renumbered n.classes c ≡ d
  class_moved c d lt e = sym (class_number c lt) ∙ shifted_is k.classes c d e

  loader_moved : (l m : ℕ) → l < length cs.loaders → moved k.loaders l ≡ Some m → renumbered n.loaders l ≡ m
  loader_moved l m lt e = ap (λ (o : Option ℕ). unwrap_or o 0) (number_at k.loaders (length cs.loaders) l lt ∙ e)

  present_within : (c : ℕ) → is_present cs c ≡ true → c < length cs.rows
  present_within c present = passes_within (λ (row : Class). not (is_retired cs row.loader)) cs.rows c present

  -- a class that is present, its number, and its loader
  class_of : (c : ℕ) → is_present cs c ≡ true → (d : ℕ) × (moved k.classes c ≡ Some d) × (renumbered n.classes c ≡ d)
  class_of c present =
      let d = present_stays k w rests c present in
      (d.0, d.1, class_moved c d.0 (present_within c present) d.1)

  live_row : (c : ℕ) (row : Class) → is_present cs c ≡ true → slice_get cs.rows c ≡ Some row → is_retired cs row.loader ≡ false
  live_row c row present is =
      let r = present_row cs c present in
      ap (λ (one : Class). is_retired cs one.loader) (same_Some row r.0 (sym is ∙ r.1)) ∙ r.2

  loader_within : (c : ℕ) (row : Class) → is_present cs c ≡ true → slice_get cs.rows c ≡ Some row → row.loader < length cs.loaders
  loader_within c row present is = lookup_there cs row.loader row.file.name c (fit.found c row is (live_row c row present is))

  loader_of : (c : ℕ) (row : Class) → is_present cs c ≡ true → slice_get cs.rows c ≡ Some row
      → (m : ℕ) × (moved k.loaders row.loader ≡ Some m) × (renumbered n.loaders row.loader ≡ m)
  loader_of c row present is =
      let m = live_stays k w rests row.loader (live_row c row present is) in
      (m.0, m.1, loader_moved row.loader m.0 (loader_within c row present is) m.1)

  -- ---- classes

  options_alike : (o : Option ℕ) (ps : List ℕ) → AllByRecursion (λ p. p < length cs.rows) (option_to_list o ++ ps)
      → option_map (shifted k.classes) o ≡ option_map (renumbered n.classes) o
  options_alike None ps all = refl
  options_alike (Some s) ps all = ap Some (class_number s all.0)

  lists_alike : (ps : List ℕ) → AllByRecursion (λ p. p < length cs.rows) ps → map (shifted k.classes) ps ≡ map (renumbered n.classes) ps
  lists_alike [] all = refl
  lists_alike (p ∷ ps) all =
      let first = class_number p all.0 in
      let rest = lists_alike ps all.1 in
      λ i. first i ∷ rest i

  later : (o : Option ℕ) (ps : List ℕ) → AllByRecursion (λ p. p < length cs.rows) (option_to_list o ++ ps) → AllByRecursion (λ p. p < length cs.rows) ps
  later None ps all = all
  later (Some s) ps all = all.1

  lower : (c m : ℕ) → c < m → (ps : List ℕ) → AllByRecursion (λ p. p < c) ps → AllByRecursion (λ p. p < m) ps
  lower c m lt [] all = tt
  lower c m lt (p ∷ ps) all = (let first = all.0 in omega (arith, first, lt), lower c m lt ps all.1)

  class_alike : (c : ℕ) (row : Class) → is_present cs c ≡ true → slice_get cs.rows c ≡ Some row → moved_class k row ≡ renumbered_class n row
  class_alike c row present at =
      let m = loader_of c row present at in
      let loader = shifted_is k.loaders row.loader m.0 m.1 ∙ sym m.2 in
      let below = lower c (length cs.rows) (slice_get_within cs.rows c row at) (parents row)
      (recursion_from_All (λ p. p < c) (parents row) (good.ordered c row at)) in
      let superclass = options_alike row.superclass row.interfaces below in
      let interfaces = lists_alike row.interfaces (later row.superclass row.interfaces below) in
      λ i. record { loader = loader i; file = row.file; superclass = superclass i; interfaces = interfaces i }

  -- what a loader finds
  found_alike : (l m : ℕ) → l < length cs.loaders → moved k.loaders l ≡ Some m → (name : List ℕ)
      → lookup ds (renumbered n.loaders l) name ≡ option_map (renumbered n.classes) (lookup cs l name)
  found_alike l m lt e name =
      ap (λ (j : ℕ). lookup ds j name) (loader_moved l m lt e) ∙ (finds k w rests l m e name ∙ by_class (lookup cs l name) refl)
    where
      by_class : (o : Option ℕ) → lookup cs l name ≡ o → option_map (shifted k.classes) o ≡ option_map (renumbered n.classes) o
      by_class None is = refl
      by_class (Some c) is = ap Some (class_number c (looked_up cs good l name c is))

  embeds : Embeds n cs ds
  embeds = record {
    closed = closed;
    ordered = good.ordered;
    fresh_ordered = fresh_ordered;
    rows = λ c row present is.
        let d = class_of c present in
        ap (slice_get ds.rows) d.2 ∙ (row_at k w rests c d.0 d.1 ∙ (ap (option_map (moved_class k)) is ∙ ap Some (class_alike c row present is)));
    still = λ c present.
        let d = class_of c present in
        ap (is_present ds) d.2 ∙ (present_same k w rests c d.0 d.1 ∙ present);
    onto = λ j present.
        let c = moved_onto k.classes j in
        let there = sym (present_same k w rests c.0 j c.1) ∙ present in
        (c.0, there, class_moved c.0 j (present_within c.0 there) c.1);
    uppers = λ j c present up.
        let d = class_of c present in
        let a = moved_onto k.classes j in
        let above_it = ancestor_was k w rests fit closed good.ordered (renumbered n.classes c + 1) a.0 j c (renumbered n.classes c) a.1
        (d.1 ∙ ap Some (sym d.2)) present up in
        let there = closed.ancestors a.0 c ((ancestor_decides cs good.ordered a.0 c).1 above_it) present in
        (a.0, there, class_moved a.0 j (present_within a.0 there) a.1);
    rises = λ c d pc pd lt.
        let x = class_of c pc in
        let y = class_of d pd in
        let more = moved_rises k.classes c d x.0 y.0 x.1 y.1 lt in
        let ex = x.2 in
        let ey = y.2 in
        omega (arith, more, ex, ey);
    loaders = λ c d a b pc pd ac bd.
        let x = loader_of c a pc ac in
        let y = loader_of d b pd bd in
        (λ i. x.2 i == y.2 i) ∙ same_numbers k.loaders a.loader b.loader x.0 y.0 x.1 y.1;
    lookups = λ c row name present is.
        let m = loader_of c row present is in
        found_alike row.loader m.0 (loader_within c row present is) m.1 name;
    first = λ name. sym (ap (λ (j : ℕ). lookup ds j name) (loader_moved 0 0 some rests.first)) ∙ found_alike 0 0 some rests.first name;
  }

  -- ---- sites

  site_of : (s : ℕ) → is_in_staying_class w s ≡ true → (t : ℕ) × (moved k.sites s ≡ Some t) × (renumbered n.sites s ≡ t)
  site_of s kept = by_place (slice_get w.places s) refl kept
    where
      by_place : (o : Option Place) → slice_get w.places s ≡ o → option_map_or (λ place. is_present cs place.class) o false ≡ true
          → (t : ℕ) × (moved k.sites s ≡ Some t) × (renumbered n.sites s ≡ t)
      by_place None at there = cc
      by_place (Some place) at there =
          let t = there_is (moved k.sites s) (rests.sites s place at ∙ rests.present place.class there) in
          (t.0, t.1, ap (λ (o : Option ℕ). unwrap_or o 0) (number_at k.sites (length w.places) s (slice_get_within w.places s place at) ∙ t.1))

  place_alike : (s : ℕ) (place : Place) → slice_get w.places s ≡ Some place → is_present cs place.class ≡ true
      → slice_get v.places (renumbered n.sites s) ≡ Some (renumbered_place n place)
  place_alike s place at there =
      let t = site_of s (ap (λ (o : Option Place). option_map_or (λ place. is_present cs place.class) o false) at ∙ there) in
      ap (slice_get v.places) t.2
      ∙ (slice_get-map (moved_place k) (kept k.sites w.places) t.0
      ∙ (ap (option_map (moved_place k)) (kept_at k.sites w.places s t.0 t.1 ∙ at)
      ∙ ap (λ (c : ℕ). Some (record place { class = c })) (class_number place.class (present_within place.class there))))

  call_site_number : (c d : ℕ) → c < length w.sites.call_sites → moved k.call_sites c ≡ Some d → renumbered n.call_sites c ≡ d
  call_site_number c d lt e = ap (λ (o : Option ℕ). unwrap_or o 0) (number_at k.call_sites (length w.sites.call_sites) c lt ∙ e)

  -- the binding of a site in a class that is present
  module _ (s : ℕ) (kept : is_in_staying_class w s ≡ true) where
    abbrev t : ℕ
    t = (site_of s kept).0

    abbrev found : List (ℕ × ℕ) → Option (ℕ × ℕ)
    found bs = find (λ b. b.0 == t) bs

    -- one of a site that is gone, or to a call site that is, is passed over
    abbrev there_or_not : Option ℕ → Option ℕ → Option (ℕ × ℕ)
    there_or_not o c = option_and_then (λ (s : ℕ). option_map (λ (c : ℕ). (s, c)) c) o

    -- one of another site
    other_binding : (b : ℕ × ℕ) (rest : List (ℕ × ℕ)) → (b.0 == s) ≡ false → (o c : Option ℕ) → moved k.sites b.0 ≡ o
        → found (cons_option (there_or_not o c) rest) ≡ found rest
    other_binding b rest other None c is = refl
    other_binding b rest other (Some j) None is = refl
    other_binding b rest other (Some j) (Some d) is =
        ap (λ (x : Bool). if x then Some (j, d) else found rest) (same_numbers k.sites b.0 s j t is (site_of s kept).1 ∙ other)

    binding_alike : (bs : List (ℕ × ℕ)) → ((i : ℕ) (b : ℕ × ℕ) → slice_get bs i ≡ Some b → is_missing w.sites.call_sites b.1 ≡ false
        → is_some (moved k.sites b.0) ≡ true → (d : ℕ) × (moved k.call_sites b.1 ≡ Some d) × (renumbered n.call_sites b.1 ≡ d))
        → option_map_or (is_missing w.sites.call_sites) (option_map (λ b. b.1) (find (λ b. b.0 == s) bs)) false ≡ false
        → found (filter_map (moved_binding k) bs) ≡ option_map (renumbered_binding n) (find (λ b. b.0 == s) bs)
    binding_alike [] all there = refl
    binding_alike (b ∷ bs) all there = by_site (b.0 == s) refl there (all zero b refl) (binding_alike bs (λ i. all (suc i)))
      where
        rest : Option (ℕ × ℕ)
        rest = find (λ a. a.0 == s) bs

        here : (b.0 == s) ≡ true → (d : ℕ) → moved k.call_sites b.1 ≡ Some d → renumbered n.call_sites b.1 ≡ d
            → found (cons_option (moved_binding k b) (filter_map (moved_binding k) bs)) ≡ Some (renumbered_binding n b)
        here is d call_site number =
            let same = (Decides-eqb b.0 s).0 is in
            let at = ap (moved k.sites) same ∙ (site_of s kept).1 in
            let site = ap (renumbered n.sites) same ∙ (site_of s kept).2 in
            (λ i. found (cons_option (there_or_not (at i) (call_site i)) (filter_map (moved_binding k) bs)))
            ∙ (ap (λ (x : Bool). if x then Some (t, d) else found (filter_map (moved_binding k) bs)) (nat_eq_equiv.refl t)
            ∙ (λ i. Some (sym site i, sym number i)))

        by_site : (x : Bool) → (b.0 == s) ≡ x
            → option_map_or (is_missing w.sites.call_sites) (option_map (λ b. b.1) (if x then Some b else rest)) false ≡ false
            → (is_missing w.sites.call_sites b.1 ≡ false → is_some (moved k.sites b.0) ≡ true
            → (d : ℕ) × (moved k.call_sites b.1 ≡ Some d) × (renumbered n.call_sites b.1 ≡ d))
            → (option_map_or (is_missing w.sites.call_sites) (option_map (λ b. b.1) rest) false ≡ false
            → found (filter_map (moved_binding k) bs) ≡ option_map (renumbered_binding n) rest)
            → found (cons_option (moved_binding k b) (filter_map (moved_binding k) bs)) ≡ option_map (renumbered_binding n) (if x then Some b else rest)
        by_site true is there call_site same =
            let stays = ap (λ (r : ℕ). is_some (moved k.sites r)) ((Decides-eqb b.0 s).0 is) ∙ ap is_some (site_of s kept).1 in
            let d = call_site there stays in
            here is d.0 d.1 d.2
        by_site false is there call_site same =
            other_binding b (filter_map (moved_binding k) bs) is (moved k.sites b.0) (moved k.call_sites b.1) refl ∙ same there

    -- a site that has lost its call site runs nothing
    abbrev runs : Option (ℕ × ℕ) → Option MethodId
    runs o = option_and_then (method_of v.sites) (option_map (λ b. b.1) o)

    none_runs : (bs : List (ℕ × ℕ)) → ((i : ℕ) (b : ℕ × ℕ) → slice_get bs i ≡ Some b → b.0 ≡ s → is_missing w.sites.call_sites b.1 ≡ true)
        → runs (found (filter_map (moved_binding k) bs)) ≡ None
    none_runs [] gone = refl
    none_runs (b ∷ bs) gone = by_site (b.0 == s) refl (none_runs bs (λ i. gone (suc i)))
      where
        released_there : (c d : ℕ) → moved k.call_sites c ≡ Some d → is_missing w.sites.call_sites c ≡ true → method_of v.sites d ≡ None
        released_there c d is missing =
            ap (option_and_then (λ site. evaluated v.sites d site.target))
            (call_site_at k w rests c d is ∙ ap (option_map (moved_call_site k)) (missing_row w.sites.call_sites c missing))

        by_call_site : (j : ℕ) (o : Option ℕ) → moved k.call_sites b.1 ≡ o → is_missing w.sites.call_sites b.1 ≡ true
            → runs (found (filter_map (moved_binding k) bs)) ≡ None
            → runs (found (cons_option (there_or_not (Some j) o) (filter_map (moved_binding k) bs))) ≡ None
        by_call_site j None is missing rest = rest
        by_call_site j (Some d) is missing rest = by_test (j == t)
          where
            by_test : (x : Bool) → runs (if x then Some (j, d) else found (filter_map (moved_binding k) bs)) ≡ None
            by_test true = released_there b.1 d is missing
            by_test false = rest

        by_site : (x : Bool) → (b.0 == s) ≡ x → runs (found (filter_map (moved_binding k) bs)) ≡ None
            → runs (found (cons_option (moved_binding k b) (filter_map (moved_binding k) bs))) ≡ None
        by_site true is rest =
            let same = (Decides-eqb b.0 s).0 is in
            ap (λ (o : Option ℕ). runs (found (cons_option (there_or_not o (moved k.call_sites b.1)) (filter_map (moved_binding k) bs))))
            (ap (moved k.sites) same ∙ (site_of s kept).1)
            ∙ by_call_site t (moved k.call_sites b.1) refl (gone zero b refl same) rest
        by_site false is rest =
            ap runs (other_binding b (filter_map (moved_binding k) bs) is (moved k.sites b.0) (moved k.call_sites b.1) refl) ∙ rest

  bound_there : (i : ℕ) (b : ℕ × ℕ) → slice_get w.bindings i ≡ Some b → is_missing w.sites.call_sites b.1 ≡ false → is_some (moved k.sites b.0) ≡ true
      → (d : ℕ) × (moved k.call_sites b.1 ≡ Some d) × (renumbered n.call_sites b.1 ≡ d)
  bound_there i b at there stays =
      let d = there_is (moved k.call_sites b.1) (names.bound i b at there stays) in
      (d.0, d.1, call_site_number b.1 d.0 (fit.bindings i b at).within d.1)

  -- ---- call sites

  target_alike : (c : ℕ) → c < length w.sites.call_sites → (ty : List ℕ) (t : Target) → part_fault w c ty t ≡ None → moved_target k t ≡ renumbered_target n t
  target_alike c lt ty (Method m) none =
      let named = test_none (not (may_be_named cs m)) UnknownMethod (first_none (then_some (not (may_be_named cs m)) UnknownMethod) _ none).0 in
      let present = first_test (is_present cs m.class) _ (not-false (may_be_named cs m) named) in
      ap (λ (d : ℕ). Method (record m { class = d })) (class_number m.class (present_within m.class present))
  target_alike c lt ty (Guard p first fallback) none =
      let known = first_none (then_some (is_missing w.sites.switches p) UnknownSwitch) _ none in
      let left = first_none (part_fault w c ty first) _ known.1 in
      let right = first_none (part_fault w c ty fallback) [] left.1 in
      let there = row_within w.sites.switches p (test_none (is_missing w.sites.switches p) UnknownSwitch known.0) in
      let point = ap (λ (o : Option ℕ). unwrap_or o 0) (sym (number_at k.switches (length w.sites.switches) p there)) in
      let x = target_alike c lt ty first left.0 in
      let y = target_alike c lt ty fallback right.0 in
      λ i. Guard (point i) (x i) (y i)
  target_alike c lt ty (Invoker d) none =
      let order = first_none (then_some (nat_le c d) (InvokerOrder d)) _ none in
      let less = leb-false c d (test_none (nat_le c d) (InvokerOrder d) order.0) in
      ap (λ (o : Option ℕ). Invoker (unwrap_or o 0)) (sym (number_at k.call_sites (length w.sites.call_sites) d (omega (arith, less, lt))))

  call_site_alike : (c : ℕ) (site : CallSite) → unreleased w.sites.call_sites c ≡ Some site → moved_call_site k site ≡ renumbered_call_site n site
  call_site_alike c site at =
      let deep = first_none (then_some (nat_lt 64 (depth site.target) || nat_lt 255 (parts site.target)) TooDeep) _ (fit.targets c site at) in
      let part = first_none (part_fault w c site.ty site.target) [] deep.1 in
      ap (λ (t : Target). record site { target = t }) (target_alike c (unreleased_within w.sites.call_sites c site at) site.ty site.target part.0)

  call_site_of : (c : ℕ) → is_some (moved k.call_sites c) ≡ true → c < length w.sites.call_sites
      → (d : ℕ) × (moved k.call_sites c ≡ Some d) × (renumbered n.call_sites c ≡ d)
  call_site_of c stays lt =
      let d = there_is (moved k.call_sites c) stays in
      (d.0, d.1, call_site_number c d.0 lt d.1)

  pub sites_alike : SitesAlike (all_numbers k w) w (moved_world k w) (λ c. is_some (moved k.call_sites c))
  sites_alike = record {
    fit = fit;
    alike = are_alike n cs ds embeds;
    places = place_alike;
    bindings = λ s alive.
        let kept = first_test (is_in_staying_class w s) _ alive in
        ap (λ (j : ℕ). find (λ b. b.0 == j) v.bindings) (site_of s kept).2
        ∙ binding_alike s kept w.bindings bound_there (not-true (has_lost_call_site w s) (second_test (is_in_staying_class w s) _ alive));
    lost = λ s kept lost.
        ap (λ (j : ℕ). option_and_then (method_of v.sites) (bound_to v j)) (site_of s kept).2
        ∙ none_runs s kept w.bindings (λ i b at is. lost_there w fit s lost i b at is);
    bound = λ i b at there kept. names.bound i b at there (ap is_some (site_of b.0 kept).1);
    rows = λ c site stays at.
        let d = call_site_of c stays (unreleased_within w.sites.call_sites c site at) in
        ap (unreleased v.sites.call_sites) d.2
        ∙ (call_site_at k w rests c d.0 d.1 ∙ (ap (option_map (moved_call_site k)) at ∙ ap Some (call_site_alike c site at)));
    order = λ d c d_stays c_stays lt within.
        let x = call_site_of d d_stays (omega (arith, lt, within)) in
        let y = call_site_of c c_stays within in
        let rises = moved_rises k.call_sites d c x.0 y.0 x.1 y.1 lt in
        let ex = x.2 in
        let ey = y.2 in
        omega (arith, rises, ex, ey);
    invoked = λ c d site at stays lt there h. invoked_there k site.target d (names.targets c site at stays) h;
    valid = λ c p site at stays there h.
        let q = there_is (moved k.switches p) (guard_there k site.target p (names.targets c site at stays) h) in
        ap (λ (o : Option Bool). option_map_or (λ valid. valid) o false)
        (ap (unreleased v.sites.switches) (ap (λ (o : Option ℕ). unwrap_or o 0)
        (number_at k.switches (length w.sites.switches) p (row_within w.sites.switches p there) ∙ q.1))
        ∙ row_kept k.switches w.sites.switches p q.0 q.1);
  }
