-- A further class drops no link of a row with the mark, and leaves the mark.
use Rattle.std.specs.Prelude.{◌≡◌, ℕ, ◌<◌, ◌==◌, Bool, true, false, ◌&&◌, List, [], ◌∷◌, length, map}
use Rattle.std.specs.Prelude.{slice_get, Option, Some, None, Ok, if◌then◌else◌}
use Rattle.std.specs.List.{list_any}
use Rattle.std.specs.Option.{option_map_or}
use Rattle.std.proofs.Common.{refl, ap, sym, subst, ◌∙◌, add-one}
use Rattle.std.proofs.lemmas.Cmp.{nat_eq_equiv}
use Rattle.std.proofs.lemmas.Option.{slice_get_within}
use Rattle.jl_class.specs.Class.{ClassFile}
use Rattle.jl_class.specs.Flags.{has_flag}
use Rattle.jl_types.specs.declared.ids.MethodId.{MethodId}
use Rattle.jl_types.specs.declared.ids.Place.{Place}
use Rattle.jl_types.specs.declared.answer.Outcome.TheVariants.{Run}
use Rattle.jl_types.specs.declared.event.EventOf.TheVariants as event
use Rattle.jl_types.specs.declared.key.Key.{Key}
use Rattle.jl_types.specs.declared.key.Key.TheVariants as key
use Rattle.jl_types.specs.declared.link.Link.{Link}
use Rattle.jl_types.specs.declared.link.Link.TheVariants.{Direct}
use Rattle.jl_types.specs.declared.link.TableKind.TheVariants as table
use Rattle.jl_types.specs.Values.World.{Class, Classes, World}
use Rattle.jl_types.specs.Values.Members.{is_private, is_static, is_abstract, is_concrete}
use Rattle.jl_types.specs.Values.Ancestry.{ancestors, is_ancestor, is_subclass, receivers, superclasses}
use Rattle.jl_types.specs.Linkage.Resolution.{first_element}
use Rattle.jl_types.specs.Linkage.Selection.{virtual_outcome}
use Rattle.jl_types.specs.Linkage.Stages.{Selector, ByVirtual, ByInterface, BySpecial, ResolvedCall, Stage, Waits, Fails, Calls, Selects, stage}
use Rattle.jl_types.specs.Linkage.Links.{outcome, outcome_by, table_rows, virtual_link, link_by, link_of, scratch}
use Rattle.jl_types.specs.Events.Definitions.{define_fault, defined}
use Rattle.jl_types.specs.Events.Footprints.{same_key, has_key, meets, of_selector, of_class, footprint, stays_with}
use Rattle.jl_types.specs.Events.History.{is_link}
use Rattle.jl_types.proofs.Bools.{any-map, or_none}
use Rattle.jl_types.proofs.Grown.{among_ancestors}
use Rattle.jl_types.proofs.Lists.{element_at}
use Rattle.jl_types.proofs.Orders.{IsGood, defined_good}
use Rattle.jl_hierarchy.specs.Constancy.{AreInOrder, Stays}
use Rattle.jl_hierarchy.proofs.Closed.{closed_defined, present_still}
use Rattle.jl_hierarchy.proofs.Constancy.{stays_defined}
use Rattle.jl_resolve.proofs.Later.{step_stays}
use Rattle.jl_resolve.proofs.Unchanged.{IsThere, IsOfThere, flag_stays, interface_stays, method_stays, private_stays, abstract_stays, static_stays}
use Rattle.jl_resolve.proofs.Unchanged.{row_stays, upward_stays}
use Rattle.jl_relink.specs.Laws.{IsInOrder, OneMore}
use Rattle.jl_relink.specs.Placed.{asking}
use Rattle.jl_relink.proofs.KeyLaws.{constant}
use Rattle.jl_relink.proofs.OneReceiver.{one_more}
use Rattle.jl_relink.proofs.Untouched.{IsLater, SiteKeeps, site_stays}
use Rattle.jl_report.specs.declared.row.Row.{Row}
use Rattle.jl_report.specs.declared.row.Finding.{Finding}
use Rattle.jl_report.specs.declared.row.Finding.TheVariants as finding
use Rattle.jl_report.specs.declared.invocation.Invocation.{Invocation}
use Rattle.jl_report.specs.Reports.{rests_on, row_of}
use Rattle.jl_report.specs.Drops.{keys_of, row_now, now_without, now_changed}
use Rattle.jl_report.specs.Methods.{looked_at, run_by_link, run_by}
use Rattle.jl_report.specs.Finals.{FINAL, AreDerived}
use Rattle.jl_report.specs.Finals.{is_final_in, is_final_call}
use Rattle.jl_report.specs.Gathering.{most_classes}
use Rattle.jl_report.proofs.FinalCallLaws.{IsFinalIn, final_in, final_mark, overrides_itself, settled, no_run, runs_first}
use Rattle.jl_report.proofs.FindingLaws.{in_world}
use Rattle.jl_report.proofs.OverrideLaws.{first_declared, runs_final}
use Rattle.jl_report.proofs.ResolvedLaws.{stage_found}
use Rattle.jl_report.proofs.StayLaws.{undropped_row}

-- a class with superclasses is there
upward_there : (cs : Classes) (c : ℕ) (m : MethodId) → list_any (λ k. k == m.class) (superclasses cs c) ≡ true → c < length cs.rows
upward_there cs c m h = by_row (slice_get cs.rows c) refl
  where
    by_row : (o : Option Class) → slice_get cs.rows c ≡ o → c < length cs.rows
    by_row None is =
        let none : superclasses cs c ≡ [] = rw (add-one c, is) refl in
        let other : false ≡ true = sym (ap (list_any (λ k. k == m.class)) none) ∙ h in cc
    by_row (Some row) is = slice_get_within cs.rows c row is

module _ (cs : Classes) (file : ClassFile) (order : AreInOrder cs) (accepted : define_fault most_classes cs 0 file ≡ None) where
  abbrev after : Classes
  after = defined cs 0 file

  abbrev n : ℕ
  n = length cs.rows

  good : IsGood cs
  good = record { there = order.there; ordered = order.ordered }

  stays : Stays cs after
  stays = stays_defined cs good 0 file

  module _ (c : ℕ) (m : MethodId) (it : IsFinalIn cs c m) where
    of_there : IsOfThere cs m
    of_there = by_row (slice_get cs.rows m.class) refl it.at
      where
        by_row : (o : Option Class) → slice_get cs.rows m.class ≡ o → slice_get (option_map_or (λ row. row.file.methods) o []) m.index ≡ Some it.own
            → m.class < length cs.rows
        by_row None is e = cc
        by_row (Some row) is e = slice_get_within cs.rows m.class row is

    there : IsThere cs c
    there = upward_there cs c m (first_declared cs it.own.name it.own.ty (superclasses cs c) m it.first).0

    still_final : IsFinalIn after c m
    still_final = record {
      plain = interface_stays cs after stays good c there ∙ it.plain;
      final = flag_stays cs after stays good (λ method. has_flag method.flags FINAL) m of_there ∙ it.final;
      in_class = interface_stays cs after stays good m.class of_there ∙ it.in_class;
      own = it.own;
      at = method_stays cs after stays good m of_there ∙ it.at;
      first = ap first_element (upward_stays cs after stays good it.own.name it.own.ty c there) ∙ it.first;
    }

    -- below c each class runs it
    below_runs : AreDerived after → is_static cs m ≡ false → is_private cs m ≡ false → is_abstract cs m ≡ false → (x : ℕ) → is_subclass after x c ≡ true
        → virtual_outcome after x m ≡ Run m
    below_runs derived instance shared whole x below =
        let now = still_final in
        let row = element_at cs.rows m.class of_there in
        let private_now = private_stays cs after stays good m of_there ∙ shared in
        runs_final after (defined_good cs good 0 file).ordered derived.finals c m now.own now.at now.first now.final
        (overrides_itself after m now.own now.at row.0 (row_stays cs after stays good m.class of_there ∙ row.1)
        (static_stays cs after stays good m of_there ∙ instance) private_now)
        private_now (abstract_stays cs after stays good m of_there ∙ whole) x below

  -- ---- a link that the new class touches

  key_above : (c : ℕ) → has_key (of_class after n) (key.Receivers c) ≡ true → is_ancestor after c n ≡ true
  key_above c = by_concrete (is_concrete after n)
    where
      by_concrete : (b : Bool) → has_key (if b then map key.Receivers (ancestors after.rows n) else []) (key.Receivers c) ≡ true → is_ancestor after c n ≡ true
      by_concrete false h = cc
      by_concrete true h =
          among_ancestors after (defined_good cs good 0 file).ordered c n
          ∙ sym (any-map (λ other. same_key other (key.Receivers c)) key.Receivers (ancestors after.rows n))
          ∙ h

  module _ (place : Place) where
    abbrev old : World
    old = asking cs place

    abbrev new : World
    new = asking after place

    in_order : IsInOrder old
    in_order = record { classes = order; points = refl }

    later : IsLater old new 0
    later = record {
      good = good;
      stays = step_stays old good (event.Define 0 file);
      constant = constant old in_order (event.Define 0 file) (closed_defined cs good 0 file order.closed);
      present = λ place at is. present_still cs good 0 file place.class is;
      places = λ place e. e;
      bindings = λ c e. e;
      runs = λ c listed m run. (run, refl);
    }

    module _ (derived : AreDerived after) (c : ℕ) (m : MethodId) (it : IsFinalIn cs c m) (l : Link) (run : run_by_link l ≡ Some m)
        (met : meets (footprint old 0) (keys_of cs file) ≡ true) (looked : looked_at (footprint old 0) ≡ Some c) (more : OneMore old 0 file 0 l) where
      -- an invocation that selects among the receivers of c
      module _ (i : ResolvedCall) (selects : stage old 0 ≡ Selects i) (same : more.invocation ≡ i) (rests : List Key)
          (keys : footprint old 0 ≡ rests) where
        named : (shared : is_private cs i.method ≡ false) → i.selector ≡ ByVirtual → rests ≡ key.Receivers i.named ∷ []
            → link_by cs i ByVirtual ≡ l → is_link (scratch new 0) l ≡ true
        named shared virtual is link =
            let receivers_of : key.Receivers i.named ∷ [] ≡ footprint old 0 = sym (keys ∙ is) in
            let c_is : i.named ≡ c = some_same (ap looked_at receivers_of ∙ looked) in
            let rows_link : virtual_link (table_rows cs i) ≡ l =
            sym (ap (λ (b : Bool). if b then Direct (virtual_outcome cs i.named i.method) else virtual_link (table_rows cs i)) shared) ∙ link
            in
            let first = runs_first (λ x. outcome cs i x) m (receivers cs i.named) (ap run_by_link rows_link ∙ run) in
            let ran : virtual_outcome cs first.receiver i.method ≡ Run m =
            sym (ap (λ (s : Selector). outcome_by cs i s first.receiver) virtual) ∙ first.run
            in
            let settled_now = settled cs i m first.receiver (stage_found cs place i selects) (subst (λ k. IsFinalIn cs k m) (sym c_is) it) shared ran in
            let up : is_ancestor after c n ≡ true =
            key_above c
            (ap (λ k. has_key (of_class after n) (key.Receivers k)) (sym c_is)
            ∙ sym (or_none (has_key (of_class after n) (key.Receivers i.named)))
            ∙ ap (λ ks. meets ks (of_class after n)) receivers_of
            ∙ met)
            in
            let below = derived.lines n c up (still_final c m it).plain in
            let runs_now : outcome after more.invocation n ≡ Run m =
            ap (λ (j : ResolvedCall). outcome after j n) same
            ∙ ap (λ (s : Selector). outcome_by after i s n) virtual
            ∙ ap (virtual_outcome after n) (sym settled_now.same)
            ∙ below_runs c m it derived settled_now.instance settled_now.shared settled_now.whole n below
            in
            more.link
            ∙ (λ j. stays_with ((sym rows_link ∙ first.direct) j) (runs_now j))
            ∙ (λ j. nat_eq_equiv.refl m.class j && nat_eq_equiv.refl m.index j)
          where
            some_same : {x y : ℕ} → Some x ≡ Some y → x ≡ y
            some_same e = cc

        by_private : i.selector ≡ ByVirtual → (b : Bool) → is_private cs i.method ≡ b → rests ≡ (if b then [] else key.Receivers i.named ∷ [])
            → link_by cs i ByVirtual ≡ l → is_link (scratch new 0) l ≡ true
        by_private virtual true is e link = let none : None ≡ Some c = sym (ap looked_at (keys ∙ e)) ∙ looked in cc
        by_private virtual false is e link = named is virtual e link

        by_selector : (s : Selector) → i.selector ≡ s → rests ≡ of_selector cs i s → link_by cs i s ≡ l → is_link (scratch new 0) l ≡ true
        by_selector ByVirtual is e link = by_private is (is_private cs i.method) refl e link
        by_selector ByInterface is e link =
            let none : None ≡ Some m = sym (no_run table.Interface (table_rows cs i)) ∙ ap run_by_link link ∙ run in cc
        by_selector BySpecial is e link = let none : None ≡ Some c = sym (ap looked_at (keys ∙ e)) ∙ looked in cc

      by_stage : (t : Stage) → stage old 0 ≡ t → SiteKeeps old new t (stage new 0) (footprint old 0) (footprint new 0) → link_of cs t ≡ Ok l
          → is_link (scratch new 0) l ≡ true
      by_stage (Waits reason) is keeps e = cc
      by_stage (Fails throwable) is keeps e = let other : Fails throwable ≡ Selects more.invocation = sym (keeps.same refl) ∙ more.selects in cc
      by_stage (Calls k) is keeps e = let other : Calls k ≡ Selects more.invocation = sym (keeps.same refl) ∙ more.selects in cc
      by_stage (Selects i) is keeps e =
          let both : Selects more.invocation ≡ Selects i = sym more.selects ∙ keeps.same refl in
          let same : more.invocation ≡ i = cc in
          let link : link_by cs i i.selector ≡ l = cc in
          by_selector i is same (of_selector cs i i.selector) (keeps.chosen i refl) i.selector refl refl link

    kept_link : AreDerived after → (c : ℕ) (m : MethodId) → IsFinalIn cs c m → (l : Link) → run_by_link l ≡ Some m → scratch old 0 ≡ Ok l
        → meets (footprint old 0) (keys_of cs file) ≡ true → looked_at (footprint old 0) ≡ Some c → is_link (scratch new 0) l ≡ true
    kept_link derived c m it l run link met looked =
        by_stage derived c m it l run met looked (one_more old in_order 0 file 0 l met link) (stage old 0) refl (site_stays old new 0 later) link

  -- ---- rows

  module _ (derived : AreDerived after) (invocation : Invocation) (mark : is_final_call cs (row_of cs invocation) ≡ true) where
    abbrev row : Row
    row = row_of cs invocation

    abbrev before : World
    before = asking cs invocation.place

    record IsMarked : Type 0 where
      class : ℕ
      method : MethodId
      looked : looked_at row.rests_on ≡ Some class
      run : run_by row.finding ≡ Some method
      final : is_final_in cs class method ≡ true

    marked : IsMarked
    marked = by_class (looked_at row.rests_on) refl mark
      where
        by_method : (c : ℕ) → looked_at row.rests_on ≡ Some c → (o : Option MethodId) → run_by row.finding ≡ o
            → option_map_or (is_final_in cs c) o false ≡ true → IsMarked
        by_method c looked None is h = cc
        by_method c looked (Some m) is h = record { class = c; method = m; looked = looked; run = is; final = h }

        by_class : (o : Option ℕ) → looked_at row.rests_on ≡ o
            → option_map_or (λ c. option_map_or (is_final_in cs c) (run_by row.finding) false) o false ≡ true → IsMarked
        by_class None is h = cc
        by_class (Some c) is h = by_method c is (run_by row.finding) refl h

    record HasLink : Type 0 where
      link : Link
      is : row.finding ≡ finding.Linked link

    has_link : HasLink
    has_link = by_finding row.finding refl marked.run
      where
        by_finding : (f : Finding) → row.finding ≡ f → run_by f ≡ Some marked.method → HasLink
        by_finding (finding.Linked l) is e = record { link = l; is = is }
        by_finding (finding.Unlinked reason) is e = cc
        by_finding (finding.NotLinkable reason) is e = cc

    rests : row.rests_on ≡ footprint before 0
    rests = ap (rests_on before) has_link.is

    pub kept_row : now_changed after (keys_of cs file) row ≡ None
    kept_row = by_met (meets row.rests_on (keys_of cs file)) refl
      where
        stays_link : meets row.rests_on (keys_of cs file) ≡ true → is_link (scratch (asking after invocation.place) 0) has_link.link ≡ true
        stays_link met =
            kept_link invocation.place derived marked.class marked.method (final_in cs marked.class marked.method marked.final) has_link.link
            (sym (ap run_by has_link.is) ∙ marked.run) (in_world before invocation.never has_link.link has_link.is)
            (sym (ap (λ ks. meets ks (keys_of cs file)) rests) ∙ met) (sym (ap looked_at rests) ∙ marked.looked)

        by_met : (b : Bool) → meets row.rests_on (keys_of cs file) ≡ b → (if b then now_without after row row.finding else None) ≡ None
        by_met false is = refl
        by_met true is =
            ap (now_without after row) has_link.is
            ∙ ap (λ (b : Bool). if b then None else Some (row_now after row)) (stays_link is)

    pub same_row : row_of after invocation ≡ row
    same_row = undropped_row cs file order accepted invocation has_link.link has_link.is kept_row

    pub still_marked : is_final_call after (row_of after invocation) ≡ true
    still_marked =
        ap (is_final_call after) same_row
        ∙ (λ i. option_map_or (λ c. option_map_or (is_final_in after c) (marked.run i) false) (marked.looked i) false)
        ∙ final_mark after marked.class marked.method
        (still_final marked.class marked.method (final_in cs marked.class marked.method marked.final))
