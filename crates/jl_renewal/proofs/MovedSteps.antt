-- New loaders, definitions and delegations are accepted in the fresh core, and lead there to what they have led to in the old one.
use Rattle.std.specs.Prelude.{◌≡◌, ℕ, ◌<◌, ◌==◌, ◌&&◌, ◌||◌, not, nat_le, Bool, false, List, [], ◌∷◌, ◌++◌, map, filter_map, find, length}
use Rattle.std.specs.Prelude.{slice_set, Option, Some, None, option_map, option_and_then, option_to_list, is_some, is_none, IsOk}
use Rattle.std.specs.Bool.{then_some}
use Rattle.std.specs.List.{cons_option, list_any}
use Rattle.std.specs.Option.{option_map_or}
use Rattle.std.specs.Str.{bytes_eq}
use Rattle.std.proofs.Common.{refl, sym, ap, ◌∙◌, arith}
use Rattle.std.proofs.lemmas.Bool.{lt-leb, leb-false, or_parts}
use Rattle.std.proofs.lemmas.List.{length-map, map-append}
use Rattle.jl_types.specs.declared.limits.Limits.{Limits}
use Rattle.jl_class.specs.Class.{ClassFile}
use Rattle.jl_class.specs.Flags.{has_flag, object, PUBLIC, INTERFACE}
use Rattle.jl_names.specs.ClassNames.{package_of}
use Rattle.jl_types.specs.declared.event.EventOf.TheVariants as event
use Rattle.jl_types.specs.declared.refusal.Refusal.TheVariants as refusal
use Rattle.jl_types.specs.declared.refusal.DelegateFault.TheVariants as delegate
use Rattle.jl_types.specs.Values.World.{World, Class, Classes}
use Rattle.jl_types.specs.Values.Members.{lookup, class_test, is_interface, share_package}
use Rattle.jl_types.specs.Linkage.Resolution.{first_of}
use Rattle.jl_types.specs.Events.Limits.{AreNoFewer}
use Rattle.jl_types.specs.Events.Verdict.{verdict, with_classes}
use Rattle.jl_types.specs.Events.Definitions.{define_fault, parent_names, class_made, defined, delegate_fault, is_unknown, named_test, is_final}
use Rattle.jl_types.specs.Events.Definitions.{is_open_parent, with_record, FINAL}
use Rattle.jl_types.proofs.Firsts.{first_none, test_none}
use Rattle.jl_types.proofs.Within.{room_below}
use Rattle.jl_types.proofs.Lists.{element_at}
use Rattle.jl_events.proofs.CallSiteLaws.{no_fault as no_refusal}
use Rattle.jl_relink.proofs.Closing.{no_fault}
use Rattle.jl_renewal.specs.Moved.{Flags, Rests, moved, shifted, kept, moved_record, moved_class, moved_classes, moved_world}
use Rattle.jl_renewal.proofs.MovedFollows.{Follows}
use Rattle.jl_renewal.proofs.ClassSteps.{IsFree, is_free, no_fault as none_at_all}
use Rattle.jl_renewal.proofs.MovedLists.{shifted_is, same_numbers, moved_end}
use Rattle.jl_renewal.proofs.MovedClasses.{loader_at, finds, found_stays, known, owner_stays, tested}
use Rattle.jl_renewal.proofs.MovedSites.{pushed, placed, map_kept_fewer, allowed, allowed_by}

-- ---- options

none_map : {A B : Type 0} (f : A → B) (o : Option A) → is_none (option_map f o) ≡ is_none o
none_map f None = refl
none_map f (Some a) = refl

some_map : {A B : Type 0} (f : A → B) (o : Option A) → is_some (option_map f o) ≡ is_some o
some_map f None = refl
some_map f (Some a) = refl

some_there : {A : Type 0} (o : Option A) → is_none o ≡ false → (a : A) × (o ≡ Some a)
some_there None e = cc
some_there (Some a) e = (a, refl)

module _ (k : Flags) (w : World) (rests : Rests k w) (limits more : Limits) (most : AreNoFewer limits more) where
  abbrev cs : Classes
  cs = w.classes

  abbrev ds : Classes
  ds = moved_classes k w.classes

  abbrev v : World
  v = moved_world k w

  -- ---- a loader

  pub loader_follows : IsOk (verdict limits w event.NewLoader) → Follows more k w event.NewLoader event.NewLoader
  loader_follows accepted =
      let lt = room_below limits.loaders (length cs.loaders) refusal.LoadersFull
      (no_refusal (then_some (nat_le limits.loaders (length cs.loaders)) refusal.LoadersFull) _ accepted) in
      let up = most.loaders in
      let fewer = map_kept_fewer (map (moved_record k)) k.loaders cs.loaders in
      record {
        accepted = allowed_by (nat_le more.loaders (length ds.loaders)) refusal.LoadersFull _
            (lt-leb more.loaders (length ds.loaders) (omega (arith, lt, fewer, up)));
        after = ap (λ (loaders : List (List (List ℕ × ℕ))). with_classes v (record ds { loaders = loaders }))
            (sym (pushed (map (moved_record k)) k.loaders cs.loaders [] rests.few_loaders));
      }

  -- ---- what a loader finds

  module _ (l m : ℕ) (at : moved k.loaders l ≡ Some m) where
    -- a record more
    record_more : (name : List ℕ) (c : ℕ) → l < length cs.loaders
        → with_record ds.loaders m name (shifted k.classes c) ≡ map (map (moved_record k)) (kept k.loaders (with_record cs.loaders l name c))
    record_more name c there =
        let records = element_at cs.loaders l there in
        ap (λ (o : Option (List (List ℕ × ℕ))).
        option_map_or (λ records. slice_set ds.loaders m (records ++ (name, shifted k.classes c) ∷ [])) o ds.loaders)
        (loader_at k w rests l m at ∙ ap (option_map (map (moved_record k))) records.1)
        ∙ (ap (λ (rs : List (List ℕ × ℕ)). slice_set ds.loaders m rs) (sym (map-append (moved_record k) records.0 ((name, c) ∷ [])))
        ∙ (sym (placed (map (moved_record k)) k.loaders cs.loaders l m (records.0 ++ (name, c) ∷ []) at)
        ∙ ap (λ (loaders : List (List (List ℕ × ℕ))). map (map (moved_record k)) (kept k.loaders loaders))
        (sym (ap (λ (o : Option (List (List ℕ × ℕ))).
        option_map_or (λ records. slice_set cs.loaders l (records ++ (name, c) ∷ [])) o cs.loaders) records.1))))

    -- a test of the class that is found
    tests : (test' test : Class → Bool)
        → ((row : Class) (n : ℕ) → moved k.loaders row.loader ≡ Some n → test' (moved_class k row) ≡ test row)
        → (name : List ℕ) → named_test (class_test test' ds) ds m name ≡ named_test (class_test test cs) cs l name
    tests test' test same name =
        ap (λ (o : Option ℕ). list_any (class_test test' ds) (option_to_list o)) (finds k w rests l m at name) ∙ by_class (lookup cs l name) refl
      where
        by_class : (o : Option ℕ) → lookup cs l name ≡ o
            → list_any (class_test test' ds) (option_to_list (option_map (shifted k.classes) o)) ≡ list_any (class_test test cs) (option_to_list o)
        by_class None is = refl
        by_class (Some c) is =
            let d = found_stays k w rests l m at name c is in
            ap (λ (x : ℕ). class_test test' ds x || false) (shifted_is k.classes c d.0 d.1)
            ∙ ap (λ (b : Bool). b || false)
            (tested k w rests test' test c d.0 d.1 (λ row there. let o = owner_stays k w rests c d.0 row d.1 there in same row o.0 o.1))

    -- ---- its definition

    module _ (file : ClassFile) where
      abbrev old_made : Class
      old_made = class_made cs l file

      abbrev new_made : Class
      new_made = class_made ds m file

      share_same : (row : Class) (n : ℕ) → moved k.loaders row.loader ≡ Some n → share_package (moved_class k row) new_made ≡ share_package row old_made
      share_same row n e =
          ap (λ (x : ℕ). (x == m) && bytes_eq (package_of row.file.name) (package_of file.name)) (shifted_is k.loaders row.loader n e)
          ∙ ap (λ (b : Bool). b && bytes_eq (package_of row.file.name) (package_of file.name)) (same_numbers k.loaders row.loader l n m e at)

      open_same : (name : List ℕ) → is_open_parent ds m file name ≡ is_open_parent cs l file name
      open_same =
          tests (λ row. has_flag row.file.flags PUBLIC || share_package row new_made) (λ row. has_flag row.file.flags PUBLIC || share_package row old_made)
          (λ row n e. ap (λ (b : Bool). has_flag row.file.flags PUBLIC || b) (share_same row n e))

      interface_same : (name : List ℕ) → named_test (is_interface ds) ds m name ≡ named_test (is_interface cs) cs l name
      interface_same = tests (λ row. has_flag row.file.flags INTERFACE) (λ row. has_flag row.file.flags INTERFACE) (λ row n e. refl)

      final_same : (name : List ℕ) → named_test (is_final ds) ds m name ≡ named_test (is_final cs) cs l name
      final_same = tests (λ row. has_flag row.file.flags FINAL) (λ row. has_flag row.file.flags FINAL) (λ row n e. refl)

      still_free : IsFree limits.classes cs l file → IsFree more.classes ds m file
      still_free free = record {
        known = known k w rests l m at free.known;
        object = ap (λ (b : Bool). bytes_eq file.name object && not b) (same_numbers k.loaders l 0 m 0 at rests.first) ∙ free.object;
        new = ap is_some (finds k w rests l m at file.name) ∙ (some_map (shifted k.classes) (lookup cs l file.name) ∙ free.new);
        itself = free.itself;
        missing = ap (λ (p : List ℕ → Bool). find p (parent_names file))
            (λ i name. (ap is_none (finds k w rests l m at name) ∙ none_map (shifted k.classes) (lookup cs l name)) i) ∙ free.missing;
        class = ap (λ (p : List ℕ → Bool). list_any p (option_to_list file.superclass)) (λ i name. interface_same name i) ∙ free.class;
        final = ap (λ (p : List ℕ → Bool). list_any p (option_to_list file.superclass)) (λ i name. final_same name i) ∙ free.final;
        interfaces = ap (λ (p : List ℕ → Bool). find p file.interfaces) (λ i name. not (interface_same name i)) ∙ free.interfaces;
        accessible = ap (λ (p : List ℕ → Bool). find p (parent_names file)) (λ i name. not (open_same name i)) ∙ free.accessible;
        room = lt-leb more.classes (length ds.rows)
            (let fewer = map_kept_fewer (moved_class k) k.classes cs.rows in
            let room = leb-false limits.classes (length cs.rows) free.room in
            let up = most.classes in
            omega (arith, fewer, room, up));
      }

      superclass_same : (o : Option (List ℕ)) → option_and_then (lookup ds m) o ≡ option_map (shifted k.classes) (option_and_then (lookup cs l) o)
      superclass_same None = refl
      superclass_same (Some name) = finds k w rests l m at name

      interfaces_same : (names : List (List ℕ)) → filter_map (lookup ds m) names ≡ map (shifted k.classes) (filter_map (lookup cs l) names)
      interfaces_same [] = refl
      interfaces_same (name ∷ names) =
          ap (λ (o : Option ℕ). cons_option o (filter_map (lookup ds m) names)) (finds k w rests l m at name)
          ∙ (ap (cons_option (option_map (shifted k.classes) (lookup cs l name))) (interfaces_same names)
          ∙ one (lookup cs l name) (filter_map (lookup cs l) names))
        where
          one : (o : Option ℕ) (rest : List ℕ)
              → cons_option (option_map (shifted k.classes) o) (map (shifted k.classes) rest) ≡ map (shifted k.classes) (cons_option o rest)
          one None rest = refl
          one (Some c) rest = refl

      made_same : class_made ds m file ≡ moved_class k (class_made cs l file)
      made_same = λ i. record {
        loader = sym (shifted_is k.loaders l m at) i;
        file = file;
        superclass = superclass_same file.superclass i;
        interfaces = interfaces_same file.interfaces i;
      }

      last_number : length ds.rows ≡ shifted k.classes (length cs.rows)
      last_number =
          length-map (kept k.classes cs.rows) (moved_class k)
          ∙ sym (shifted_is k.classes (length cs.rows) (length (kept k.classes cs.rows)) (moved_end k.classes cs.rows rests.few_classes))

      defined_same : l < length cs.loaders → defined ds m file ≡ moved_classes k (defined cs l file)
      defined_same there = λ i. record {
        loaders = (ap (λ (c : ℕ). with_record ds.loaders m file.name c) last_number ∙ record_more file.name (length cs.rows) there) i;
        rows = (ap (λ (row : Class). ds.rows ++ row ∷ []) made_same
            ∙ sym (pushed (moved_class k) k.classes cs.rows (class_made cs l file) rests.few_classes)) i;
        retired = ds.retired;
      }

      pub definition_follows : IsOk (verdict limits w (event.Define l file)) → Follows more k w (event.Define l file) (event.Define m file)
      definition_follows accepted =
          let free = is_free limits.classes cs l file (no_fault refusal.Define (define_fault limits.classes cs l file) _ accepted) in
          let there = leb-false (length cs.loaders) l (or_parts (nat_le (length cs.loaders) l) _ free.known).0 in
          record {
            accepted = allowed refusal.Define (define_fault more.classes ds m file) _ (none_at_all more.classes ds m file (still_free free));
            after = ap (with_classes v) (defined_same there);
          }

    -- ---- a delegation

    module _ (name : List ℕ) (to n : ℕ) (to_at : moved k.loaders to ≡ Some n) where
      pub delegation_follows : IsOk (verdict limits w (event.Delegate l name to)) → Follows more k w (event.Delegate l name to) (event.Delegate m name n)
      delegation_follows accepted =
          let none = no_fault refusal.Delegate (delegate_fault cs l name to) _ accepted in
          let unknown = first_none (then_some (is_unknown cs l || is_unknown cs to) delegate.UnknownLoader) _ none in
          let missing = first_none (then_some (is_none (lookup cs to name)) delegate.NotRecorded) _ unknown.1 in
          let again = first_none (then_some (is_some (lookup cs l name)) delegate.AlreadyRecorded) [] missing.1 in
          let both = or_parts (is_unknown cs l) (is_unknown cs to) (test_none _ delegate.UnknownLoader unknown.0) in
          let there = leb-false (length cs.loaders) l (or_parts (nat_le (length cs.loaders) l) _ both.0).0 in
          let found = some_there (lookup cs to name) (test_none _ delegate.NotRecorded missing.0) in
          let known_l = known k w rests l m at both.0 in
          let known_to = known k w rests to n to_at both.1 in
          let is_there = ap is_none (finds k w rests to n to_at name)
          ∙ (none_map (shifted k.classes) (lookup cs to name) ∙ test_none (is_none (lookup cs to name)) delegate.NotRecorded missing.0) in
          let is_new = ap is_some (finds k w rests l m at name)
          ∙ (some_map (shifted k.classes) (lookup cs l name) ∙ test_none (is_some (lookup cs l name)) delegate.AlreadyRecorded again.0) in
          record {
            accepted = allowed refusal.Delegate (delegate_fault ds m name n) _
                (λ i. first_of (
                then_some (known_l i || known_to i) delegate.UnknownLoader
                ∷ then_some (is_there i) delegate.NotRecorded
                ∷ then_some (is_new i) delegate.AlreadyRecorded
                ∷ []));
            after = ap (λ (loaders : List (List (List ℕ × ℕ))). with_classes v (record ds { loaders = loaders }))
                (ap (λ (o : Option ℕ). option_map_or (with_record ds.loaders m name) o ds.loaders)
                (finds k w rests to n to_at name ∙ ap (option_map (shifted k.classes)) found.1)
                ∙ (record_more name found.0 there
                ∙ ap (λ (o : Option ℕ). map (map (moved_record k)) (kept k.loaders (option_map_or (with_record cs.loaders l name) o cs.loaders)))
                (sym found.1)));
          }
