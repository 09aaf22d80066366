-- Definitions and delegations of what stays are accepted in the fresh core, and lead there to what they have led to in the old one.
use Rattle.std.specs.Prelude.{◌≡◌, ℕ, zero, ◌<◌, ◌≤◌, ◌==◌, ◌&&◌, ◌||◌, not, nat_le, Bool, true, false, List, [], ◌∷◌, map, length}
use Rattle.std.specs.Prelude.{slice_get, find, Option, Some, None, option_map, option_to_list, is_some, is_none}
use Rattle.std.specs.Option.{option_map_or}
use Rattle.std.specs.List.{list_any}
use Rattle.std.specs.Bool.{then_some}
use Rattle.std.specs.Str.{bytes_eq}
use Rattle.std.proofs.Common.{refl, sym, ap, subst, ◌∙◌, arith}
use Rattle.std.proofs.lemmas.Bool.{both_ways}
use Rattle.std.proofs.lemmas.Bool.Decides.{Decides-eqb, nat_tests}
use Rattle.std.proofs.lemmas.List.{length-map}
use Rattle.std.proofs.lemmas.Option.{slice_get_within}
use Rattle.jl_class.specs.Class.{ClassFile}
use Rattle.jl_class.specs.Flags.{has_flag, object, PUBLIC, INTERFACE}
use Rattle.jl_names.specs.ClassNames.{package_of}
use Rattle.jl_types.specs.declared.refusal.DefineFault.TheVariants as define
use Rattle.jl_types.specs.Values.World.{World, Class, Classes}
use Rattle.jl_types.specs.Values.Members.{lookup, class_test, is_present, is_retired, is_interface, share_package}
use Rattle.jl_types.specs.Linkage.Resolution.{first_of}
use Rattle.jl_types.specs.Events.Definitions.{define_fault, parent_names, class_made, is_unknown, named_test, is_final, is_open_parent, FINAL}
use Rattle.jl_types.proofs.Firsts.{first_none, test_none}
use Rattle.jl_types.proofs.Lists.{element_at}
use Rattle.jl_renewal.specs.declared.released.Released.{Released}
use Rattle.jl_renewal.specs.Numbers.{Numbers, numbered, staying, how_many, renumbered}
use Rattle.jl_renewal.specs.Staying.{numbers_of, staying_loaders, staying_classes}
use Rattle.jl_renewal.specs.Renewed.{renumbered_record, renumbered_class}
use Rattle.jl_renewal.proofs.NumberLaws.{before, renumbered_is, staying_at, before_once, staying_length, before_many}
use Rattle.jl_renewal.proofs.ClassLaws.{fresh_of, padded, padded_at, lookup_same, class_same, class_stays, loader_stays}

-- ---- why a class is defined

-- each fault of a definition is none, where there are at most so many classes
pub record IsFree (most : ℕ) (cs : Classes) (loader : ℕ) (file : ClassFile) : Type 0 where
  pub known : is_unknown cs loader ≡ false
  pub object : (bytes_eq file.name object && not (loader == 0)) ≡ false
  pub new : is_some (lookup cs loader file.name) ≡ false
  pub itself : list_any (bytes_eq file.name) (parent_names file) ≡ false
  pub missing : find (λ name. is_none (lookup cs loader name)) (parent_names file) ≡ None
  pub class : list_any (named_test (is_interface cs) cs loader) (option_to_list file.superclass) ≡ false
  pub final : list_any (named_test (is_final cs) cs loader) (option_to_list file.superclass) ≡ false
  pub interfaces : find (λ name. not (named_test (is_interface cs) cs loader name)) file.interfaces ≡ None
  pub accessible : find (λ name. not (is_open_parent cs loader file name)) (parent_names file) ≡ None
  pub room : nat_le most (length cs.rows) ≡ false

map_none : {A B : Type 0} (f : A → B) (o : Option A) → option_map f o ≡ None → o ≡ None
map_none f None e = refl
map_none f (Some a) e = cc

pub is_free : (most : ℕ) (cs : Classes) (loader : ℕ) (file : ClassFile) → define_fault most cs loader file ≡ None → IsFree most cs loader file
is_free most cs loader file none =
    let a = first_none _ _ none in
    let b = first_none _ _ a.1 in
    let c = first_none _ _ b.1 in
    let d = first_none _ _ c.1 in
    let e = first_none _ _ d.1 in
    let f = first_none _ _ e.1 in
    let g = first_none _ _ f.1 in
    let h = first_none _ _ g.1 in
    let i = first_none _ _ h.1 in
    let j = first_none _ _ i.1 in
    record {
      known = test_none _ _ a.0;
      object = test_none _ _ b.0;
      new = test_none _ _ c.0;
      itself = test_none _ _ d.0;
      missing = map_none _ _ e.0;
      class = test_none _ _ f.0;
      final = test_none _ _ g.0;
      interfaces = map_none _ _ h.0;
      accessible = map_none _ _ i.0;
      room = test_none _ _ j.0;
    }

none_first : {A : Type 0} (o : Option A) (rest : List (Option A)) → o ≡ None → first_of rest ≡ None → first_of (o ∷ rest) ≡ None
none_first None rest e none = none
none_first (Some a) rest e none = cc

none_test : {A : Type 0} (b : Bool) (x : A) → b ≡ false → then_some b x ≡ None
none_test true x e = cc
none_test false x e = refl

pub no_fault : (most : ℕ) (cs : Classes) (loader : ℕ) (file : ClassFile) → IsFree most cs loader file → define_fault most cs loader file ≡ None
no_fault most cs loader file free =
    none_first _ _ (none_test _ _ free.known)
    (none_first _ _ (none_test _ _ free.object)
    (none_first _ _ (none_test _ _ free.new)
    (none_first _ _ (none_test _ _ free.itself)
    (none_first _ _ (ap (option_map define.MissingParent) free.missing)
    (none_first _ _ (none_test _ _ free.class)
    (none_first _ _ (none_test _ _ free.final)
    (none_first _ _ (ap (option_map define.NotAnInterface) free.interfaces)
    (none_first _ _ (ap (option_map define.InaccessibleParent) free.accessible)
    (none_first _ _ (none_test _ _ free.room) refl)))))))))

-- ---- a loader that stays, at some time of the log

is_none_map : {A B : Type 0} (f : A → B) (o : Option A) → is_none (option_map f o) ≡ is_none o
is_none_map f None = refl
is_none_map f (Some a) = refl

is_some_map : {A B : Type 0} (f : A → B) (o : Option A) → is_some (option_map f o) ≡ is_some o
is_some_map f None = refl
is_some_map f (Some a) = refl

or_false : (a b : Bool) → a ≡ false → b ≡ false → (a || b) ≡ false
or_false true b ea eb = cc
or_false false b ea eb = eb

le_false : (a b : ℕ) → b < a → nat_le a b ≡ false
le_false a b lt = grind (arith, nat_tests, lt)

-- two that stay have one number where they are one
pub number_same : (stays : List Bool) (a b : ℕ) → slice_get stays a ≡ Some true → slice_get stays b ≡ Some true
    → (renumbered (numbered stays) a == renumbered (numbered stays) b) ≡ (a == b)
number_same stays a b sa sb = by_test (a == b) refl
  where
    by_test : (same : Bool) → (a == b) ≡ same → (renumbered (numbered stays) a == renumbered (numbered stays) b) ≡ same
    by_test true is =
        (Decides-eqb (renumbered (numbered stays) a) (renumbered (numbered stays) b)).1 (ap (renumbered (numbered stays)) ((Decides-eqb a b).0 is))
    by_test false is = other (renumbered (numbered stays) a == renumbered (numbered stays) b) refl
      where
        other : (t : Bool) → (renumbered (numbered stays) a == renumbered (numbered stays) b) ≡ t → t ≡ false
        other false e = refl
        other true e =
            let same = before_once stays a b sa sb
            (sym (renumbered_is stays a sa) ∙ ((Decides-eqb (renumbered (numbered stays) a) (renumbered (numbered stays) b)).0 e ∙ renumbered_is stays b sb))
            in absurd (both_ways (a == b) is ((Decides-eqb a b).1 same))

-- What of the old classes at some time is there in the end.
pub record IsEarlier (w : World) (mid : Classes) : Type 0 where
  pub loaders : length mid.loaders ≤ length w.classes.loaders
  pub first : is_retired w.classes 0 ≡ false
  pub some : zero < length mid.loaders
  pub rows : (c : ℕ) (row : Class) → slice_get mid.rows c ≡ Some row → slice_get w.classes.rows c ≡ Some row
  pub owned : (c : ℕ) (row : Class) → slice_get w.classes.rows c ≡ Some row → is_retired w.classes row.loader ≡ false
      → slice_get (staying_loaders w.classes) row.loader ≡ Some true
  -- what a loader that stays has found stays, and was there
  pub found : (l : ℕ) (name : List ℕ) (c : ℕ) → is_retired w.classes l ≡ false → lookup mid l name ≡ Some c
      → (is_present w.classes c ≡ true) × ((row : Class) × (slice_get mid.rows c ≡ Some row))

module _ (w : World) (released : Released) (mid : Classes) (earlier : IsEarlier w mid) (l : ℕ) (live : is_retired w.classes l ≡ false)
    (there : l < length mid.loaders) where
  abbrev n : Numbers
  n = numbers_of w released

  abbrev k : ℕ
  k = renumbered n.loaders l

  abbrev fresh : Classes
  fresh = fresh_of w released mid

  pub l_stays : slice_get (staying_loaders w.classes) l ≡ Some true
  l_stays = loader_stays w.classes l (let le = earlier.loaders in omega (arith, there, le)) live

  pub finds : (name : List ℕ) → lookup fresh k name ≡ option_map (renumbered n.classes) (lookup mid l name)
  finds = lookup_same w released mid l l_stays there

  -- a test of the class that is found
  tests : (test' test : Class → Bool)
      → ((row : Class) → slice_get (staying_loaders w.classes) row.loader ≡ Some true → test' (renumbered_class n row) ≡ test row)
      → (name : List ℕ) → named_test (class_test test' fresh) fresh k name ≡ named_test (class_test test mid) mid l name
  tests test' test same name =
      ap (λ (o : Option ℕ). list_any (class_test test' fresh) (option_to_list o)) (finds name) ∙ by_class (lookup mid l name) refl
    where
      live_row : (c : ℕ) (row : Class) → slice_get w.classes.rows c ≡ Some row → is_present w.classes c ≡ true → is_retired w.classes row.loader ≡ false
      live_row c row is present =
          not_true (is_retired w.classes row.loader)
          (sym (ap (λ (o : Option Class). option_map_or (λ row. not (is_retired w.classes row.loader)) o false) is) ∙ present)
        where
          not_true : (b : Bool) → not b ≡ true → b ≡ false
          not_true true e = cc
          not_true false e = refl

      by_class : (o : Option ℕ) → lookup mid l name ≡ o
          → list_any (class_test test' fresh) (option_to_list (option_map (renumbered n.classes) o)) ≡ list_any (class_test test mid) (option_to_list o)
      by_class None is = refl
      by_class (Some c) is =
          let found = earlier.found l name c live is in
          let row = found.1 in
          ap (λ (b : Bool). b || false)
          (class_same w released mid test' test c row.0 (class_stays w.classes c found.0) row.1
          (same row.0 (let last = earlier.rows c row.0 row.1 in earlier.owned c row.0 last (live_row c row.0 last found.0))))

  -- it is known in the fresh core
  pub known_still : is_unknown fresh k ≡ false
  known_still =
      or_false (nat_le (length fresh.loaders) k) false
      (le_false (length fresh.loaders) k
      (subst (λ (m : ℕ). k < m)
      (sym (length-map (staying (staying_loaders w.classes) (padded (length w.classes.loaders) mid.loaders)) (map (renumbered_record n))))
      (subst (λ (m : ℕ). m < length (staying (staying_loaders w.classes) (padded (length w.classes.loaders) mid.loaders)))
      (sym (renumbered_is (staying_loaders w.classes) l l_stays))
      (let records = element_at mid.loaders l there in
      slice_get_within _ _ _ (staying_at (staying_loaders w.classes) (padded (length w.classes.loaders) mid.loaders) l records.0 l_stays
      (padded_at (length w.classes.loaders) mid.loaders l records.0 records.1))))))
      refl

  -- ---- its definition

  module _ (file : ClassFile) where
    abbrev old_made : Class
    old_made = class_made mid l file

    abbrev new_made : Class
    new_made = class_made fresh k file

    share_same : (row : Class) → slice_get (staying_loaders w.classes) row.loader ≡ Some true
        → share_package (renumbered_class n row) new_made ≡ share_package row old_made
    share_same row stays =
        ap (λ (b : Bool). b && bytes_eq (package_of row.file.name) (package_of file.name))
        (number_same (staying_loaders w.classes) row.loader l stays l_stays)

    accessible_same : (name : List ℕ) → is_open_parent fresh k file name ≡ is_open_parent mid l file name
    accessible_same =
        tests (λ row. has_flag row.file.flags PUBLIC || share_package row new_made) (λ row. has_flag row.file.flags PUBLIC || share_package row old_made)
        (λ row stays. ap (λ (b : Bool). has_flag row.file.flags PUBLIC || b) (share_same row stays))

    interface_same : (name : List ℕ) → named_test (is_interface fresh) fresh k name ≡ named_test (is_interface mid) mid l name
    interface_same = tests (λ row. has_flag row.file.flags INTERFACE) (λ row. has_flag row.file.flags INTERFACE) (λ row stays. refl)

    final_same : (name : List ℕ) → named_test (is_final fresh) fresh k name ≡ named_test (is_final mid) mid l name
    final_same = tests (λ row. has_flag row.file.flags FINAL) (λ row. has_flag row.file.flags FINAL) (λ row stays. refl)

    -- the first loader stays the first
    zero_same : (k == 0) ≡ (l == 0)
    zero_same =
        ap (λ (z : ℕ). k == z) (sym (renumbered_is (staying_loaders w.classes) 0 first_stays ∙ none_before (staying_loaders w.classes)))
        ∙ number_same (staying_loaders w.classes) l 0 l_stays first_stays
      where
        first_stays : slice_get (staying_loaders w.classes) 0 ≡ Some true
        first_stays = loader_stays w.classes 0 (let le = earlier.loaders in let some = earlier.some in omega (arith, le, some)) earlier.first

        none_before : (stays : List Bool) → before stays 0 ≡ 0
        none_before [] = refl
        none_before (b ∷ stays) = refl

    pub still_free : (most limit : ℕ) → length fresh.rows < limit → IsFree most mid l file → IsFree limit fresh k file
    still_free most limit has_room free = record {
      known = known_still;
      object = ap (λ (b : Bool). bytes_eq file.name object && not b) zero_same ∙ free.object;
      new = ap is_some (finds file.name) ∙ (is_some_map (renumbered n.classes) (lookup mid l file.name) ∙ free.new);
      itself = free.itself;
      missing = ap (λ (p : List ℕ → Bool). find p (parent_names file))
          (λ i name. (ap is_none (finds name) ∙ is_none_map (renumbered n.classes) (lookup mid l name)) i) ∙ free.missing;
      class = ap (λ (p : List ℕ → Bool). list_any p (option_to_list file.superclass)) (λ i name. interface_same name i) ∙ free.class;
      final = ap (λ (p : List ℕ → Bool). list_any p (option_to_list file.superclass)) (λ i name. final_same name i) ∙ free.final;
      interfaces = ap (λ (p : List ℕ → Bool). find p file.interfaces) (λ i name. not (interface_same name i)) ∙ free.interfaces;
      accessible = ap (λ (p : List ℕ → Bool). find p (parent_names file)) (λ i name. not (accessible_same name i)) ∙ free.accessible;
      room = le_false limit (length fresh.rows) has_room;
    }

    -- there is room for it where as many may be there as stay
    module _ (limit : ℕ) (few : how_many (staying_classes w.classes) ≤ limit) (its : slice_get (staying_classes w.classes) (length mid.rows) ≡ Some true) where
      has_room : length fresh.rows < limit
      has_room =
          let within = slice_get_within (staying_classes w.classes) (length mid.rows) true its in
          let as_many = length-map (staying (staying_classes w.classes) mid.rows) (renumbered_class n) in
          let long = staying_length (staying_classes w.classes) mid.rows (omega (arith, within)) in
          let one_more = before_many (staying_classes w.classes) (length mid.rows) its in
          omega (arith, as_many, long, one_more, few)

      -- it is accepted
      pub define_accepted : (most : ℕ) → define_fault most mid l file ≡ None → define_fault limit fresh k file ≡ None
      define_accepted most none = no_fault limit fresh k file (still_free most limit has_room (is_free most mid l file none))
