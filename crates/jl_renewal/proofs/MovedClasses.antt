-- What the fresh classes find and test, whatever the old ones have become since.
use Rattle.std.specs.Prelude.{◌≡◌, ℕ, ◌==◌, ◌||◌, not, nat_le, Bool, true, false, List, [], ◌∷◌, map, length, slice_get, find}
use Rattle.std.specs.Prelude.{Option, Some, None, option_map, option_and_then, is_some, is_none, if◌then◌else◌}
use Rattle.std.specs.Option.{option_map_or}
use Rattle.std.specs.List.{list_any}
use Rattle.std.specs.Str.{bytes_eq}
use Rattle.std.proofs.Common.{refl, sym, ap, ◌∙◌, arith}
use Rattle.std.proofs.lemmas.Bool.{lt-leb, leb-false, or_parts, both_ways}
use Rattle.std.proofs.lemmas.List.{length-map}
use Rattle.std.proofs.lemmas.Option.{same_Some, slice_get-map}
use Rattle.jl_class.specs.Class.{Method}
use Rattle.jl_types.specs.declared.ids.Place.{Place}
use Rattle.jl_types.specs.Values.World.{World, Class, Classes}
use Rattle.jl_types.specs.Values.Members.{lookup, recorded, class_test, is_present, is_retired, methods_of}
use Rattle.jl_types.specs.Linkage.Stages.{invocation_at}
use Rattle.jl_types.specs.Events.Definitions.{is_unknown}
use Rattle.jl_renewal.specs.Moved.{Flags, Rests, moved, shifted, kept, moved_record, moved_class, moved_classes}
use Rattle.jl_renewal.proofs.MovedLists.{shifted_is, kept_at, moved_within, among_moved, there_is}

module _ (k : Flags) (w : World) (rests : Rests k w) where
  abbrev cs : Classes
  cs = w.classes

  abbrev ds : Classes
  ds = moved_classes k w.classes

  -- ---- loaders

  pub loader_at : (l m : ℕ) → moved k.loaders l ≡ Some m → slice_get ds.loaders m ≡ option_map (map (moved_record k)) (slice_get cs.loaders l)
  loader_at l m e =
      slice_get-map (map (moved_record k)) (kept k.loaders cs.loaders) m ∙ ap (option_map (map (moved_record k))) (kept_at k.loaders cs.loaders l m e)

  recorded_same : (name : List ℕ) (records : List (List ℕ × ℕ))
      → recorded name (map (moved_record k) records) ≡ option_map (shifted k.classes) (recorded name records)
  recorded_same name [] = refl
  recorded_same name (r ∷ records) = by_test (bytes_eq r.0 name) (recorded_same name records)
    where
      by_test : (b : Bool) → recorded name (map (moved_record k) records) ≡ option_map (shifted k.classes) (recorded name records)
          → option_map (λ (x : List ℕ × ℕ). x.1)
          (if b then Some (moved_record k r) else find (λ (x : List ℕ × ℕ). bytes_eq x.0 name) (map (moved_record k) records))
          ≡ option_map (shifted k.classes) (option_map (λ (x : List ℕ × ℕ). x.1) (if b then Some r else find (λ (x : List ℕ × ℕ). bytes_eq x.0 name) records))
      by_test true rest = refl
      by_test false rest = rest

  -- what a loader finds
  pub finds : (l m : ℕ) → moved k.loaders l ≡ Some m → (name : List ℕ) → lookup ds m name ≡ option_map (shifted k.classes) (lookup cs l name)
  finds l m e name = ap (option_and_then (recorded name)) (loader_at l m e) ∙ by_records (slice_get cs.loaders l)
    where
      by_records : (o : Option (List (List ℕ × ℕ))) → option_and_then (recorded name) (option_map (map (moved_record k)) o)
          ≡ option_map (shifted k.classes) (option_and_then (recorded name) o)
      by_records None = refl
      by_records (Some records) = recorded_same name records

  -- what is found stays
  found_among : (name : List ℕ) (records : List (List ℕ × ℕ)) (c : ℕ) → recorded name records ≡ Some c
      → list_any (λ r. is_none (moved k.classes r.1)) records ≡ false → is_some (moved k.classes c) ≡ true
  found_among name [] c e all = cc
  found_among name (r ∷ records) c e all =
      let parts = or_parts (is_none (moved k.classes r.1)) (list_any (λ r. is_none (moved k.classes r.1)) records) all in
      by_test (bytes_eq r.0 name) e parts.0 (λ more. found_among name records c more parts.1)
    where
      is_there : (o : Option ℕ) → is_none o ≡ false → is_some o ≡ true
      is_there None e = cc
      is_there (Some a) e = refl

      by_test : (b : Bool) → option_map (λ (x : List ℕ × ℕ). x.1) (if b then Some r else find (λ (x : List ℕ × ℕ). bytes_eq x.0 name) records) ≡ Some c
          → is_none (moved k.classes r.1) ≡ false → (recorded name records ≡ Some c → is_some (moved k.classes c) ≡ true)
          → is_some (moved k.classes c) ≡ true
      by_test true e here rest = ap (λ (d : ℕ). is_some (moved k.classes d)) (sym (same_Some r.1 c e)) ∙ is_there (moved k.classes r.1) here
      by_test false e here rest = rest e

  pub found_stays : (l m : ℕ) → moved k.loaders l ≡ Some m → (name : List ℕ) (c : ℕ) → lookup cs l name ≡ Some c
      → (d : ℕ) × (moved k.classes c ≡ Some d)
  found_stays l m e name c is = there_is (moved k.classes c) (by_records (slice_get cs.loaders l) refl is)
    where
      by_records : (o : Option (List (List ℕ × ℕ))) → slice_get cs.loaders l ≡ o → option_and_then (recorded name) o ≡ Some c
          → is_some (moved k.classes c) ≡ true
      by_records None at is = cc
      by_records (Some records) at is = found_among name records c is (rests.recorded l m records e at)

  pub retired_same : (l m : ℕ) → moved k.loaders l ≡ Some m → is_retired ds m ≡ is_retired cs l
  retired_same l m e = among_moved k.loaders cs.retired l m e

  -- a loader that is known
  pub known : (l m : ℕ) → moved k.loaders l ≡ Some m → is_unknown cs l ≡ false → is_unknown ds m ≡ false
  known l m e is =
      let parts = or_parts (nat_le (length cs.loaders) l) (is_retired cs l) is in
      let within = moved_within k.loaders cs.loaders l m e (leb-false (length cs.loaders) l parts.0) in
      let same = length-map (kept k.loaders cs.loaders) (map (moved_record k)) in
      λ i. lt-leb (length ds.loaders) m (omega (arith, within, same)) i || (retired_same l m e ∙ parts.1) i

  -- a loader that isn't retired stays
  pub live_stays : (l : ℕ) → is_retired cs l ≡ false → (m : ℕ) × (moved k.loaders l ≡ Some m)
  live_stays l live = by_number (moved k.loaders l) refl
    where
      by_number : (o : Option ℕ) → moved k.loaders l ≡ o → (m : ℕ) × (o ≡ Some m)
      by_number None e = absurd (both_ways (is_retired cs l) live (rests.gone l e))
      by_number (Some m) e = (m, refl)

  -- ---- classes

  pub row_at : (c d : ℕ) → moved k.classes c ≡ Some d → slice_get ds.rows d ≡ option_map (moved_class k) (slice_get cs.rows c)
  row_at c d e = slice_get-map (moved_class k) (kept k.classes cs.rows) d ∙ ap (option_map (moved_class k)) (kept_at k.classes cs.rows c d e)

  -- the loader of a class that stays
  pub owner_stays : (c d : ℕ) (row : Class) → moved k.classes c ≡ Some d → slice_get cs.rows c ≡ Some row → (m : ℕ) × (moved k.loaders row.loader ≡ Some m)
  owner_stays c d row e is = there_is (moved k.loaders row.loader) (rests.owned c row is (ap is_some e))

  -- a test of a class
  pub tested : (test' test : Class → Bool) (c d : ℕ) → moved k.classes c ≡ Some d
      → ((row : Class) → slice_get cs.rows c ≡ Some row → test' (moved_class k row) ≡ test row) → class_test test' ds d ≡ class_test test cs c
  tested test' test c d e same = ap (λ (o : Option Class). option_map_or test' o false) (row_at c d e) ∙ by_row (slice_get cs.rows c) refl
    where
      by_row : (o : Option Class) → slice_get cs.rows c ≡ o → option_map_or test' (option_map (moved_class k) o) false ≡ option_map_or test o false
      by_row None is = refl
      by_row (Some row) is = same row is

  pub present_same : (c d : ℕ) → moved k.classes c ≡ Some d → is_present ds d ≡ is_present cs c
  present_same c d e = tested (λ row. not (is_retired ds row.loader)) (λ row. not (is_retired cs row.loader)) c d e
      (λ row is.
      let m = owner_stays c d row e is in
      ap (λ (l : ℕ). not (is_retired ds l)) (shifted_is k.loaders row.loader m.0 m.1) ∙ ap not (retired_same row.loader m.0 m.1))

  pub methods_same : (c d : ℕ) → moved k.classes c ≡ Some d → methods_of ds d ≡ methods_of cs c
  methods_same c d e = ap (λ (o : Option Class). option_map_or (λ row. row.file.methods) o []) (row_at c d e) ∙ by_row (slice_get cs.rows c)
    where
      by_row : (o : Option Class) → option_map_or (λ row. row.file.methods) (option_map (moved_class k) o) [] ≡ option_map_or (λ row. row.file.methods) o []
      by_row None = refl
      by_row (Some row) = refl

  -- an invocation
  pub invocation_same : (place : Place) (d : ℕ) → moved k.classes place.class ≡ Some d
      → invocation_at ds (record place { class = d }) ≡ invocation_at cs place
  invocation_same place d e = ap (λ (methods : List Method). option_and_then (λ method. find (λ site. site.pc == place.pc) method.sites)
      (slice_get methods place.method)) (methods_same place.class d e)

  -- a class that is present stays
  pub present_stays : (c : ℕ) → is_present cs c ≡ true → (d : ℕ) × (moved k.classes c ≡ Some d)
  present_stays c present = there_is (moved k.classes c) (rests.present c present)
