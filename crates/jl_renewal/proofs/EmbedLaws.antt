-- The classes that a renewal makes are the old ones under new numbers.
use Rattle.std.specs.Prelude.{◌≡◌, ℕ, zero, suc, ◌-◌, ◌<◌, not, Bool, true, false, List, [], ◌∷◌, ◌++◌, map, length, replicate}
use Rattle.std.specs.Prelude.{slice_get, Option, Some, None, option_map, option_and_then}
use Rattle.std.specs.Option.{option_map_or}
use Rattle.std.proofs.Common.{refl, sym, ap, ◌∙◌, arith, append-nil}
use Rattle.std.proofs.lemmas.List.{length-map}
use Rattle.std.proofs.lemmas.List.FromFn.{length-map-range_with_len}
use Rattle.std.proofs.lemmas.Option.{same_Some, slice_get_within}
use Rattle.jl_types.specs.Values.World.{World, Class, Classes}
use Rattle.jl_types.specs.Values.Members.{lookup, recorded, is_present, is_retired}
use Rattle.jl_types.specs.Values.Ancestry.{AreOrdered}
use Rattle.jl_types.proofs.Ancestors.{ancestor_decides}
use Rattle.jl_types.proofs.Grown.{above}
use Rattle.jl_types.proofs.Lists.{passes_within}
use Rattle.jl_hierarchy.specs.Constancy.{IsClosed}
use Rattle.jl_renewal.specs.declared.released.Released.{Released}
use Rattle.jl_renewal.specs.Numbers.{Numbers, staying, renumbered}
use Rattle.jl_renewal.specs.Staying.{numbers_of, staying_loaders, staying_classes}
use Rattle.jl_renewal.specs.Renewed.{renumbered_record, renumbered_class, renewed}
use Rattle.jl_renewal.proofs.NumberLaws.{before, renumbered_is, before_rises, staying_length}
use Rattle.jl_renewal.proofs.ClassLaws.{fresh_of, padded, tested_at, lookup_same, row_at, class_stays, loader_stays}
use Rattle.jl_renewal.proofs.ClassSteps.{number_same}
use Rattle.jl_renewal.proofs.Fit.{IsFit}
use Rattle.jl_renewal.proofs.Alike.{Embeds}
use Rattle.jl_renewal.proofs.AlikeClasses.{present_row}

-- each new number is that of one that stays
before_reached : (stays : List Bool) (n k : ℕ) → k < before stays n → (c : ℕ) × (slice_get stays c ≡ Some true) × (before stays c ≡ k)
before_reached [] n k lt = absurd (omega (arith, lt))
before_reached (b ∷ stays) zero k lt = absurd (omega (arith, lt))
before_reached (true ∷ stays) (suc n) zero lt = (zero, refl, refl)
before_reached (true ∷ stays) (suc n) (suc k) lt =
    let r = before_reached stays n k (omega (arith, lt)) in (suc r.0, r.1, ap suc r.2)
before_reached (false ∷ stays) (suc n) k lt = let r = before_reached stays n k lt in (suc r.0, r.1, r.2)

-- none comes before the first
none_before : (stays : List Bool) → before stays 0 ≡ 0
none_before [] = refl
none_before (b ∷ stays) = refl

-- what a loader has recorded stands in its list
recorded_within : (cs : Classes) (l : ℕ) (name : List ℕ) (c : ℕ) → lookup cs l name ≡ Some c → l < length cs.loaders
recorded_within cs l name c e = by_records (slice_get cs.loaders l) refl e
  where
    by_records : (o : Option (List (List ℕ × ℕ))) → slice_get cs.loaders l ≡ o → option_and_then (recorded name) o ≡ Some c → l < length cs.loaders
    by_records None is h = cc
    by_records (Some records) is h = slice_get_within cs.loaders l records is

-- as many as there are already want none more
none_padded : (loaders : List (List (List ℕ × ℕ))) → padded (length loaders) loaders ≡ loaders
none_padded loaders = ap (λ (k : ℕ). loaders ++ replicate k []) (none_left (length loaders)) ∙ append-nil loaders
  where
    none_left : (k : ℕ) → k - k ≡ 0
    none_left k = omega arith

module _ (w : World) (released : Released) (fit : IsFit w) (closed : IsClosed w.classes) (ordered : AreOrdered w.classes.rows)
    (some : zero < length w.classes.loaders) (fresh_ordered : AreOrdered (renewed w released).classes.rows) where
  abbrev cs : Classes
  cs = w.classes

  abbrev ds : Classes
  ds = (renewed w released).classes

  abbrev n : Numbers
  n = numbers_of w released

  -- the fresh classes at the end of the log
  at_end : fresh_of w released cs ≡ ds
  at_end = ap (λ (loaders : List (List (List ℕ × ℕ))). record ds { loaders = map (map (renumbered_record n)) (staying (staying_loaders cs) loaders) })
      (none_padded cs.loaders)

  -- the loader of a class that is present is there, and isn't retired
  loader_within : (c : ℕ) (row : Class) → is_present cs c ≡ true → slice_get cs.rows c ≡ Some row → (is_retired cs row.loader ≡ false)
      × (row.loader < length cs.loaders)
  loader_within c row present is =
      let r = present_row cs c present in
      let live : is_retired cs row.loader ≡ false =
      ap (λ (one : Class). is_retired cs one.loader) (same_Some row r.0 (sym is ∙ r.1)) ∙ r.2
      in
      (live, recorded_within cs row.loader row.file.name c (fit.found c row is live))

  -- and stays
  stays_in : (c : ℕ) (row : Class) → is_present cs c ≡ true → slice_get cs.rows c ≡ Some row → slice_get (staying_loaders cs) row.loader ≡ Some true
  stays_in c row present is = let l = loader_within c row present is in loader_stays cs row.loader l.1 l.0

  -- the new number of a class that is present
  is_before : (c : ℕ) → is_present cs c ≡ true → renumbered n.classes c ≡ before (staying_classes cs) c
  is_before c present = renumbered_is (staying_classes cs) c (class_stays cs c present)

  -- each fresh class is one that is present
  reached : (k : ℕ) → k < length ds.rows → (c : ℕ) × (is_present cs c ≡ true) × (renumbered n.classes c ≡ k)
  reached k lt =
      let as_many = length-map (staying (staying_classes cs) cs.rows) (renumbered_class n) in
      let long = length-map-range_with_len (is_present cs) 0 (length cs.rows) in
      let count = staying_length (staying_classes cs) cs.rows (omega (arith, long)) in
      let r = before_reached (staying_classes cs) (length cs.rows) k (omega (arith, lt, as_many, count)) in
      let there = slice_get_within (staying_classes cs) r.0 true r.1 in
      let present : is_present cs r.0 ≡ true =
      same_Some (is_present cs r.0) true (sym (tested_at (is_present cs) (length cs.rows) r.0 (omega (arith, there, long))) ∙ r.1)
      in
      (r.0, present, is_before r.0 present ∙ r.2)

  -- what a loader that stays finds
  finds : (l : ℕ) → slice_get (staying_loaders cs) l ≡ Some true → l < length cs.loaders → (name : List ℕ)
      → lookup ds (renumbered n.loaders l) name ≡ option_map (renumbered n.classes) (lookup cs l name)
  finds l stays there name =
      sym (ap (λ (fresh : Classes). lookup fresh (renumbered n.loaders l) name) at_end) ∙ lookup_same w released cs l stays there name

  -- what is present is there
  still_present : (c : ℕ) → is_present cs c ≡ true → is_present ds (renumbered n.classes c) ≡ true
  still_present c present =
      let r = present_row cs c present in
      ap (λ (o : Option Class). option_map_or (λ row. not (is_retired ds row.loader)) o false) (row_at w released cs c r.0 (class_stays cs c present) r.1)

  -- the old classes under new numbers are the fresh ones
  pub embeds : Embeds (numbers_of w released) w.classes (renewed w released).classes
  embeds = record {
    closed = closed;
    ordered = ordered;
    fresh_ordered = fresh_ordered;
    rows = λ c row present is. row_at w released cs c row (class_stays cs c present) is;
    still = still_present;
    onto = λ k present. reached k (passes_within (λ (row : Class). not (is_retired ds row.loader)) ds.rows k present);
    uppers = λ k c present up.
        let r = present_row cs c present in
        let there = slice_get_within ds.rows (renumbered n.classes c) (renumbered_class n r.0) (row_at w released cs c r.0 (class_stays cs c present) r.1) in
        let le = above ds.rows fresh_ordered k ((ancestor_decides ds fresh_ordered k (renumbered n.classes c)).0 up) in
        reached k (omega (arith, le, there));
    rises = λ c d pc pd lt.
        let more = before_rises (staying_classes cs) c d (class_stays cs c pc) lt in
        let ec = is_before c pc in
        let ed = is_before d pd in
        omega (arith, more, ec, ed);
    loaders = λ c d a b pc pd ac bd. number_same (staying_loaders cs) a.loader b.loader (stays_in c a pc ac) (stays_in d b pd bd);
    lookups = λ c row name present is. finds row.loader (stays_in c row present is) (loader_within c row present is).1 name;
    first = λ name.
        let stays = loader_stays cs 0 some closed.first in
        ap (λ (l : ℕ). lookup ds l name) (sym (renumbered_is (staying_loaders cs) 0 stays ∙ none_before (staying_loaders cs))) ∙ finds 0 stays some name;
  }
