-- At a renewal the fresh world is what the flags tell, and what stays rests on what stays.
use Rattle.std.specs.Prelude.{◌≡◌, ℕ, zero, suc, ◌+◌, ◌<◌, not, ◌==◌, Bool, true, false, List, [], ◌∷◌}
use Rattle.std.specs.Prelude.{length, slice_get, find, Option, Some, None, option_map, option_and_then, is_some, is_none}
use Rattle.std.specs.List.{list_any}
use Rattle.std.specs.Option.{option_map_or}
use Rattle.std.proofs.Common.{refl, sym, ap, ◌∙◌, arith}
use Rattle.std.proofs.lemmas.Bool.{or_parts, or_from}
use Rattle.std.proofs.lemmas.List.FromFn.{length-map-range_with_len}
use Rattle.std.proofs.lemmas.List.{length-map}
use Rattle.std.proofs.lemmas.Option.{same_Some, slice_get_within, slice_get-map}
use Rattle.jl_class.specs.Site.{Site}
use Rattle.jl_types.specs.declared.ids.Place.{Place}
use Rattle.jl_types.specs.Values.World.{World, Class}
use Rattle.jl_types.specs.Values.Members.{is_present, is_retired}
use Rattle.jl_hierarchy.specs.Constancy.{IsClosed}
use Rattle.jl_renewal.specs.declared.released.Released.{Released}
use Rattle.jl_renewal.specs.Numbers.{numbered, numbered_from, new_number}
use Rattle.jl_renewal.specs.Moved.{Flags, flags_of, moved, Rests}
use Rattle.jl_renewal.proofs.Fit.{IsFit}
use Rattle.jl_renewal.proofs.ClassLaws.{class_at, class_stays, loader_stays, tested_at}
use Rattle.jl_renewal.proofs.ClassPhase.{lookup_there}
use Rattle.jl_renewal.proofs.StayLaws.{call_sites_length, switches_length}
use Rattle.jl_renewal.proofs.MovedRecords.{AllPresent}

-- ---- flags

pub moved_some : (stays : List Bool) (j : ℕ) (b : Bool) → slice_get stays j ≡ Some b → is_some (moved stays j) ≡ b
moved_some [] j b e = cc
moved_some (true ∷ stays) zero b e = same_Some true b e
moved_some (false ∷ stays) zero b e = same_Some false b e
moved_some (true ∷ stays) (suc j) b e = by_option (moved stays j) ∙ moved_some stays j b e
  where
    by_option : (o : Option ℕ) → is_some (option_map suc o) ≡ is_some o
    by_option None = refl
    by_option (Some h) = refl
moved_some (false ∷ stays) (suc j) b e = moved_some stays j b e

moved_first : (stays : List Bool) → slice_get stays 0 ≡ Some true → moved stays 0 ≡ Some 0
moved_first [] e = cc
moved_first (true ∷ stays) e = refl
moved_first (false ∷ stays) e = cc

moved_none : (stays : List Bool) (j : ℕ) → moved stays j ≡ None → slice_get stays j ≡ Some false
moved_none [] j e = cc
moved_none (true ∷ stays) zero e = cc
moved_none (false ∷ stays) zero e = refl
moved_none (true ∷ stays) (suc j) e = by_option (moved stays j) e (moved_none stays j)
  where
    by_option : (o : Option ℕ) → option_map suc o ≡ None → (o ≡ None → slice_get stays j ≡ Some false) → slice_get stays j ≡ Some false
    by_option None e rest = rest refl
    by_option (Some h) e rest = cc
moved_none (false ∷ stays) (suc j) e = moved_none stays j e

-- a number of what stays is that of the renewal
number_from : (n : ℕ) (stays : List Bool) (j : ℕ) → j < length stays → new_number (numbered_from n stays) j ≡ option_map (λ i. n + i) (moved stays j)
number_from n [] j lt = absurd (omega (arith, lt))
number_from n (true ∷ stays) zero lt = let same : n ≡ n + 0 = omega arith in ap Some same
number_from n (false ∷ stays) zero lt = refl
number_from n (true ∷ stays) (suc j) lt = number_from (n + 1) stays j (omega (arith, lt)) ∙ by_option (moved stays j)
  where
    by_option : (o : Option ℕ) → option_map (λ i. n + 1 + i) o ≡ option_map (λ i. n + i) (option_map suc o)
    by_option None = refl
    by_option (Some i) = let same : n + 1 + i ≡ n + suc i = omega arith in ap Some same
number_from n (false ∷ stays) (suc j) lt = number_from n stays j (omega (arith, lt))

pub number_is : (stays : List Bool) (j : ℕ) → j < length stays → new_number (numbered stays) j ≡ moved stays j
number_is stays j lt = number_from 0 stays j lt ∙ by_option (moved stays j)
  where
    by_option : (o : Option ℕ) → option_map (λ i. 0 + i) o ≡ o
    by_option None = refl
    by_option (Some i) = let same : 0 + i ≡ i = omega arith in ap Some same

-- ---- what stays at a renewal rests on what stays

module _ (w : World) (released : Released) (fit : IsFit w) (closed : IsClosed w.classes) (some : zero < length w.classes.loaders)
    (records : AllPresent w.classes) where
  abbrev k : Flags
  k = flags_of w released

  loader_flag : (l : ℕ) → l < length w.classes.loaders → slice_get k.loaders l ≡ Some (not (is_retired w.classes l))
  loader_flag l lt = tested_at (λ l. not (is_retired w.classes l)) (length w.classes.loaders) l lt

  many_loaders : length k.loaders ≡ length w.classes.loaders
  many_loaders = length-map-range_with_len (λ l. not (is_retired w.classes l)) 0 (length w.classes.loaders)

  many_classes : length k.classes ≡ length w.classes.rows
  many_classes = length-map-range_with_len (is_present w.classes) 0 (length w.classes.rows)

  many_sites : length k.sites ≡ length w.places
  many_sites = length-map w.places (λ place. is_present w.classes place.class)

  pub live_in_range : (c : ℕ) (row : Class) → slice_get w.classes.rows c ≡ Some row → is_retired w.classes row.loader ≡ false
      → row.loader < length w.classes.loaders
  live_in_range c row is live = lookup_there w.classes row.loader row.file.name c (fit.found c row is live)

  class_flag : (c : ℕ) (row : Class) → slice_get w.classes.rows c ≡ Some row → is_some (moved k.classes c) ≡ not (is_retired w.classes row.loader)
  class_flag c row is = moved_some k.classes c (not (is_retired w.classes row.loader)) (class_at w.classes c row is)

  not_true : (b : Bool) → not b ≡ true → b ≡ false
  not_true true e = cc
  not_true false e = refl

  not_false : (b : Bool) → not b ≡ false → b ≡ true
  not_false true e = refl
  not_false false e = cc

  gone_is : (l : ℕ) → moved k.loaders l ≡ None → is_retired w.classes l ≡ true
  gone_is l none =
      let flag = moved_none k.loaders l none in
      let within = slice_get_within k.loaders l false flag in
      let many = many_loaders in
      not_false (is_retired w.classes l) (same_Some (not (is_retired w.classes l)) false (sym (loader_flag l (omega (arith, within, many))) ∙ flag))

  owner_is : (c : ℕ) (row : Class) → slice_get w.classes.rows c ≡ Some row → is_some (moved k.classes c) ≡ true → is_some (moved k.loaders row.loader) ≡ true
  owner_is c row is stays =
      let live = not_true (is_retired w.classes row.loader) (sym (class_flag c row is) ∙ stays) in
      moved_some k.loaders row.loader true (loader_flag row.loader (live_in_range c row is live) ∙ ap (λ (b : Bool). Some (not b)) live)

  none_gone : (rs : List (List ℕ × ℕ)) → list_any (λ r. not (is_present w.classes r.1)) rs ≡ false
      → list_any (λ r. is_none (moved k.classes r.1)) rs ≡ false
  none_gone [] e = refl
  none_gone (r ∷ rs) e =
      let parts = or_parts (not (is_present w.classes r.1)) (list_any (λ r. not (is_present w.classes r.1)) rs) e in
      or_from (is_none (moved k.classes r.1)) (list_any (λ r. is_none (moved k.classes r.1)) rs)
      (by_number (moved k.classes r.1)
      (moved_some k.classes r.1 true (class_stays w.classes r.1 (not_false_true (is_present w.classes r.1) parts.0))))
      (none_gone rs parts.1)
    where
      not_false_true : (b : Bool) → not b ≡ false → b ≡ true
      not_false_true true e = refl
      not_false_true false e = cc

      by_number : (o : Option ℕ) → is_some o ≡ true → is_none o ≡ false
      by_number None e = cc
      by_number (Some a) e = refl

  recorded_is : (l m : ℕ) (rs : List (List ℕ × ℕ)) → moved k.loaders l ≡ Some m → slice_get w.classes.loaders l ≡ Some rs
      → list_any (λ r. is_none (moved k.classes r.1)) rs ≡ false
  recorded_is l m rs e at =
      let flag = moved_some k.loaders l (not (is_retired w.classes l)) (loader_flag l (slice_get_within w.classes.loaders l rs at)) in
      none_gone rs (records l rs (not_true (is_retired w.classes l) (sym flag ∙ ap is_some e)) at)

  -- the class of a place that is requested is there
  pub place_row : (s : ℕ) (place : Place) → slice_get w.places s ≡ Some place → (row : Class) × (slice_get w.classes.rows place.class ≡ Some row)
  place_row s place at =
      let invoked = fit.places s place at in
      by_row (slice_get w.classes.rows place.class) refl invoked.site invoked.at
    where
      by_row : (o : Option Class) → slice_get w.classes.rows place.class ≡ o → (site : Site)
          → option_and_then (λ method. find (λ site. site.pc == place.pc) method.sites)
          (slice_get (option_map_or (λ row. row.file.methods) o []) place.method) ≡ Some site
          → (row : Class) × (o ≡ Some row)
      by_row None is site e = cc
      by_row (Some row) is site e = (row, refl)

  site_is : (s : ℕ) (place : Place) → slice_get w.places s ≡ Some place → is_some (moved k.sites s) ≡ is_some (moved k.classes place.class)
  site_is s place at =
      let row = place_row s place at in
      moved_some k.sites s (is_present w.classes place.class)
      (slice_get-map (λ place. is_present w.classes place.class) w.places s ∙ ap (option_map (λ place. is_present w.classes place.class)) at)
      ∙ (ap (λ (o : Option Class). option_map_or (λ row. not (is_retired w.classes row.loader)) o false) row.1
      ∙ sym (class_flag place.class row.0 row.1))

  pub rests_first : Rests k w
  rests_first = record {
    few_loaders = let many = many_loaders in omega (arith, many);
    few_classes = let many = many_classes in omega (arith, many);
    few_sites = let many = many_sites in omega (arith, many);
    few_call_sites = let many = call_sites_length w released in omega (arith, many);
    few_switches = let many = switches_length w released in omega (arith, many);
    first = moved_first k.loaders (loader_stays w.classes 0 some closed.first);
    gone = gone_is;
    present = λ c is. moved_some k.classes c true (class_stays w.classes c is);
    owned = owner_is;
    recorded = recorded_is;
    sites = site_is;
  }
