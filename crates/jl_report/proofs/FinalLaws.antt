-- No class extends a FINAL one if each came by its definition, so a further class gives a FINAL one no receiver.
use Rattle.std.proofs.Common.{◌≡◌, ◌∙◌, sym, ap, refl, arith, ℕ, ◌<◌, ◌||◌, List, []}
use Rattle.std.proofs.Common.{◌∷◌, length, map}
use Rattle.std.specs.Prelude.{Bool, true, false, not, slice_get, Option, Some, None, if◌then◌else◌}
use Rattle.std.specs.List.{list_any}
use Rattle.std.specs.Option.{option_map_or}
use Rattle.std.proofs.lemmas.Bool.{or_parts, both_ways}
use Rattle.std.proofs.lemmas.Option.{slice_get_within}
use Rattle.jl_class.specs.Class.{ClassFile}
use Rattle.jl_class.specs.Flags.{has_flag, INTERFACE}
use Rattle.jl_types.specs.declared.key.Key.{Key}
use Rattle.jl_types.specs.declared.key.Key.TheVariants as key
use Rattle.jl_types.specs.Values.World.{Class, Classes}
use Rattle.jl_types.specs.Values.Members.{is_concrete}
use Rattle.jl_types.specs.Values.Ancestry.{IsAncestor, itself, over, is_ancestor, ancestors}
use Rattle.jl_types.specs.Events.Definitions.{FINAL, defined}
use Rattle.jl_types.specs.Events.Footprints.{same_key, has_key, meets, of_class}
use Rattle.jl_types.proofs.Ancestors.{ancestor_decides}
use Rattle.jl_types.proofs.Bools.{any-map}
use Rattle.jl_types.proofs.Grown.{among_ancestors}
use Rattle.jl_types.proofs.Orders.{IsGood, defined_good}
use Rattle.jl_hierarchy.specs.Constancy.{AreInOrder, ExtendNoFinal, may_be_extended, MayDefine}
use Rattle.jl_hierarchy.proofs.Finals.{same_extended, still_extended}
use Rattle.jl_report.specs.Drops.{may_grow}

module _ (cs : Classes) (order : AreInOrder cs) (loader : ℕ) (file : ClassFile) (accepted : MayDefine cs loader file) where
  abbrev new : Classes
  new = defined cs loader file

  abbrev n : ℕ
  n = length cs.rows

  good : IsGood cs
  good = record { there = order.there; ordered = order.ordered }

  stays_extended : (p : ℕ) → p < n → may_be_extended new p ≡ may_be_extended cs p
  stays_extended = same_extended cs good order.extended loader file accepted

  extended_still : ExtendNoFinal new
  extended_still = still_extended cs good order.extended loader file accepted

  only_itself : (p : ℕ) → p < n → may_be_extended cs p ≡ false → {x : ℕ} → IsAncestor new.rows p x → p ≡ x
  only_itself p lt closed (itself e) = refl
  only_itself p lt closed (over {x = x} {p = q} {row = row} e m r) =
      let same : p ≡ q = only_itself p lt closed r in
      absurd (both_ways (may_be_extended cs p) closed
      (sym (stays_extended p lt) ∙ ap (may_be_extended new) same ∙ extended_still x q row e m))

  low : (c : ℕ) → may_be_extended cs c ≡ false → c < n
  low c h = by_row (slice_get cs.rows c) refl h
    where
      by_row : (o : Option Class) → slice_get cs.rows c ≡ o
          → (not (option_map_or (λ row. has_flag row.file.flags FINAL) o false)
          || option_map_or (λ row. has_flag row.file.flags INTERFACE) o false) ≡ false
          → c < n
      by_row None is h = cc
      by_row (Some row) is h = slice_get_within cs.rows c row is

  no_receiver : (c : ℕ) → may_be_extended cs c ≡ false → has_key (of_class new n) (key.Receivers c) ≡ false
  no_receiver c closed = by_concrete (is_concrete new n)
    where
      not_above : (b : Bool) → is_ancestor new c n ≡ b → b ≡ false
      not_above false is = refl
      not_above true is =
          let lt = low c closed in
          let same = only_itself c lt closed ((ancestor_decides new (defined_good cs good loader file).ordered c n).0 is) in
          absurd (omega (arith, lt, same))

      by_concrete : (b : Bool) → has_key (if b then map key.Receivers (ancestors new.rows n) else []) (key.Receivers c) ≡ false
      by_concrete false = refl
      by_concrete true =
          any-map (λ other. same_key other (key.Receivers c)) key.Receivers (ancestors new.rows n)
          ∙ sym (among_ancestors new (defined_good cs good loader file).ordered c n)
          ∙ not_above (is_ancestor new c n) refl

  other_key : (k : Key) → ((c : ℕ) → same_key (key.Receivers c) k ≡ false) → has_key (of_class new n) k ≡ false
  other_key k apart = by_concrete (is_concrete new n)
    where
      none_of : (xs : List ℕ) → has_key (map key.Receivers xs) k ≡ false
      none_of [] = refl
      none_of (x ∷ xs) = λ i. apart x i || none_of xs i

      by_concrete : (b : Bool) → has_key (if b then map key.Receivers (ancestors new.rows n) else []) k ≡ false
      by_concrete true = none_of (ancestors new.rows n)
      by_concrete false = refl

  one_apart : (k : Key) → may_grow cs k ≡ false → has_key (of_class new n) k ≡ false
  one_apart (key.Receivers c) h = no_receiver c h
  one_apart (key.Target c) h = other_key (key.Target c) (λ d. refl)
  one_apart (key.Valid p) h = other_key (key.Valid p) (λ d. refl)

  -- the class changes nothing of what no further class changes
  pub none_met : (ks : List Key) → list_any (may_grow cs) ks ≡ false → meets ks (of_class new n) ≡ false
  none_met [] h = refl
  none_met (k ∷ ks) h =
      let both = or_parts (may_grow cs k) (list_any (may_grow cs) ks) h in
      λ i. one_apart k both.0 i || none_met ks both.1 i

  -- what no class changes, none changes once the new one is there
  closed_key : (k : Key) → may_grow cs k ≡ false → may_grow new k ≡ false
  closed_key (key.Receivers c) h = stays_extended c (low c h) ∙ h
  closed_key (key.Target c) h = refl
  closed_key (key.Valid p) h = refl

  pub closed_keys : (ks : List Key) → list_any (may_grow cs) ks ≡ false → list_any (may_grow new) ks ≡ false
  closed_keys [] h = refl
  closed_keys (k ∷ ks) h =
      let both = or_parts (may_grow cs k) (list_any (may_grow cs) ks) h in
      λ i. closed_key k both.0 i || closed_keys ks both.1 i
