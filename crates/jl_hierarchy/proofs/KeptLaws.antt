-- What the kept lists are at a class.
use Rattle.std.specs.Prelude.{◌≡◌, ℕ, zero, suc, ◌<◌, List, [], ◌∷◌, length, get_or, Option, Some, None, IfSome}
use Rattle.std.specs.Prelude.{Vec}
use Rattle.std.specs.declared.alloc.Global.{Global}
use Rattle.std.proofs.Common.{refl, ap, subst, sym, ◌∙◌, arith}
use Rattle.std.proofs.lemmas.List.FromFn.{get_or-map-range_with_len, length-map-range_with_len}
use Rattle.std.proofs.lemmas.List.{length-map}
use Rattle.jl_types.specs.Values.World.{Classes}
use Rattle.jl_types.specs.Values.Members.{lookup}
use Rattle.jl_types.specs.Values.Ancestry.{ancestors, receivers}
use Rattle.jl_types.proofs.Orders.{IsGood, looked_up}
use Rattle.jl_hierarchy.specs.Constancy.{AreInOrder}
use Rattle.jl_hierarchy.specs.ForProofs.Kept.{IsKept, AreRecorded, lists}
use Rattle.jl_hierarchy.specs.ForProofs.Growing.{AreEven}

found_there : (cs : Classes) → IsGood cs → (loader : ℕ) (name : List ℕ) (o : Option ℕ) → lookup cs loader name ≡ o → IfSome o (λ c. c < length cs.rows)
found_there cs good loader name None e = tt
found_there cs good loader name (Some c) e = looked_up cs good loader name c e

pub get_or-lists : (vectors : List (Vec ℕ Global)) (c : ℕ) (d : Vec ℕ Global) → get_or (lists vectors) c d.items ≡ (get_or vectors c d).items
get_or-lists [] c d = refl
get_or-lists (v ∷ vectors) zero d = refl
get_or-lists (v ∷ vectors) (suc c) d = get_or-lists vectors c d

-- the classes inside are those that a clause sees
module _ (inside : Classes) (above below : List (List ℕ)) (kept : IsKept inside above below) (cs : Classes) (same : inside ≡ cs) where
  pub good : IsGood cs
  good = subst IsGood same (record { there = kept.there; ordered = kept.ordered })

  pub in_order : AreInOrder cs
  in_order = subst AreInOrder same (record {
    there = kept.there;
    ordered = kept.ordered;
    extended = kept.extended;
    object = kept.object;
    closed = kept.closed;
  })

  pub own_here : AreRecorded cs
  own_here = subst AreRecorded same kept.own

  pub there_here : (loader : ℕ) (name : List ℕ) (o : Option ℕ) → lookup cs loader name ≡ o → IfSome o (λ c. c < length cs.rows)
  there_here = found_there cs good

  -- as many lists of receivers as classes
  pub many_below : (vectors : List (Vec ℕ Global)) → lists vectors ≡ below → length cs.rows ≡ length vectors
  many_below vectors whole =
      sym (sym (length-map vectors (λ (v : Vec ℕ Global). v.items)) ∙ ap length (whole ∙ kept.receivers_kept)
      ∙ length-map-range_with_len (receivers inside) 0 (length inside.rows) ∙ ap (λ (k : Classes). length k.rows) same)

  -- as many lists of ancestors as classes
  pub many_above : (lists : List (List ℕ)) → lists ≡ above → length lists ≡ length cs.rows
  many_above lists whole =
      ap length (whole ∙ kept.ancestors_kept) ∙ length-map-range_with_len (ancestors inside.rows) 0 (length inside.rows)
      ∙ ap (λ (k : Classes). length k.rows) same

  module _ (slice : List (List ℕ)) (whole : slice ≡ above) (at c : ℕ) (number : at ≡ c) (lt : c < length cs.rows) where
    pub above_here : at < length slice
    above_here = let n = many_above slice whole in omega arith

    pub ancestors_here : (d : List ℕ) → get_or slice at d ≡ ancestors cs.rows c
    ancestors_here d =
        ap (λ (xs : List (List ℕ)). get_or xs at d) (whole ∙ kept.ancestors_kept)
        ∙ get_or-map-range_with_len (ancestors inside.rows) 0 (length inside.rows) at c d (let n = ap (λ (k : Classes). length k.rows) same in omega arith)
        (omega arith)
        ∙ ap (λ (k : Classes). ancestors k.rows c) same

  module _ (slice : List (Vec ℕ Global)) (whole : lists slice ≡ below) (at c : ℕ) (number : at ≡ c) (lt : c < length cs.rows) where
    pub below_here : at < length slice
    below_here = let n = many_below slice whole in omega arith

    pub receivers_here : (d : Vec ℕ Global) → (get_or slice at d).items ≡ receivers cs c
    receivers_here d =
        sym (get_or-lists slice at d)
        ∙ ap (λ (xs : List (List ℕ)). get_or xs at d.items) (whole ∙ kept.receivers_kept)
        ∙ get_or-map-range_with_len (receivers inside) 0 (length inside.rows) at c d.items (let n = ap (λ (k : Classes). length k.rows) same in omega arith)
        (omega arith)
        ∙ ap (λ (k : Classes). receivers k c) same

-- as many of each list as classes
pub even : {cs : Classes} {above below : List (List ℕ)} → IsKept cs above below → AreEven cs.rows above below
even {cs} kept = record {
  few = kept.few;
  many_above = ap length kept.ancestors_kept ∙ length-map-range_with_len (ancestors cs.rows) 0 (length cs.rows);
  many_below = ap length kept.receivers_kept ∙ length-map-range_with_len (receivers cs) 0 (length cs.rows);
}
