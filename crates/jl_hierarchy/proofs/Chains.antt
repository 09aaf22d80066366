-- The laws of a walk up the superclasses, step by step.
use Rattle.std.specs.Prelude.{◌≡◌, ℕ, length, ◌<◌, ◌==◌, Bool, true, false, ◌||◌, List, [], ◌∷◌, slice_get, Option, Some, None, option_and_then}
use Rattle.std.specs.List.{list_any}
use Rattle.std.specs.Option.{option_map_or}
use Rattle.std.proofs.Common.{refl, ap, sym, ◌∙◌, add-one}
use Rattle.jl_types.specs.Values.World.{Class, Classes}
use Rattle.jl_types.specs.Values.Members.{declared}
use Rattle.jl_types.specs.Values.Ancestry.{superclasses, superclass_of, is_subclass, AreOrdered}
use Rattle.jl_types.specs.Linkage.Resolution.{declared_upward}
use Rattle.jl_types.proofs.Ancestors.{superclasses_is, superclass_below}
use Rattle.jl_types.proofs.Lists.{element_at}

module _ (cs : Classes) (o : AreOrdered cs.rows) (c : ℕ) where
  -- a class that has a superclass has its row
  row_of : (s : ℕ) → superclass_of cs c ≡ Some s → (row : Class) × (slice_get cs.rows c ≡ Some row) × (row.superclass ≡ Some s)
  row_of s e = by_row (slice_get cs.rows c) refl e
    where
      by_row : (r : Option Class) → slice_get cs.rows c ≡ r → option_and_then (λ row. row.superclass) r ≡ Some s
          → (row : Class) × (slice_get cs.rows c ≡ Some row) × (row.superclass ≡ Some s)
      by_row None is h = cc
      by_row (Some row) is h = (row, is, h)

  pub next_below : (s : ℕ) → superclass_of cs c ≡ Some s → s < c
  next_below s e = let r = row_of s e in superclass_below cs.rows o c r.0 r.1 s r.2

  pub chain_above : (s : ℕ) → superclass_of cs c ≡ Some s → superclasses cs c ≡ c ∷ superclasses cs s
  chain_above s e = let r = row_of s e in superclasses_is cs o c r.0 r.1 ∙ ap (λ (p : Option ℕ). c ∷ option_map_or (superclasses cs) p []) r.2

  pub found_above : (name ty : List ℕ) (s : ℕ) → declared cs name ty c ≡ None → superclass_of cs c ≡ Some s
      → declared_upward cs name ty c ≡ declared_upward cs name ty s
  found_above name ty s d e = rw (chain_above s e, d) refl

-- of a class that is there
pub chain_there : (cs : Classes) → AreOrdered cs.rows → (c : ℕ) → c < length cs.rows → superclasses cs c ≡ c
    ∷ option_map_or (superclasses cs) (superclass_of cs c) []
chain_there cs o c h =
    let r = element_at cs.rows c h in
    superclasses_is cs o c r.0 r.1 ∙ sym (ap (λ (row : Option Class). c ∷ option_map_or (superclasses cs) (option_and_then (λ r. r.superclass) row) []) r.1)

pub is_itself : (cs : Classes) (c : ℕ) → c < length cs.rows → (y : ℕ) → (c == y) ≡ true → is_subclass cs c y ≡ true
is_itself cs c h y e = let r = element_at cs.rows c h in rw (add-one c, r.1, e) refl

module _ (cs : Classes) (o : AreOrdered cs.rows) (c : ℕ) (h : c < length cs.rows) (y : ℕ) where
  pub below_next : (s : ℕ) → (c == y) ≡ false → superclass_of cs c ≡ Some s → is_subclass cs c y ≡ is_subclass cs s y
  below_next s e is =
      ap (list_any (λ k. k == y)) (chain_there cs o c h)
      ∙ ap (λ (p : Option ℕ). (c == y) || list_any (λ k. k == y) (option_map_or (superclasses cs) p [])) is
      ∙ ap (λ (b : Bool). b || is_subclass cs s y) e
