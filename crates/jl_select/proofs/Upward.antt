-- The first declaration that passes, class by class upward, where parents come first.
use Rattle.std.specs.Prelude.{◌≡◌, ℕ, Bool, true, false, List, ◌∷◌, Option, Some, None, option_and_then, if◌then◌else◌}
use Rattle.std.proofs.Common.{refl, ap, ◌∙◌}
use Rattle.jl_types.specs.declared.ids.MethodId.{MethodId}
use Rattle.jl_types.specs.Values.World.{Classes}
use Rattle.jl_types.specs.Values.Members.{declared}
use Rattle.jl_types.specs.Values.Ancestry.{superclasses, superclass_of, AreOrdered}
use Rattle.jl_hierarchy.proofs.Chains.{chain_above}
use Rattle.jl_select.specs.ForProofs.Walks.{own_passing, first_passing}

module _ (test : MethodId → Bool) (cs : Classes) (name ty : List ℕ) (c : ℕ) where
  passed : (d : Option MethodId) → declared cs name ty c ≡ d → option_and_then (λ m. if test m then Some m else None) d ≡ None
      → (xs : List ℕ) → first_passing test cs name ty (c ∷ xs) ≡ first_passing test cs name ty xs
  passed None e h xs = rw e refl
  passed (Some m) e h xs = by_test (test m) refl h
    where
      by_test : (b : Bool) → test m ≡ b → (if b then Some m else None) ≡ None → first_passing test cs name ty (c ∷ xs) ≡ first_passing test cs name ty xs
      by_test true is h = cc
      by_test false is h = rw (e, is) refl

  -- in a class whose own declaration doesn't pass, nothing is found
  pub upward : AreOrdered cs.rows → (s : ℕ) → own_passing test cs name ty c ≡ None → superclass_of cs c ≡ Some s
      → first_passing test cs name ty (superclasses cs c) ≡ first_passing test cs name ty (superclasses cs s)
  upward o s h e = ap (first_passing test cs name ty) (chain_above cs o c s e) ∙ passed (declared cs name ty c) refl h (superclasses cs s)
