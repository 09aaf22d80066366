-- What holds of each constant holds at each number, and the other way round.
use Rattle.std.proofs.Common.{◌≡◌, List, [], ◌∷◌, ◌++◌, length, Some, None, refl, sym, subst, append_assoc}
use Rattle.std.specs.List.{flat_map, AllByRecursion}
use Rattle.jl_pool.specs.declared.constant.Constant.{Constant}
use Rattle.jl_pool.specs.Pools.{Pool, places, places_of, constant_at}
use Rattle.jl_pool.specs.Faults.{AllAt}

pub at_place : (front rest : Pool) (c : Constant) → constant_at (front ++ Some c ∷ rest) (length front) ≡ Some c
at_place [] rest c = refl
at_place (p ∷ front) rest c = at_place front rest c

pub All-at : (IsSo : Constant → Type 0) (front : Pool) (cs : List Constant) → AllAt IsSo (front ++ flat_map places_of cs) → AllByRecursion IsSo cs
All-at IsSo front [] h = tt
All-at IsSo front (c ∷ cs) h = (
  h (length front) c (at_place front _ c),
  All-at IsSo (front ++ places_of c) cs
      (subst (λ (p : Pool). AllAt IsSo p) (sym (append_assoc front (places_of c) (flat_map places_of cs))) h),
)

pub All-places : (IsSo : Constant → Type 0) (cs : List Constant) → AllAt IsSo (places cs) → AllByRecursion IsSo cs
All-places IsSo cs h = All-at IsSo (None ∷ []) cs h
