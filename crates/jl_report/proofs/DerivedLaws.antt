-- Classes that override no FINAL method, with one more that overrides none.
use Rattle.std.specs.Prelude.{◌≡◌, ℕ, zero, suc, ◌+◌, ◌<◌, ◌≤◌, Bool, false, ◌&&◌, ◌||◌, List, [], ◌∷◌, ◌++◌, length, map}
use Rattle.std.specs.Prelude.{Option, Some, None, option_and_then, IfSome}
use Rattle.std.specs.List.{AllByRecursion, list_any, range_with_len}
use Rattle.std.specs.Option.{option_map_or}
use Rattle.std.proofs.Common.{refl, ap, ◌∙◌, arith, zero-add, length-append}
use Rattle.std.proofs.lemmas.List.Folds.{list_any-append}
use Rattle.jl_class.specs.Class.{ClassFile, Method}
use Rattle.jl_class.specs.Flags.{has_flag}
use Rattle.jl_types.specs.declared.ids.MethodId.{MethodId}
use Rattle.jl_types.specs.Values.World.{Class, Classes}
use Rattle.jl_types.specs.Values.Members.{numbers, methods_of, method_at, declared}
use Rattle.jl_types.specs.Values.Ancestry.{superclass_of, superclasses}
use Rattle.jl_types.specs.Linkage.Overriding.{methods_in, can_override}
use Rattle.jl_types.specs.Events.Definitions.{class_made, defined}
use Rattle.jl_types.proofs.Lists.{range_end}
use Rattle.jl_types.proofs.Orders.{IsGood}
use Rattle.jl_hierarchy.specs.Constancy.{AreInOrder, Stays}
use Rattle.jl_hierarchy.specs.Redeclared.{AreLines}
use Rattle.jl_hierarchy.proofs.Constancy.{stays_defined}
use Rattle.jl_resolve.proofs.Unchanged.{IsThere, IsOfThere, any_same, flag_stays, row_stays, methods_stay, method_stays, declared_stays}
use Rattle.jl_resolve.proofs.Unchanged.{declared_there, superclasses_stay, superclasses_there}
use Rattle.jl_select.proofs.Bridges.{superclass_there}
use Rattle.jl_select.proofs.Constancy.{can_override_stays}
use Rattle.jl_report.specs.Finals.{FINAL, is_final_method, superclasses_above, overrides_in, overrides_above, overrides_final, AreDerived}

module _ (cs : Classes) (file : ClassFile) (order : AreInOrder cs) where
  abbrev after : Classes
  after = defined cs 0 file

  abbrev n : ℕ
  n = length cs.rows

  good : IsGood cs
  good = record { there = order.there; ordered = order.ordered }

  stays : Stays cs after
  stays = stays_defined cs good 0 file

  same_above : (c : ℕ) → IsThere cs c → superclasses_above after c ≡ superclasses_above cs c
  same_above c there =
      ap (λ (o : Option Class). option_map_or (superclasses after) (option_and_then (λ row. row.superclass) o) []) (row_stays cs after stays good c there)
      ∙ by_superclass (superclass_of cs c) (superclass_there cs order.ordered c)
    where
      by_superclass : (o : Option ℕ) → IfSome o (IsThere cs) → option_map_or (superclasses after) o [] ≡ option_map_or (superclasses cs) o []
      by_superclass None at = refl
      by_superclass (Some s) at = superclasses_stay cs after stays good s at

  all_above : (c : ℕ) → AllByRecursion (IsThere cs) (superclasses_above cs c)
  all_above c = by_superclass (superclass_of cs c)
    where
      by_superclass : (o : Option ℕ) → AllByRecursion (IsThere cs) (option_map_or (superclasses cs) o [])
      by_superclass None = tt
      by_superclass (Some s) = superclasses_there cs after stays good s

  module _ (m : MethodId) (lower : IsOfThere cs m) where
    same_in : (name ty : List ℕ) (s : ℕ) → IsThere cs s → overrides_in after m name ty s ≡ overrides_in cs m name ty s
    same_in name ty s there =
        ap (λ (o : Option MethodId). option_map_or (λ a. is_final_method after a && can_override after m a) o false)
        (declared_stays cs after stays good name ty s there)
        ∙ by_own (declared cs name ty s) (declared_there cs after stays good name ty s there)
      where
        by_own : (o : Option MethodId) → IfSome o (IsOfThere cs)
            → option_map_or (λ a. is_final_method after a && can_override after m a) o false
            ≡ option_map_or (λ a. is_final_method cs a && can_override cs m a) o false
        by_own None at = refl
        by_own (Some a) at =
            λ i. flag_stays cs after stays good (λ method. has_flag method.flags FINAL) a at i && can_override_stays cs after stays good m a lower at i

    same_overrides : overrides_above after m ≡ overrides_above cs m
    same_overrides =
        ap (option_map_or_false (overrides_by after)) (method_stays cs after stays good m lower)
        ∙ by_method (method_at cs m)
      where
        overrides_by : Classes → Method → Bool
        overrides_by classes method = list_any (overrides_in classes m method.name method.ty) (superclasses_above classes m.class)

        option_map_or_false : (Method → Bool) → Option Method → Bool
        option_map_or_false test o = option_map_or test o false

        by_method : (o : Option Method) → option_map_or_false (overrides_by after) o ≡ option_map_or_false (overrides_by cs) o
        by_method None = refl
        by_method (Some method) =
            ap (list_any (overrides_in after m method.name method.ty)) (same_above m.class lower)
            ∙ any_same (IsThere cs) (overrides_in after m method.name method.ty) (overrides_in cs m method.name method.ty)
            (same_in method.name method.ty) (superclasses_above cs m.class) (all_above m.class)

  same_final : (c : ℕ) → IsThere cs c → overrides_final after c ≡ overrides_final cs c
  same_final c there =
      ap (λ (ms : List Method). list_any (overrides_above after) (map (λ j. record { class = c; index = j }) (range_with_len 0 (length ms))))
      (methods_stay cs after stays good c there)
      ∙ any_same (IsOfThere cs) (overrides_above after) (overrides_above cs) same_overrides (methods_in cs c)
      (each (range_with_len 0 (length (methods_of cs c))))
    where
      each : (js : List ℕ) → AllByRecursion {X = MethodId} (IsOfThere cs) (map (λ j. record { class = c; index = j }) js)
      each [] = tt
      each (j ∷ js) = (there, each js)

  pub still_derived : AreDerived cs → overrides_final after n ≡ false → AreLines after.rows → AreDerived after
  still_derived derived none lines = record {
    finals =
        ap (λ (k : ℕ). list_any (overrides_final after) (range_with_len 0 k)) (length-append cs.rows (class_made cs 0 file ∷ []))
        ∙ ap (list_any (overrides_final after)) (range_end 0 n ∙ ap (λ (k : ℕ). range_with_len 0 n ++ k ∷ []) (zero-add n))
        ∙ list_any-append (overrides_final after) (range_with_len 0 n) (n ∷ [])
        ∙ (λ i. any_same (IsThere cs) (overrides_final after) (overrides_final cs) same_final (numbers cs) (all_range n 0 n (omega arith)) i
        || (none i || false))
        ∙ ap (λ (b : Bool). b || false) derived.finals;
    lines = lines;
  }
    where
      all_range : (most a m : ℕ) → a + m ≤ most → AllByRecursion (λ k. k < most) (range_with_len a m)
      all_range most a zero h = tt
      all_range most a (suc m) h = (omega arith, all_range most (a + 1) m (omega arith))
