-- One method for all below a class, where no subclass redeclares it.
use Rattle.std.specs.Prelude.{◌≡◌, ℕ, Bool, true, false, cond, List, [], ◌∷◌, filter, filter_map, is_some, Some, None, option_and_then, if◌then◌else◌}
use Rattle.std.proofs.Common.{refl, ap, sym, subst, ◌∙◌}
use Rattle.jl_class.specs.Class.{Method}
use Rattle.jl_types.specs.declared.ids.MethodId.{MethodId}
use Rattle.jl_types.specs.declared.answer.Outcome.TheVariants.{Run, Throws}
use Rattle.jl_types.specs.declared.answer.Throwable.TheVariants.{AbstractMethodError}
use Rattle.jl_types.specs.Values.World.{Classes}
use Rattle.jl_types.specs.Values.Members.{declared, method_at, is_private, is_abstract}
use Rattle.jl_types.specs.Values.Ancestry.{superclasses, is_subclass, is_ancestor, AreOrdered}
use Rattle.jl_types.specs.Linkage.Resolution.{declared_upward, first_element}
use Rattle.jl_types.specs.Linkage.Overriding.{can_override}
use Rattle.jl_types.specs.Linkage.Selection.{ending, virtual_outcome}
use Rattle.jl_hierarchy.specs.Redeclared.{IsNotRedeclared, sees}
use Rattle.jl_select.specs.RunsBelow.{MayRun}
use Rattle.jl_hierarchy.proofs.Lines.{down_line}
use Rattle.jl_select.specs.ForProofs.Walks.{first_passing}
use Rattle.jl_select.proofs.Choices.{chosen_found}
use Rattle.jl_select.proofs.Upward.{upward}

module _ (test : MethodId → Bool) (cs : Classes) (o : AreOrdered cs.rows) (name ty : List ℕ) (n : ℕ) (none : IsNotRedeclared cs name ty n) where
  -- what is found from a class below is what is found from the class
  pub found_alike : (x : ℕ) → is_subclass cs x n ≡ true
      → first_passing test cs name ty (superclasses cs x) ≡ first_passing test cs name ty (superclasses cs n)
  found_alike =
      down_line cs o n (λ k. first_passing test cs name ty (superclasses cs k) ≡ first_passing test cs name ty (superclasses cs n)) refl
      (λ c s e apart h ih. upward test cs name ty c o s (ap (option_and_then (λ m. if test m then Some m else None)) (none c apart h)) e ∙ ih)

  pub first_passes : (ms : List MethodId) (m : MethodId) → first_element ms ≡ Some m → test m ≡ true → first_element (filter test ms) ≡ Some m
  first_passes [] m e h = cc
  first_passes (k ∷ ms) m e h =
      let same : k ≡ m = cc in
      ap (λ (b : Bool). first_element (cond b (k ∷ filter test ms) (filter test ms))) (ap test same ∙ h) ∙ e

module _ (cs : Classes) (o : AreOrdered cs.rows) (r : MethodId) (m : Method) (n : ℕ) (at : method_at cs r ≡ Some m)
    (first : declared_upward cs m.name m.ty n ≡ Some r) (itself : can_override cs r r ≡ true) (none : IsNotRedeclared cs m.name m.ty n)
    (shared : is_private cs r ≡ false) (whole : is_abstract cs r ≡ false) where
  pub runs_below : (x : ℕ) → is_subclass cs x n ≡ true → virtual_outcome cs x r ≡ Run r
  runs_below x below =
      let test : MethodId → Bool = λ k. can_override cs k r in
      let found =
      found_alike test cs o m.name m.ty n none x below
      ∙ first_passes test cs o m.name m.ty n none (filter_map (declared cs m.name m.ty) (superclasses cs n)) r first itself
      in
      ap (ending cs) (sym (chosen_found cs x r m r shared at (sym found)))
      ∙ ap (λ (b : Bool). if b then Throws AbstractMethodError else Run r) whole

-- what is known of a name and a descriptor that are the method's
pub same_below : (cs : Classes) (o : AreOrdered cs.rows) (r : MethodId) (m : Method) (n : ℕ) (name ty : List ℕ) → name ≡ m.name → ty ≡ m.ty
    → method_at cs r ≡ Some m
    → declared_upward cs name ty n ≡ Some r → MayRun cs n r → (sees cs name ty n ≡ true → IsNotRedeclared cs name ty n)
    → (x : ℕ) → is_ancestor cs n x ≡ true → virtual_outcome cs x r ≡ Run r
same_below cs o r m n name ty names types at first may none x up =
    runs_below cs o r m n at ((λ i. declared_upward cs (sym names i) (sym types i) n) ∙ first) may.itself
    (subst (λ (t : List ℕ). IsNotRedeclared cs m.name t n) types (subst (λ (k : List ℕ). IsNotRedeclared cs k ty n) names (none (ap is_some first))))
    may.shared may.whole x (may.lines x n up may.plain)
