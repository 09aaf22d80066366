-- That every class below a class runs the same method (JVMS 5.4.6, 6.5). `MayRun` is a means of proof.
use Rattle.std.specs.Prelude.{◌≡◌, ℕ, true, false}
use Rattle.jl_types.specs.declared.ids.MethodId.{MethodId}
use Rattle.jl_types.specs.declared.answer.Outcome.TheVariants.{Run}
use Rattle.jl_types.specs.Values.World.{Classes}
use Rattle.jl_types.specs.Values.Members.{is_interface, is_private, is_abstract}
use Rattle.jl_types.specs.Values.Ancestry.{is_ancestor, AreOrdered}
use Rattle.jl_types.specs.Linkage.Overriding.{can_override}
use Rattle.jl_hierarchy.specs.Redeclared.{AreLines}
use Rattle.jl_types.specs.Linkage.Selection.{virtual_outcome}

-- an invokevirtual of r runs r for each class that has n among its ancestors
abbrev pub RunsBelow : Classes → ℕ → MethodId → Type 0
RunsBelow cs n r = (x : ℕ) → is_ancestor cs n x ≡ true → virtual_outcome cs x r ≡ Run r

-- what is to be known of the class and the method
pub record MayRun (cs : Classes) (n : ℕ) (r : MethodId) : Type 0 where
  pub ordered : AreOrdered cs.rows
  pub plain : is_interface cs n ≡ false
  pub lines : AreLines cs.rows
  pub shared : is_private cs r ≡ false
  pub whole : is_abstract cs r ≡ false
  pub itself : can_override cs r r ≡ true
