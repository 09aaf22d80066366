-- Invocations whose links are equal, since the classes and what is equal of both decide them.
use Rattle.std.specs.Prelude.{◌≡◌, List, ℕ}
use Rattle.jl_class.specs.declared.site.Operand.{Operand}
use Rattle.jl_class.specs.declared.site.Operand.TheVariants as operand
use Rattle.jl_relink.specs.declared.located.Located.{Located}

-- both name one method
abbrev pub AreEqualOperands : Operand (List ℕ) → Operand (List ℕ) → Type 0
AreEqualOperands (operand.Method r) (operand.Method q) = r ≡ q
AreEqualOperands (operand.Method r) (operand.CallSite specifier) = ⊥
AreEqualOperands (operand.CallSite specifier) o = ⊥

-- both stand in one class, are of one kind, and name one method
pub record AreEqual (first second : Located) : Type 0 where
  pub caller : first.caller ≡ second.caller
  pub kind : first.invocation.kind ≡ second.invocation.kind
  pub operand : AreEqualOperands first.invocation.operand second.invocation.operand
