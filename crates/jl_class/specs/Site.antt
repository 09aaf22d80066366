-- An invocation in a code (JVMS 6.5).
use Rattle.std.specs.Prelude.{ℕ, List}
use Rattle.jl_class.specs.declared.site.Kind.{Kind}
use Rattle.jl_class.specs.declared.site.Operand.{Operand}

-- its place in bytes from the code's start (JVMS 4.9.1), the instruction, and the method or call site that it names
pub record Site : Type 0 where
  pub pc : ℕ
  pub kind : Kind
  pub operand : Operand (List ℕ)
