-- What a call site runs (java.lang.invoke).
use Rattle.std.specs.Prelude.{ℕ, max, ◌+◌}
use Rattle.jl_types.specs.declared.ids.MethodId.{MethodId}

-- a method; the first part while a switch point is valid, and then the second; or whatever a call site runs (CallSite.dynamicInvoker)
pub data Target : Type 0 where
  Method : MethodId → Target
  Guard : ℕ → Target → Target → Target
  Invoker : ℕ → Target

-- how many parts lie below one another
abbrev pub depth : Target → ℕ
depth (Method m) = 1
depth (Guard p first fallback) = max (depth first) (depth fallback) + 1
depth (Invoker c) = 1
