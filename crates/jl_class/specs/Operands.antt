-- What the number of an invocation names (JVMS 4.4.2, 4.4.10).
use Rattle.std.specs.Prelude.{ℕ, List, Option, Some, None, option_map}
use Rattle.jl_pool.specs.declared.reference.Reference.{Reference}
use Rattle.jl_pool.specs.declared.reference.CallSiteSpecifier.{CallSiteSpecifier}
use Rattle.jl_pool.specs.Pools.{Pool, reference_at, call_site_at}
use Rattle.jl_class.specs.declared.site.Operand.{Operand}
use Rattle.jl_class.specs.declared.site.Operand.TheVariants.{Method, CallSite}

abbrev pub either_operand : Option (Reference (List ℕ)) → Option (CallSiteSpecifier (List ℕ)) → Option (Operand (List ℕ))
either_operand (Some r) s = Some (Method r)
either_operand None s = option_map CallSite s

-- what the number of an invocation names: a method, or else a call site
abbrev pub operand_at : Pool → ℕ → Option (Operand (List ℕ))
operand_at pool n = either_operand (reference_at pool n) (call_site_at pool n)
