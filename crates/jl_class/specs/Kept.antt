-- What a class file keeps besides the constant pool: invocations, by the number of what they name, and methods, by the numbers of their
-- texts.
use Rattle.std.specs.Prelude.{◌≡◌, ℕ, Bool, true, ◌&&◌, nat_le, List, [], length, map, slice_range, is_some}
use Rattle.std.specs.Option.{unwrap_or}
use Rattle.std.specs.List.{list_all}
use Rattle.jl_pool.specs.Pools.{Pool, text_at}
use Rattle.jl_class.specs.declared.site.KeptSite.{KeptSite}
use Rattle.jl_class.specs.declared.site.Operand.{Operand}
use Rattle.jl_class.specs.declared.site.Operand.TheVariants.{CallSite}
use Rattle.jl_class.specs.declared.class.KeptMethod.{KeptMethod}
use Rattle.jl_class.specs.Site.{Site}
use Rattle.jl_class.specs.Class.{Method}
use Rattle.jl_class.specs.Operands.{operand_at}

-- ---- invocations

-- the number names a method or a call site
abbrev pub is_named : Pool → KeptSite → Bool
is_named pool s = is_some (operand_at pool s.number)

-- what stands for an operand if there is none
abbrev pub nothing : Operand (List ℕ)
nothing = CallSite (record { bootstrap = 0; name = []; ty = [] })

-- the invocation that is kept
abbrev pub site_in : Pool → KeptSite → Site
site_in pool s = record { pc = s.pc; kind = s.kind; operand = unwrap_or (operand_at pool s.number) nothing }

-- ---- methods

-- the text at a number, or the empty text if there is none
abbrev pub text_or_nothing : Pool → ℕ → List ℕ
text_or_nothing pool n = unwrap_or (text_at pool n) []

-- the method that is kept: its invocations are those from one place up to another
abbrev pub method_in : Pool → List KeptSite → KeptMethod → Method
method_in pool sites m = record {
  flags = m.flags;
  name = text_or_nothing pool m.name;
  ty = text_or_nothing pool m.ty;
  sites = map (site_in pool) (slice_range sites m.from m.to);
}

-- its invocations stand among the first so many
abbrev pub is_ranged : ℕ → KeptMethod → Bool
is_ranged size m = nat_le m.from m.to && nat_le m.to size

-- each number names a method or a call site, and the method's range lies within the invocations
pub record IsMethodKept (pool : Pool) (sites : List KeptSite) (m : KeptMethod) : Type 0 where
  pub named : list_all (is_named pool) sites ≡ true
  pub ranged : is_ranged (length sites) m ≡ true

pub record AreMethodsKept (pool : Pool) (sites : List KeptSite) (ms : List KeptMethod) : Type 0 where
  pub named : list_all (is_named pool) sites ≡ true
  pub ranged : list_all (is_ranged (length sites)) ms ≡ true
