-- What a Code attribute holds (JVMS 4.7.3).
use Rattle.std.specs.Prelude.{◌≡◌, ℕ, ◌*◌, ◌<◌, ◌≤◌, ◌^◌, List, ◌++◌, length}
use Rattle.jl_classfile.specs.declared.body.Attribute.{Attribute}
use Rattle.jl_code.specs.declared.instruction.Instruction.{Instruction}
use Rattle.jl_pool.specs.Numbers.{u2, u4, counted}
use Rattle.jl_pool.specs.Pools.{Pool}
use Rattle.jl_code.specs.Codes.{code_bytes, IsCode}
use Rattle.jl_classfile.specs.Layouts.{attribute_text, AttributeSized, Countable}

-- The attribute's bytes hold this code, of 1 to 65,535 bytes. Two sizes and its length come before it. An exception table of
-- 8 bytes a row and attributes come after it, and then nothing.
pub record HoldsCode (info code : List ℕ) : Type 0 where
  pub max_stack : ℕ
  pub max_locals : ℕ
  pub exceptions : ℕ
  pub table : List ℕ
  pub attributes : List Attribute
  pub spelled : info ≡ u2 max_stack ++ (u2 max_locals ++ (u4 (length code) ++ (code ++ (u2 exceptions ++ (table ++ counted attribute_text attributes)))))
  pub max_stack_size : max_stack < 2 ^ 16
  pub max_locals_size : max_locals < 2 ^ 16
  pub some : 1 ≤ length code
  pub few : length code ≤ 65535
  pub exceptions_size : exceptions < 2 ^ 16
  pub rows : length table ≡ 8 * exceptions
  pub attributes_sized : Countable AttributeSized attributes

-- the attribute's bytes hold a code of these instructions
pub record IsCodeOf (pool : Pool) (info : List ℕ) (instructions : List Instruction) : Type 0 where
  pub holds : HoldsCode info (code_bytes instructions)
  pub code : IsCode pool (code_bytes instructions) instructions
