-- The parts of a class file: how it lies, and what its Code and nest attributes hold.
use Rattle.std.specs.Prelude.{ℕ, List, Option}
use Rattle.jl_code.specs.declared.instruction.Instruction.{Instruction}
use Rattle.jl_classfile.specs.Layouts.{Layout}

pub record Parts : Type 0 where
  pub layout : Layout
  pub codes : List (Option (List Instruction))  -- of each method, if it has one
  pub nest_host : Option ℕ
  pub nest_members : Option (List ℕ)
