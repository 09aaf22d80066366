-- The class file of a sketch as it lies (JVMS 4.1, 4.6, 4.7).
use Rattle.std.specs.Prelude.{ℕ, List, [], ◌∷◌, ◌++◌, length, map, codes, Option, Some, None, if◌then◌else◌}
use Rattle.std.specs.Option.{option_map_or}
use Rattle.jl_pool.specs.declared.constant.Constant.{Constant}
use Rattle.jl_pool.specs.Numbers.{u2, u4, counted}
use Rattle.jl_code.specs.declared.instruction.Instruction.{Instruction}
use Rattle.jl_code.specs.declared.instruction.Instruction.TheVariants.{Plain, Invoke}
use Rattle.jl_code.specs.Codes.{code_bytes}
use Rattle.jl_classfile.specs.declared.body.Attribute.{Attribute}
use Rattle.jl_classfile.specs.declared.body.Member.{Member}
use Rattle.jl_classfile.specs.declared.body.Body.{Body}
use Rattle.jl_classfile.specs.Layouts.{Layout}
use Rattle.jl_sketch.specs.declared.sketch.Sketch.{Sketch}
use Rattle.jl_sketch.specs.declared.sketch.SketchMethod.{SketchMethod}
use Rattle.jl_sketch.specs.declared.sketch.Call.{Call}
use Rattle.jl_sketch.specs.declared.sketch.Call.TheVariants.{Virtual, Special, Static, Interface, Dynamic}
use Rattle.jl_sketch.specs.Counts.{count_byte}
use Rattle.jl_sketch.specs.Constants.{number, text_number, class_number, call_constant, has_code, sketch_constants}

-- ---- code

abbrev pub call_opcode : Call → ℕ
call_opcode (Virtual m) = 182
call_opcode (Special itf m) = 183
call_opcode (Static itf m) = 184
call_opcode (Interface m) = 185
call_opcode (Dynamic name ty) = 186

-- what follows the number
abbrev pub call_tail : Call → List ℕ
call_tail (Virtual m) = []
call_tail (Special itf m) = []
call_tail (Static itf m) = []
call_tail (Interface m) = count_byte m.ty ∷ 0 ∷ []
call_tail (Dynamic name ty) = 0 ∷ 0 ∷ []

abbrev pub call_instruction : List Constant → Call → Instruction
call_instruction cs call = Invoke (call_opcode call) (number cs (call_constant cs call)) (call_tail call)

-- the calls in order, and a return
abbrev pub instructions : List Constant → List Call → List Instruction
instructions cs calls = map (call_instruction cs) calls ++ Plain 177 [] ∷ []

-- no stack, no locals, the code, no exceptions, no attributes
abbrev pub code_info : List ℕ → List ℕ
code_info code = u2 0 ++ (u2 0 ++ (u4 (length code) ++ (code ++ (u2 0 ++ u2 0))))

abbrev pub code_attribute : List Constant → List Call → Attribute
code_attribute cs calls = record { name = text_number cs (codes "Code"); info = code_info (code_bytes (instructions cs calls)) }

-- ---- the parts

abbrev pub method_attributes : List Constant → SketchMethod → List Attribute
method_attributes cs m = if has_code m.flags then code_attribute cs m.calls ∷ [] else []

abbrev pub method_of : List Constant → SketchMethod → Member
method_of cs m = record {
  flags = m.flags;
  name = text_number cs m.name;
  descriptor = text_number cs m.ty;
  attributes = method_attributes cs m;
}

abbrev pub host_attributes : List Constant → Option (List ℕ) → List Attribute
host_attributes cs None = []
host_attributes cs (Some host) = record { name = text_number cs (codes "NestHost"); info = u2 (class_number cs host) } ∷ []

abbrev pub member_attributes : List Constant → List (List ℕ) → List Attribute
member_attributes cs [] = []
member_attributes cs (m ∷ ms) = record { name = text_number cs (codes "NestMembers"); info = counted u2 (map (class_number cs) (m ∷ ms)) } ∷ []

abbrev pub body_of : List Constant → Sketch → Body
body_of cs s = record {
  flags = s.flags;
  this_class = class_number cs s.name;
  super_class = option_map_or (class_number cs) s.superclass 0;
  interfaces = map (class_number cs) s.interfaces;
  fields = [];
  methods = map (method_of cs) s.methods;
  attributes = host_attributes cs s.host ++ member_attributes cs s.members;
}

-- the layout of a sketch over these constants, of version 61.0
abbrev pub layout_over : List Constant → Sketch → Layout
layout_over cs s = record { minor = 0; major = 61; constants = cs; body = body_of cs s }

abbrev pub sketch_layout : Sketch → Layout
sketch_layout s = layout_over (sketch_constants s) s
