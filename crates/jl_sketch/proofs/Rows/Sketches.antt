-- Sketches and their class files.
use Rattle.std.proofs.Common.{◌≡◌, ℕ, List, [], ◌∷◌, ◌++◌, true, false, Some, None, refl}
use Rattle.std.specs.Prelude.{codes}
use Rattle.jl_names.specs.ForProofs.Descriptors.{field_at, element_at, class_at}
use Rattle.jl_names.specs.ForProofs.MethodTypes.{after_byte, return_at}
use Rattle.jl_pool.specs.ForProofs.Forms.{method_slots, slots_from}
use Rattle.jl_pool.specs.declared.constant.Constant.TheVariants.{Utf8, Class, NameAndType, Methodref, InterfaceMethodref, InvokeDynamic}
use Rattle.jl_code.specs.declared.instruction.Instruction.TheVariants.{Plain, Invoke}
use Rattle.jl_classfile.specs.declared.body.Body.{Body}
use Rattle.jl_classfile.specs.Layouts.{file_text}
use Rattle.jl_classfile.proofs.Rows.Object as object
use Rattle.jl_classfile.proofs.Rows.M as m
use Rattle.jl_sketch.specs.declared.sketch.Sketch.{Sketch}
use Rattle.jl_sketch.specs.declared.sketch.MethodName.{MethodName}
use Rattle.jl_sketch.specs.declared.sketch.Call.{Call}
use Rattle.jl_sketch.specs.declared.sketch.Call.TheVariants.{Virtual, Special, Static, Interface, Dynamic}
use Rattle.jl_sketch.specs.Counts.{count_byte}
use Rattle.jl_sketch.specs.Constants.{enter, number, sketch_constants}
use Rattle.jl_sketch.specs.Layouts.{instructions, sketch_layout}

-- ---- java/lang/Object, and a class with one call

abbrev pub object_sketch : Sketch
object_sketch = record { name = codes "java/lang/Object"; flags = 33; superclass = None; interfaces = []; methods = []; host = None; members = [] }

object_lies : sketch_layout object_sketch ≡ object.layout
unfolding enter number
object_lies = refl

abbrev pub f_of_A : MethodName
f_of_A = record { owner = codes "A"; name = codes "f"; ty = codes "()V" }

-- M with these flags of its method
abbrev pub m_sketch : ℕ → Sketch
m_sketch flags = record {
  name = codes "M";
  flags = 33;
  superclass = Some (codes "java/lang/Object");
  interfaces = [];
  methods = record { name = codes "run"; ty = codes "()V"; flags = flags; calls = Virtual f_of_A ∷ [] } ∷ [];
  host = None;
  members = [];
}

m_lies : sketch_layout (m_sketch 9) ≡ m.layout
unfolding enter number
m_lies = refl

m_is_written : file_text (sketch_layout (m_sketch 9)) ≡ m.bytes
unfolding enter number
m_is_written = refl

-- ---- a host, and members beside it

abbrev pub in_sketch : Sketch
in_sketch = record {
  name = codes "In";
  flags = 33;
  superclass = Some (codes "java/lang/Object");
  interfaces = [];
  methods = [];
  host = Some (codes "Out");
  members = [];
}

-- 82 bytes
in_is_written : file_text (sketch_layout in_sketch) ≡ 0xca ∷ 0xfe ∷ 0xba ∷ 0xbe ∷ 0 ∷ 0 ∷ 0 ∷ 0x3d ∷ 0 ∷ 8 ∷ 1 ∷ 0 ∷ 2 ∷ 0x49 ∷ 0x6e ∷ 7 ∷ 0 ∷ 1 ∷ 1 ∷ 0 ∷ 16
    ∷ (codes "java/lang/Object" ++ (7 ∷ 0 ∷ 3 ∷ 1 ∷ 0 ∷ 8 ∷ (codes "NestHost" ++ (1 ∷ 0 ∷ 3 ∷ (codes "Out" ++ (7 ∷ 0 ∷ 6
    ∷ 0 ∷ 0x21 ∷ 0 ∷ 2 ∷ 0 ∷ 4 ∷ 0 ∷ 0 ∷ 0 ∷ 0 ∷ 0 ∷ 0 ∷ 0 ∷ 1 ∷ 0 ∷ 5 ∷ 0 ∷ 0 ∷ 0 ∷ 2 ∷ 0 ∷ 7 ∷ []))))))
unfolding enter number
in_is_written = refl

-- ---- every call, and texts that are shared

abbrev every_call : List Call
every_call =
    Virtual f_of_A ∷ Special true f_of_A ∷ Static false f_of_A ∷ Interface (record { owner = codes "A"; name = codes "f"; ty = codes "(JI)V" })
    ∷ Dynamic (codes "f") (codes "()V") ∷ []

abbrev all_calls : Sketch
all_calls = record {
  name = codes "A";
  flags = 33;
  superclass = None;
  interfaces = codes "A" ∷ [];
  methods = record {
    name = codes "Code";
    ty = codes "()V";
    flags = 9;
    calls = every_call;
  } ∷ [];
  host = None;
  members = codes "A" ∷ codes "M" ∷ [];
}

all_constants : sketch_constants all_calls ≡ Utf8 (codes "A") ∷ Class 1 ∷ Utf8 (codes "Code") ∷ Utf8 (codes "()V") ∷ Utf8 (codes "f") ∷ NameAndType 5 4
    ∷ Methodref 2 6
    ∷ InterfaceMethodref 2 6 ∷ Utf8 (codes "(JI)V") ∷ NameAndType 5 9 ∷ InterfaceMethodref 2 10 ∷ InvokeDynamic 0 6 ∷ Utf8 (codes "NestMembers")
    ∷ Utf8 (codes "M") ∷ Class 14 ∷ []
unfolding enter number
all_constants = refl

all_instructions : instructions (sketch_constants all_calls) every_call
    ≡ Invoke 182 7 [] ∷ Invoke 183 8 [] ∷ Invoke 184 7 [] ∷ Invoke 185 11 (4 ∷ 0 ∷ []) ∷ Invoke 186 12 (0 ∷ 0 ∷ []) ∷ Plain 177 [] ∷ []
unfolding enter number method_slots slots_from after_byte field_at element_at class_at return_at
all_instructions = refl

-- a code of 20 bytes, and two members
all_lie : (sketch_layout all_calls).body ≡ record {
  flags = 33;
  this_class = 2;
  super_class = 0;
  interfaces = 2 ∷ [];
  fields = [];
  methods =
      record {
        flags = 9;
        name = 3;
        descriptor = 4;
        attributes =
            record {
              name = 3;
              info = 0 ∷ 0 ∷ 0 ∷ 0 ∷ 0 ∷ 0 ∷ 0 ∷ 20 ∷ 182 ∷ 0 ∷ 7 ∷ 183 ∷ 0 ∷ 8 ∷ 184 ∷ 0 ∷ 7 ∷ 185 ∷ 0 ∷ 11 ∷ 4 ∷ 0 ∷ 186 ∷ 0 ∷ 12 ∷ 0 ∷ 0 ∷ 177 ∷ 0 ∷ 0 ∷ 0
                  ∷ 0 ∷ [];
            }
            ∷ [];
      }
      ∷ [];
  attributes = record { name = 13; info = 0 ∷ 2 ∷ 0 ∷ 2 ∷ 0 ∷ 15 ∷ [] } ∷ [];
}
unfolding enter number method_slots slots_from after_byte field_at element_at class_at return_at
all_lie = refl

-- ---- every part: what has no code has no Code attribute, and a host and a member stand side by side

abbrev pub all_parts : ℕ → Sketch
all_parts flags = record {
  name = codes "N";
  flags = 0x0421;
  superclass = Some (codes "S");
  interfaces = codes "I" ∷ codes "J" ∷ [];
  methods = record { name = codes "m"; ty = codes "()V"; flags = flags; calls = [] } ∷ [];
  host = Some (codes "H");
  members = codes "K" ∷ codes "L" ∷ [];
}

parts_constants : sketch_constants (all_parts 0x0401)
    ≡ Utf8 (codes "N") ∷ Class 1 ∷ Utf8 (codes "S") ∷ Class 3 ∷ Utf8 (codes "I") ∷ Class 5 ∷ Utf8 (codes "J") ∷ Class 7 ∷ Utf8 (codes "m") ∷ Utf8 (codes "()V")
    ∷ Utf8 (codes "NestHost") ∷ Utf8 (codes "H") ∷ Class 12 ∷ Utf8 (codes "NestMembers") ∷ Utf8 (codes "K") ∷ Class 15 ∷ Utf8 (codes "L") ∷ Class 17 ∷ []
unfolding enter number
parts_constants = refl

-- with a method of these flags
abbrev parts_body : ℕ → Body
parts_body flags = record {
  flags = 0x0421;
  this_class = 2;
  super_class = 4;
  interfaces = 6 ∷ 8 ∷ [];
  fields = [];
  methods = record { flags = flags; name = 9; descriptor = 10; attributes = [] } ∷ [];
  attributes = record { name = 11; info = 0 ∷ 13 ∷ [] } ∷ record { name = 14; info = 0 ∷ 2 ∷ 0 ∷ 16 ∷ 0 ∷ 18 ∷ [] } ∷ [];
}

parts_lie : (sketch_layout (all_parts 0x0401)).body ≡ parts_body 0x0401
unfolding enter number
parts_lie = refl

native_lies : (sketch_layout (all_parts 0x0101)).body ≡ parts_body 0x0101
unfolding enter number
native_lies = refl

-- ---- the count of invokeinterface

counts_slots : count_byte (codes "(J[DLA;IZ)D") ≡ 7
unfolding method_slots slots_from after_byte field_at element_at class_at return_at
counts_slots = refl

counts_none : count_byte (codes "()J") ≡ 1
unfolding method_slots slots_from after_byte field_at element_at class_at return_at
counts_none = refl

counts_no_method : count_byte (codes "(I") ≡ 0
unfolding method_slots slots_from after_byte field_at element_at class_at return_at
counts_no_method = refl

-- with the receiver 255 are the most
counts_most : (ty : List ℕ) → method_slots ty ≡ Some 254 → count_byte ty ≡ 255
counts_most ty e = rw e refl

counts_too_many : (ty : List ℕ) → method_slots ty ≡ Some 255 → count_byte ty ≡ 0
counts_too_many ty e = rw e refl
