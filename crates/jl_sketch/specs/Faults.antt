-- Why a sketch isn't written.
use Rattle.std.specs.Prelude.{◌≡◌, ◌≢◌, ℕ, Bool, false, not, ◌==◌, ◌&&◌, ◌||◌, nat_lt, IsTrue, IsFalse, List, length, position, Option, Some, None, ⊤}
use Rattle.std.specs.Option.{option_map_or}
use Rattle.std.specs.List.{list_any}
use Rattle.jl_classfile.specs.declared.fault.ClassFault.TheVariants as class
use Rattle.jl_classfile.specs.Layouts.{file_text}
use Rattle.jl_classfile.specs.Parts.{Parts}
use Rattle.jl_classfile.specs.ClassFiles.{IsClass}
use Rattle.jl_classfile.specs.Faults.{IsFault}
use Rattle.jl_sketch.specs.declared.sketch.Sketch.{Sketch}
use Rattle.jl_sketch.specs.declared.sketch.SketchMethod.{SketchMethod}
use Rattle.jl_sketch.specs.declared.sketch.MethodName.{MethodName}
use Rattle.jl_sketch.specs.declared.sketch.Call.{Call}
use Rattle.jl_sketch.specs.declared.sketch.Call.TheVariants.{Virtual, Special, Static, Interface, Dynamic}
use Rattle.jl_sketch.specs.declared.fault.SketchFault.{SketchFault}
use Rattle.jl_sketch.specs.declared.fault.SketchFault.TheVariants.{TooBig, CallsWithoutCode, Refused, Memory}
use Rattle.jl_sketch.specs.Constants.{has_code, sketch_constants}
use Rattle.jl_sketch.specs.Layouts.{sketch_layout}

-- ---- 1: sizes

-- a text of over 65,535 bytes, or a list of over 65,535 entries
abbrev pub is_long : {X : Type 0} → List X → Bool
is_long xs = nat_lt 65535 (length xs)

abbrev pub are_long : List (List ℕ) → Bool
are_long texts = is_long texts || list_any is_long texts

abbrev pub is_long_method_name : MethodName → Bool
is_long_method_name m = is_long m.owner || (is_long m.name || is_long m.ty)

abbrev pub is_long_call : Call → Bool
is_long_call (Virtual m) = is_long_method_name m
is_long_call (Special itf m) = is_long_method_name m
is_long_call (Static itf m) = is_long_method_name m
is_long_call (Interface m) = is_long_method_name m
is_long_call (Dynamic name ty) = is_long name || is_long ty

abbrev pub is_long_method : SketchMethod → Bool
is_long_method m = is_long m.name || (is_long m.ty || (is_long m.calls || list_any is_long_call m.calls))

abbrev pub is_long_if_any : Option (List ℕ) → Bool
is_long_if_any name = option_map_or is_long name false

-- some part of the sketch is too long
abbrev pub is_long_sketch : Sketch → Bool
is_long_sketch s =
    is_long s.name || (is_long_if_any s.superclass || (are_long s.interfaces
    || ((is_long s.methods || list_any is_long_method s.methods) || (is_long_if_any s.host || are_long s.members))))

abbrev pub is_too_big : Sketch → Bool
is_too_big s = is_long_sketch s || nat_lt 65534 (length (sketch_constants s))

-- ---- 2: codes

abbrev pub calls_without_code : SketchMethod → Bool
calls_without_code m = not (has_code m.flags) && not (length m.calls == 0)

-- the first method without code that has calls
abbrev pub first_without_code : Sketch → Option ℕ
first_without_code s = position calls_without_code s.methods

-- ---- the order

-- the fault is there, and none that is looked for before it. Want of memory says nothing of the sketch.
abbrev pub IsSketchFault : Sketch → SketchFault → Type 0
IsSketchFault s TooBig = IsTrue (is_too_big s)
IsSketchFault s (CallsWithoutCode i) = IsFalse (is_too_big s) × (first_without_code s ≡ Some i)
IsSketchFault s (Refused f) = IsFalse (is_too_big s) × (first_without_code s ≡ None) × (f ≢ class.Memory) × IsFault (file_text (sketch_layout s)) f
IsSketchFault s Memory = ⊤

-- no fault comes before the class file's own, and the bytes are those of the sketch's layout
pub record IsSpelled (s : Sketch) (bytes : List ℕ) : Type 0 where
  pub fits : IsFalse (is_too_big s)
  pub coded : first_without_code s ≡ None
  pub spelled : bytes ≡ file_text (sketch_layout s)

-- the bytes are those of the sketch, and are a class file
abbrev pub IsWritten : Sketch → List ℕ → Type 0
IsWritten s bytes = IsSpelled s bytes × ((p : Parts) × IsClass bytes p)
