-- The constants of a sketch's pool (JVMS 4.4), in the order in which they are entered.
use Rattle.std.specs.Prelude.{ℕ, ◌+◌, Bool, true, false, not, ◌==◌, ◌&&◌, List, [], ◌∷◌, ◌++◌, fold, codes, position, Option, Some, None, if◌then◌else◌}
use Rattle.std.specs.Option.{option_map_or}
use Rattle.std.specs.List.{list_any}
use Rattle.std.specs.Str.{bytes_eq}
use Rattle.jl_pool.specs.declared.constant.Constant.{Constant}
use Rattle.jl_pool.specs.declared.constant.Constant.TheVariants.{Utf8, Class, NameAndType, Methodref, InterfaceMethodref, InvokeDynamic}
use Rattle.jl_class.specs.Flags.{has_flag, ABSTRACT, NATIVE}
use Rattle.jl_sketch.specs.declared.sketch.Sketch.{Sketch}
use Rattle.jl_sketch.specs.declared.sketch.SketchMethod.{SketchMethod}
use Rattle.jl_sketch.specs.declared.sketch.MethodName.{MethodName}
use Rattle.jl_sketch.specs.declared.sketch.Call.{Call}
use Rattle.jl_sketch.specs.declared.sketch.Call.TheVariants.{Virtual, Special, Static, Interface, Dynamic}

-- two constants of the kinds that a sketch has are equal
abbrev pub same_constant : Constant → Constant → Bool
same_constant (Utf8 a) (Utf8 b) = bytes_eq a b
same_constant (Class a) (Class b) = a == b
same_constant (NameAndType a b) (NameAndType c d) = (a == c) && (b == d)
same_constant (Methodref a b) (Methodref c d) = (a == c) && (b == d)
same_constant (InterfaceMethodref a b) (InterfaceMethodref c d) = (a == c) && (b == d)
same_constant (InvokeDynamic a b) (InvokeDynamic c d) = (a == c) && (b == d)
same_constant _ _ = false

-- the constants with this one, which goes last unless an equal one is there
unfoldable pub enter : List Constant → Constant → List Constant
enter cs c = if list_any (same_constant c) cs then cs else cs ++ c ∷ []

-- the number that the constant has: each takes one, from 1 on; 0 if it isn't there
unfoldable pub number : List Constant → Constant → ℕ
number cs c = option_map_or (λ i. i + 1) (position (same_constant c) cs) 0

-- ---- constants, with the numbers that their parts have

abbrev pub text_number : List Constant → List ℕ → ℕ
text_number cs text = number cs (Utf8 text)

abbrev pub class_constant : List Constant → List ℕ → Constant
class_constant cs name = Class (text_number cs name)

abbrev pub class_number : List Constant → List ℕ → ℕ
class_number cs name = number cs (class_constant cs name)

abbrev pub signed_constant : List Constant → List ℕ → List ℕ → Constant
signed_constant cs name ty = NameAndType (text_number cs name) (text_number cs ty)

abbrev pub signed_number : List Constant → List ℕ → List ℕ → ℕ
signed_number cs name ty = number cs (signed_constant cs name ty)

abbrev pub method_constant : List Constant → Bool → MethodName → Constant
method_constant cs false m = Methodref (class_number cs m.owner) (signed_number cs m.name m.ty)
method_constant cs true m = InterfaceMethodref (class_number cs m.owner) (signed_number cs m.name m.ty)

abbrev pub call_site_constant : List Constant → List ℕ → List ℕ → Constant
call_site_constant cs name ty = InvokeDynamic 0 (signed_number cs name ty)

abbrev pub call_constant : List Constant → Call → Constant
call_constant cs (Virtual m) = method_constant cs false m
call_constant cs (Special itf m) = method_constant cs itf m
call_constant cs (Static itf m) = method_constant cs itf m
call_constant cs (Interface m) = method_constant cs true m
call_constant cs (Dynamic name ty) = call_site_constant cs name ty

-- ---- constants entered, each after its parts, these from left to right

abbrev pub with_text : List Constant → List ℕ → List Constant
with_text cs text = enter cs (Utf8 text)

abbrev pub with_class : List Constant → List ℕ → List Constant
with_class cs name = let named = with_text cs name in enter named (class_constant named name)

abbrev pub with_signed : List Constant → List ℕ → List ℕ → List Constant
with_signed cs name ty = let parts = with_text (with_text cs name) ty in enter parts (signed_constant parts name ty)

abbrev pub with_method : Bool → List Constant → MethodName → List Constant
with_method itf cs m = let parts = with_signed (with_class cs m.owner) m.name m.ty in enter parts (method_constant parts itf m)

abbrev pub with_call_site : List Constant → List ℕ → List ℕ → List Constant
with_call_site cs name ty = let parts = with_signed cs name ty in enter parts (call_site_constant parts name ty)

abbrev pub with_call : List Constant → Call → List Constant
with_call cs (Virtual m) = with_method false cs m
with_call cs (Special itf m) = with_method itf cs m
with_call cs (Static itf m) = with_method itf cs m
with_call cs (Interface m) = with_method true cs m
with_call cs (Dynamic name ty) = with_call_site cs name ty

-- ---- the constants of a sketch

-- a method has code unless it is abstract or native (JVMS 4.7.3)
abbrev pub has_code : ℕ → Bool
has_code flags = not (has_flag flags ABSTRACT) && not (has_flag flags NATIVE)

-- of a method: its name, its descriptor, the name of the Code attribute if it has code, and what its calls name
abbrev pub with_declared : List Constant → SketchMethod → List Constant
with_declared cs m =
    let signed = with_text (with_text cs m.name) m.ty in
    let coded = if has_code m.flags then with_text signed (codes "Code") else signed in
    fold with_call coded m.calls

-- the class, if there is one
abbrev pub with_class_if_any : List Constant → Option (List ℕ) → List Constant
with_class_if_any cs None = cs
with_class_if_any cs (Some name) = with_class cs name

-- the attribute's name and the host, if there is one
abbrev pub with_host : List Constant → Option (List ℕ) → List Constant
with_host cs None = cs
with_host cs (Some host) = with_class (with_text cs (codes "NestHost")) host

-- the attribute's name and the members, if there is one at least
abbrev pub with_members : List Constant → List (List ℕ) → List Constant
with_members cs [] = cs
with_members cs (m ∷ ms) = fold with_class (with_text cs (codes "NestMembers")) (m ∷ ms)

-- this class, its superclass, its interfaces
abbrev pub with_classes : List Constant → Sketch → List Constant
with_classes cs s = fold with_class (with_class_if_any (with_class cs s.name) s.superclass) s.interfaces

-- the whole pool
abbrev pub sketch_constants : Sketch → List Constant
sketch_constants s = with_members (with_host (fold with_declared (with_classes [] s) s.methods) s.host) s.members
