-- A sketch's class file can be written: each of its numbers has its size.
use Rattle.std.proofs.Common.{◌≡◌, ℕ, ◌+◌, ◌*◌, ◌<◌, ◌≤◌, ◌^◌, ◌||◌, Bool, true, false, nat_lt, List, [], ◌∷◌, ◌++◌, length}
use Rattle.std.proofs.Common.{map, Some, None, refl, sym, ap, arith, suc, if◌then◌else◌}
use Rattle.std.specs.Prelude.{Option, codes}
use Rattle.std.specs.Option.{option_map_or}
use Rattle.std.specs.List.{list_any, flat_map, AllByRecursion}
use Rattle.std.proofs.lemmas.Bool.{or_parts, ltb-false}
use Rattle.std.proofs.lemmas.List.{length-append, length-map}
use Rattle.jl_pool.specs.declared.constant.Constant.{Constant}
use Rattle.jl_pool.specs.declared.constant.Constant.TheVariants.{Utf8}
use Rattle.jl_pool.specs.Numbers.{u2, counted}
use Rattle.jl_pool.specs.Pools.{places}
use Rattle.jl_code.specs.Codes.{code_bytes}
use Rattle.jl_code.specs.Instructions.{instruction_text}
use Rattle.jl_classfile.specs.declared.body.Attribute.{Attribute}
use Rattle.jl_classfile.specs.Layouts.{file_text, AttributeSized, Countable, MemberSized, BodySized, IsLayout}
use Rattle.jl_classfile.specs.Parts.{Parts}
use Rattle.jl_classfile.specs.ClassFiles.{IsClass}
use Rattle.jl_classfile.proofs.LayoutLaws.{one_layout}
use Rattle.jl_sketch.specs.declared.sketch.Sketch.{Sketch}
use Rattle.jl_sketch.specs.declared.sketch.SketchMethod.{SketchMethod}
use Rattle.jl_sketch.specs.declared.sketch.Call.{Call}
use Rattle.jl_sketch.specs.declared.sketch.Call.TheVariants.{Virtual, Special, Static, Interface, Dynamic}
use Rattle.jl_sketch.specs.Constants.{text_number, class_constant, class_number, has_code, sketch_constants}
use Rattle.jl_sketch.specs.Layouts.{call_instruction, instructions, code_info, code_attribute, method_of, host_attributes, member_attributes, body_of}
use Rattle.jl_sketch.specs.Layouts.{sketch_layout}
use Rattle.jl_sketch.specs.Faults.{is_long, is_long_call, is_long_method, is_long_sketch, is_too_big}
use Rattle.jl_sketch.specs.Names.{AreFlags}
use Rattle.jl_sketch.proofs.Holding.{one_place}
use Rattle.jl_sketch.proofs.SketchNames.{sketch_plain}
use Rattle.jl_sketch.proofs.Sizes.{number_below, IsShort, short, constants_sized}

-- ---- codes

short_call : (cs : List Constant) (call : Call) → length (instruction_text (call_instruction cs call)) ≤ 5
short_call cs (Virtual m) = omega arith
short_call cs (Special itf m) = omega arith
short_call cs (Static itf m) = omega arith
short_call cs (Interface m) = omega arith
short_call cs (Dynamic name ty) = omega arith

pub short_code : (cs : List Constant) (calls : List Call) → length (code_bytes (instructions cs calls)) ≤ 5 * length calls + 1
short_code cs [] = omega arith
short_code cs (c ∷ calls) =
    let both : length (code_bytes (instructions cs (c ∷ calls))) ≡ length (instruction_text (call_instruction cs c)) + length
    (code_bytes (instructions cs calls))
    = length-append (instruction_text (call_instruction cs c)) (code_bytes (instructions cs calls)) in
    let one = short_call cs c in
    let rest = short_code cs calls in
    rw both (omega (arith, one, rest))

info_length : (code : List ℕ) → length (code_info code) ≡ 12 + length code
info_length code =
    let rest : length (code ++ (u2 0 ++ u2 0)) ≡ length code + 4 = length-append code (u2 0 ++ u2 0) in
    omega (arith, rest)

short_info : (cs : List Constant) (calls : List Call) → is_long calls ≡ false → length (code_info (code_bytes (instructions cs calls))) < 2 ^ 32
short_info cs calls h =
    let few = ltb-false 65535 (length calls) h in
    let code = short_code cs calls in
    rw (info_length (code_bytes (instructions cs calls))) (omega (arith, few, code))

-- ---- attributes

code_sized : (cs : List Constant) (calls : List Call) → length cs ≤ 65534 → is_long calls ≡ false → AttributeSized (code_attribute cs calls)
code_sized cs calls few h = record { name = number_below cs (Utf8 (codes "Code")) few; info = short_info cs calls h }

if_coded : (b : Bool) (a : Attribute) → AttributeSized a → Countable AttributeSized (if b then a ∷ [] else [])
if_coded true a h = record { count = omega arith; each = (h, tt) }
if_coded false a h = record { count = omega arith; each = tt }

host_sized : (cs : List Constant) (host : List ℕ) → length cs ≤ 65534 → AttributeSized
    (record { name = text_number cs (codes "NestHost"); info = u2 (class_number cs host) })
host_sized cs host few = record { name = number_below cs (Utf8 (codes "NestHost")) few; info = omega arith }

numbers_length : (ns : List ℕ) → length (flat_map u2 ns) ≡ 2 * length ns
numbers_length [] = refl
numbers_length (n ∷ ns) = let rest = numbers_length ns in omega (arith, rest)

few_items : {X : Type 0} (xs : List X) → is_long xs ≡ false → length xs < 2 ^ 16
few_items xs h = let few = ltb-false 65535 (length xs) h in omega (arith, few)

numbers_info : (ns : List ℕ) → length ns < 2 ^ 16 → length (counted u2 ns) < 2 ^ 32
numbers_info ns few = let rest = numbers_length ns in omega (arith, rest, few)

pub few_numbers : (cs : List Constant) (names : List (List ℕ)) → is_long names ≡ false → length (map (class_number cs) names) < 2 ^ 16
few_numbers cs names h = rw (length-map names (class_number cs)) (few_items names h)

members_sized : (cs : List Constant) (members : List (List ℕ)) → length cs ≤ 65534 → is_long members ≡ false
    → AttributeSized (record { name = text_number cs (codes "NestMembers"); info = counted u2 (map (class_number cs) members) })
members_sized cs members few h = record {
  name = number_below cs (Utf8 (codes "NestMembers")) few;
  info = numbers_info (map (class_number cs) members)
      (few_numbers cs members h);
}

nest_sized : (cs : List Constant) (host : Option (List ℕ)) (members : List (List ℕ)) → length cs ≤ 65534 → is_long members ≡ false
    → Countable AttributeSized (host_attributes cs host ++ member_attributes cs members)
nest_sized cs None [] few h = record { count = omega arith; each = tt }
nest_sized cs (Some host) [] few h = record { count = omega arith; each = (host_sized cs host few, tt) }
nest_sized cs None (m ∷ ms) few h = record { count = omega arith; each = (members_sized cs (m ∷ ms) few h, tt) }
nest_sized cs (Some host) (m ∷ ms) few h = record { count = omega arith; each = (host_sized cs host few, (members_sized cs (m ∷ ms) few h, tt)) }

-- ---- members

method_sized : (cs : List Constant) (m : SketchMethod) → length cs ≤ 65534 → m.flags < 2 ^ 16 → is_long_method m ≡ false → MemberSized (method_of cs m)
method_sized cs m few f h =
    let a = or_parts (is_long m.name) (is_long m.ty || (is_long m.calls || list_any is_long_call m.calls)) h in
    let b = or_parts (is_long m.ty) (is_long m.calls || list_any is_long_call m.calls) a.1 in
    let c = or_parts (is_long m.calls) (list_any is_long_call m.calls) b.1 in
    record {
      flags = f;
      name = number_below cs (Utf8 m.name) few;
      descriptor = number_below cs (Utf8 m.ty) few;
      attributes = if_coded (has_code m.flags) (code_attribute cs m.calls) (code_sized cs m.calls few c.0);
    }

methods_sized : (cs : List Constant) (ms : List SketchMethod) → length cs ≤ 65534 → AllByRecursion (λ m. m.flags < 2 ^ 16) ms
    → list_any is_long_method ms ≡ false → AllByRecursion MemberSized (map (method_of cs) ms)
methods_sized cs [] few f h = tt
methods_sized cs (m ∷ ms) few f h =
    let s = or_parts (is_long_method m) (list_any is_long_method ms) h in
    (method_sized cs m few f.0 s.0, methods_sized cs ms few f.1 s.1)

pub classes_sized : (cs : List Constant) (names : List (List ℕ)) → length cs ≤ 65534 → AllByRecursion (λ n. n < 2 ^ 16) (map (class_number cs) names)
classes_sized cs [] few = tt
classes_sized cs (n ∷ ns) few = (number_below cs (class_constant cs n) few, classes_sized cs ns few)

super_sized : (cs : List Constant) (name : Option (List ℕ)) → length cs ≤ 65534 → option_map_or (class_number cs) name 0 < 2 ^ 16
super_sized cs None few = omega arith
super_sized cs (Some name) few = number_below cs (class_constant cs name) few

body_sized : (s : Sketch) (cs : List Constant) → AreFlags s → IsShort s → length cs ≤ 65534 → BodySized (body_of cs s)
body_sized s cs f h few = record {
  flags = f.0;
  this_class = number_below cs (class_constant cs s.name) few;
  super_class = super_sized cs s.superclass few;
  interfaces = record {
    count = few_numbers cs s.interfaces (or_parts (is_long s.interfaces) (list_any is_long s.interfaces) h.interfaces).0;
    each = classes_sized cs s.interfaces few;
  };
  fields = record { count = omega arith; each = tt };
  methods = record {
    count = rw (length-map s.methods (method_of cs)) (few_items s.methods h.methods);
    each = methods_sized cs s.methods few f.1 h.each_method;
  };
  attributes = nest_sized cs s.host s.members few (or_parts (is_long s.members) (list_any is_long s.members) h.members).0;
}

-- ---- the layout

pub lies : (s : Sketch) → AreFlags s → is_too_big s ≡ false → IsLayout (sketch_layout s)
lies s f h =
    let cs : List Constant = sketch_constants s in
    let parts = or_parts (is_long_sketch s) (nat_lt 65534 (length cs)) h in
    let few : length cs ≤ 65534 = ltb-false 65534 (length cs) parts.1 in
    let is_short : IsShort s = short s parts.0 in
    let places_are : length (places cs) ≡ suc (length cs) = ap suc (one_place cs (sketch_plain s)) in
    record {
      minor = omega arith;
      major = omega arith;
      pool = record { each = constants_sized s is_short few; count = rw places_are (omega (arith, few)) };
      body = body_sized s cs f is_short few;
    }

pub layout_is : (s : Sketch) (p : Parts) → AreFlags s → is_too_big s ≡ false → IsClass (file_text (sketch_layout s)) p → p.layout ≡ sketch_layout s
layout_is s p f h k = one_layout p.layout (sketch_layout s) k.laid (lies s f h) (sym k.spelled)
