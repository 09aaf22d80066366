-- Sizes just too large and just small enough, and the order of the faults.
use Rattle.std.specs.Prelude.{◌≡◌, ℕ, Bool, true, false, ◌||◌, nat_lt, List, [], ◌∷◌, length, map, codes, Option, Some, None, refl}
use Rattle.std.proofs.Common.{ap, ◌∙◌}
use Rattle.jl_classfile.specs.declared.fault.ClassFault.{ClassFault}
use Rattle.jl_classfile.specs.declared.fault.ClassFault.TheVariants as class
use Rattle.jl_classfile.proofs.Rows.M as m
use Rattle.jl_sketch.specs.declared.sketch.Sketch.{Sketch}
use Rattle.jl_sketch.specs.declared.sketch.SketchMethod.{SketchMethod}
use Rattle.jl_sketch.specs.declared.sketch.MethodName.{MethodName}
use Rattle.jl_sketch.specs.declared.sketch.Call.{Call}
use Rattle.jl_sketch.specs.declared.sketch.Call.TheVariants.{Virtual, Special, Static, Interface, Dynamic}
use Rattle.jl_sketch.specs.declared.fault.SketchFault.TheVariants.{TooBig, CallsWithoutCode, Refused}
use Rattle.jl_sketch.specs.Constants.{enter, number, sketch_constants}
use Rattle.jl_sketch.specs.Faults.{is_long, is_long_method_name, is_long_call, is_long_method, is_long_sketch, is_too_big, calls_without_code}
use Rattle.jl_sketch.specs.Faults.{first_without_code, IsSketchFault, IsSpelled}
use Rattle.jl_sketch.proofs.Rows.Sketches.{f_of_A, m_sketch}

-- ---- lengths

long : {X : Type 0} (xs : List X) → length xs ≡ 65536 → is_long xs ≡ true
long xs e = rw e refl

short : {X : Type 0} (xs : List X) → length xs ≡ 65535 → is_long xs ≡ false
short xs e = rw e refl

one_is : (b rest : Bool) → b ≡ true → (b || rest) ≡ true
one_is b rest e = ap (λ (x : Bool). x || rest) e

-- ---- a part of a call

long_owner : (text : List ℕ) → length text ≡ 65536 → is_long_method_name (record { owner = text; name = []; ty = [] }) ≡ true
long_owner text e = one_is (is_long text) _ (long text e)

long_method_name : (text : List ℕ) → length text ≡ 65536 → is_long_method_name (record { owner = []; name = text; ty = [] }) ≡ true
long_method_name text e = one_is (is_long text) _ (long text e)

long_method_type : (text : List ℕ) → length text ≡ 65536 → is_long_method_name (record { owner = []; name = []; ty = text }) ≡ true
long_method_type text e = long text e

long_calls : (m : MethodName) → is_long_method_name m ≡ true
    → map is_long_call (Virtual m ∷ Special false m ∷ Static false m ∷ Interface m ∷ []) ≡ true ∷ true ∷ true ∷ true ∷ []
long_calls m e = ap (λ (b : Bool). b ∷ b ∷ b ∷ b ∷ []) e

long_call_site_name : (text : List ℕ) → length text ≡ 65536 → is_long_call (Dynamic text []) ≡ true
long_call_site_name text e = one_is (is_long text) _ (long text e)

long_call_site_type : (text : List ℕ) → length text ≡ 65536 → is_long_call (Dynamic [] text) ≡ true
long_call_site_type text e = long text e

-- ---- a part of a method

abbrev method : SketchMethod
method = record { name = []; ty = []; flags = 0; calls = [] }

long_name_of_a_method : (text : List ℕ) → length text ≡ 65536 → is_long_method (record method { name = text }) ≡ true
long_name_of_a_method text e = one_is (is_long text) _ (long text e)

long_type_of_a_method : (text : List ℕ) → length text ≡ 65536 → is_long_method (record method { ty = text }) ≡ true
long_type_of_a_method text e = one_is (is_long text) _ (long text e)

many_calls : (calls : List Call) → length calls ≡ 65536 → is_long_method (record method { calls = calls }) ≡ true
many_calls calls e = one_is (is_long calls) _ (long calls e)

one_long_call : (call : Call) → is_long_call call ≡ true → is_long_method (record method { calls = Virtual f_of_A ∷ call ∷ [] }) ≡ true
one_long_call call e = one_is (is_long_call call) _ e

-- ---- a part of a sketch

abbrev sketch : Sketch
sketch = record { name = []; flags = 0; superclass = None; interfaces = []; methods = []; host = None; members = [] }

long_name : (text : List ℕ) → length text ≡ 65536 → is_long_sketch (record sketch { name = text }) ≡ true
long_name text e = one_is (is_long text) _ (long text e)

long_superclass : (text : List ℕ) → length text ≡ 65536 → is_long_sketch (record sketch { superclass = Some text }) ≡ true
long_superclass text e = one_is (is_long text) _ (long text e)

many_interfaces : (names : List (List ℕ)) → length names ≡ 65536 → is_long_sketch (record sketch { interfaces = names }) ≡ true
many_interfaces names e = one_is (is_long names || _) _ (one_is (is_long names) _ (long names e))

long_interface : (text : List ℕ) → length text ≡ 65536 → is_long_sketch (record sketch { interfaces = [] ∷ text ∷ [] }) ≡ true
long_interface text e = one_is (is_long text || false) _ (one_is (is_long text) false (long text e))

many_methods : (methods : List SketchMethod) → length methods ≡ 65536 → is_long_sketch (record sketch { methods = methods }) ≡ true
many_methods methods e = one_is (is_long methods || _) _ (one_is (is_long methods) _ (long methods e))

long_method : (m : SketchMethod) → is_long_method m ≡ true → is_long_sketch (record sketch { methods = method ∷ m ∷ [] }) ≡ true
long_method m e = one_is (is_long_method m || false) _ (one_is (is_long_method m) false e)

long_host : (text : List ℕ) → length text ≡ 65536 → is_long_sketch (record sketch { host = Some text }) ≡ true
long_host text e = one_is (is_long text) _ (long text e)

many_members : (names : List (List ℕ)) → length names ≡ 65536 → is_long_sketch (record sketch { members = names }) ≡ true
many_members names e = one_is (is_long names) _ (long names e)

long_member : (text : List ℕ) → length text ≡ 65536 → is_long_sketch (record sketch { members = [] ∷ text ∷ [] }) ≡ true
long_member text e = one_is (is_long text) false (long text e)

-- ---- the pool

long_is_big : (s : Sketch) → is_long_sketch s ≡ true → IsSketchFault s TooBig
long_is_big s e = one_is (is_long_sketch s) _ e

too_many_constants : (s : Sketch) → length (sketch_constants s) ≡ 65535 → is_long_sketch s ≡ false → IsSketchFault s TooBig
too_many_constants s n e = ap (λ (b : Bool). b || nat_lt 65534 (length (sketch_constants s))) e ∙ ap (λ (k : ℕ). nat_lt 65534 k) n

few_constants : (s : Sketch) → length (sketch_constants s) ≡ 65534 → is_long_sketch s ≡ false → is_too_big s ≡ false
few_constants s n e = ap (λ (b : Bool). b || nat_lt 65534 (length (sketch_constants s))) e ∙ ap (λ (k : ℕ). nat_lt 65534 k) n

-- ---- calls without code

abbrev with_calls : ℕ → List Call → SketchMethod
with_calls flags calls = record { name = codes "run"; ty = codes "()V"; flags = flags; calls = calls }

abbrev one_call : List Call
one_call = Virtual f_of_A ∷ []

lack_code : map calls_without_code (with_calls 0x0401 one_call ∷ with_calls 0x0101 one_call ∷ with_calls 1 one_call ∷ with_calls 0x0401 []
    ∷ with_calls 0x0101 [] ∷ [])
    ≡ true ∷ true ∷ false ∷ false ∷ false ∷ []
lack_code = refl

first_of_two : first_without_code
    (record sketch { methods = with_calls 1 one_call ∷ with_calls 0x0401 [] ∷ with_calls 0x0101 one_call ∷ with_calls 0x0401 one_call ∷ [] })
    ≡ Some 2
first_of_two = refl

-- ---- the order

true_is_not : (b : Bool) → b ≡ true → b ≡ false → ⊥
true_is_not b t f = absurd cc

some_is_not : (o : Option ℕ) (i : ℕ) → o ≡ Some i → o ≡ None → ⊥
some_is_not o i s n = absurd cc

size_before_calls : (s : Sketch) (i : ℕ) → is_too_big s ≡ true → ¬ IsSketchFault s (CallsWithoutCode i)
size_before_calls s i e = λ h. true_is_not (is_too_big s) e h.0

size_before_class : (s : Sketch) (f : ClassFault) → is_too_big s ≡ true → ¬ IsSketchFault s (Refused f)
size_before_class s f e = λ h. true_is_not (is_too_big s) e h.0

calls_before_class : (s : Sketch) (i : ℕ) (f : ClassFault) → first_without_code s ≡ Some i → ¬ IsSketchFault s (Refused f)
calls_before_class s i f e = λ h. some_is_not (first_without_code s) i e h.1

want_of_memory_is_none : (s : Sketch) → ¬ IsSketchFault s (Refused class.Memory)
want_of_memory_is_none s = λ h. h.2 refl

abstract_calls : IsSketchFault (m_sketch 1033) (CallsWithoutCode 0)
unfolding enter number
abstract_calls = (refl, refl)

m_is_spelled : IsSpelled (m_sketch 9) m.bytes
unfolding enter number
m_is_spelled = record { fits = refl; coded = refl; spelled = refl }
