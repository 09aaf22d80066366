-- The Code attribute of a method holds the calls of the sketch, and nothing else can be read of it.
use Rattle.std.proofs.Common.{◌≡◌, ℕ, ◌+◌, ◌<◌, ◌≤◌, ◌^◌, ◌&&◌, not, Bool, true, false, List, [], ◌∷◌, ◌++◌, length, Option, Some}
use Rattle.std.proofs.Common.{None, refl, sym, ap, ◌∙◌, subst, arith, if◌then◌else◌, ◌==◌}
use Rattle.std.specs.Prelude.{codes}
use Rattle.std.specs.Option.{option_map_or}
use Rattle.std.specs.List.{AllByRecursion}
use Rattle.std.specs.Str.{bytes_eq}
use Rattle.std.proofs.lemmas.Bool.{false≢true, ltb-false, eqb-true}
use Rattle.std.proofs.lemmas.List.{nil_from_length}
use Rattle.jl_pool.specs.declared.constant.Constant.{Constant}
use Rattle.jl_pool.specs.Numbers.{u2, u4, counted}
use Rattle.jl_pool.specs.Pools.{Pool, places, text_at}
use Rattle.jl_pool.proofs.PoolLaws.{u2_one, u4_one}
use Rattle.jl_code.specs.declared.instruction.Instruction.{Instruction}
use Rattle.jl_class.specs.Site.{Site}
use Rattle.jl_code.specs.Instructions.{instruction_text, MayStand}
use Rattle.jl_code.specs.Codes.{code_bytes, MayStandFrom, site_list, site_at, sites_from}
use Rattle.jl_code.proofs.CodeFaultLaws.{one_list}
use Rattle.jl_classfile.specs.declared.body.Attribute.{Attribute}
use Rattle.jl_classfile.specs.Layouts.{attribute_text}
use Rattle.jl_classfile.specs.CodeAttributes.{HoldsCode}
use Rattle.jl_classfile.specs.Conditions.{is_text, attributes_of, codes_of, HasCode}
use Rattle.jl_classfile.specs.Shown.{sites_of}
use Rattle.jl_sketch.specs.declared.sketch.SketchMethod.{SketchMethod}
use Rattle.jl_sketch.specs.declared.sketch.Call.{Call}
use Rattle.jl_sketch.specs.declared.sketch.Call.TheVariants.{Virtual, Special, Static, Interface, Dynamic}
use Rattle.jl_sketch.specs.Constants.{call_constant, has_code}
use Rattle.jl_sketch.specs.Layouts.{call_instruction, instructions, code_info, code_attribute, method_of}
use Rattle.jl_sketch.specs.Faults.{is_long, calls_without_code}
use Rattle.jl_sketch.specs.Names.{NamesCall, NamesMethod, call_kind, call_operand, call_size, sites_of_calls}
use Rattle.jl_sketch.proofs.Sizes.{number_below}
use Rattle.jl_sketch.proofs.SketchLies.{short_code}

-- ---- the instructions of a sketch stand one after another

call_stands : (cs : List Constant) (pc : ℕ) (call : Call) → length cs ≤ 65534 → MayStand pc (call_instruction cs call)
call_stands cs pc (Virtual m) few = (refl, number_below cs (call_constant cs (Virtual m)) few)
call_stands cs pc (Special itf m) few = (refl, number_below cs (call_constant cs (Special itf m)) few)
call_stands cs pc (Static itf m) few = (refl, number_below cs (call_constant cs (Static itf m)) few)
call_stands cs pc (Interface m) few = (refl, number_below cs (call_constant cs (Interface m)) few)
call_stands cs pc (Dynamic name ty) few = (refl, number_below cs (call_constant cs (Dynamic name ty)) few)

stand : (cs : List Constant) (calls : List Call) (pc : ℕ) → length cs ≤ 65534 → MayStandFrom pc (instructions cs calls)
stand cs [] pc few = (refl, tt)
stand cs (call ∷ calls) pc few = (call_stands cs pc call few, stand cs calls (pc + length (instruction_text (call_instruction cs call))) few)

-- ---- what the attribute holds

fronts_are : (a b x y : List ℕ) → length a ≡ length b → a ++ x ≡ b ++ y → a ≡ b
fronts_are [] [] x y same e = refl
fronts_are [] (n ∷ b) x y same e = absurd (omega (arith, same))
fronts_are (m ∷ a) [] x y same e = absurd (omega (arith, same))
fronts_are (m ∷ a) (n ∷ b) x y same e =
    let later : a ++ x ≡ b ++ y = cc in
    let first : m ≡ n = cc in
    let rest = fronts_are a b x y (omega (arith, same)) later in
    cc (first, rest)

held_is : (ours theirs : List ℕ) → length ours < 2 ^ 32 → HoldsCode (code_info ours) theirs → ours ≡ theirs
held_is ours theirs small h =
    let last : List ℕ = u2 h.exceptions ++ (h.table ++ counted attribute_text h.attributes) in
    let none : 0 < 2 ^ 16 = omega arith in
    let few : length theirs < 2 ^ 32 = omega (arith, h.few) in
    let stack = u2_one 0 h.max_stack (u2 0 ++ (u4 (length ours) ++ (ours ++ (u2 0 ++ u2 0)))) (u2 h.max_locals ++ (u4 (length theirs) ++ (theirs ++ last))) none
    h.max_stack_size h.spelled in
    let locals = u2_one 0 h.max_locals (u4 (length ours) ++ (ours ++ (u2 0 ++ u2 0))) (u4 (length theirs) ++ (theirs ++ last)) none h.max_locals_size stack.1 in
    let size = u4_one (length ours) (length theirs) (ours ++ (u2 0 ++ u2 0)) (theirs ++ last) small few locals.1 in
    fronts_are ours theirs (u2 0 ++ u2 0) last size.0 size.1

-- ---- the sites of the calls

call_site : (cs : List Constant) (pc : ℕ) (call : Call) → NamesCall cs call
    → site_at (places cs) pc (call_instruction cs call) ≡ record { pc = pc; kind = call_kind call; operand = call_operand call } ∷ []
call_site cs pc (Virtual m) h = ap (site_list pc 182) h
call_site cs pc (Special itf m) h = ap (site_list pc 183) h
call_site cs pc (Static itf m) h = ap (site_list pc 184) h
call_site cs pc (Interface m) h = ap (site_list pc 185) h
call_site cs pc (Dynamic name ty) h = ap (site_list pc 186) h

size_is : (cs : List Constant) (call : Call) → length (instruction_text (call_instruction cs call)) ≡ call_size call
size_is cs (Virtual m) = refl
size_is cs (Special itf m) = refl
size_is cs (Static itf m) = refl
size_is cs (Interface m) = refl
size_is cs (Dynamic name ty) = refl

sites_are : (cs : List Constant) (calls : List Call) (pc : ℕ) → AllByRecursion (NamesCall cs) calls
    → sites_from (places cs) pc (instructions cs calls) ≡ sites_of_calls pc calls
sites_are cs [] pc h = refl
sites_are cs (call ∷ calls) pc h =
    let size : ℕ = length (instruction_text (call_instruction cs call)) in
    let first : Site = record { pc = pc; kind = call_kind call; operand = call_operand call } in
    ap (λ (sites : List Site). sites ++ sites_from (places cs) (pc + size) (instructions cs calls)) (call_site cs pc call h.0)
    ∙ ap (λ (n : ℕ). first ∷ sites_from (places cs) (pc + n) (instructions cs calls)) (size_is cs call)
    ∙ ap (λ (sites : List Site). first ∷ sites) (sites_are cs calls (pc + call_size call) h.1)

-- ---- a method

pub named : (pool : Pool) (n : ℕ) (text name : List ℕ) → text_at pool n ≡ Some text → is_text pool n name ≡ bytes_eq text name
named pool n text name e = ap (λ (o : Option (List ℕ)). option_map_or (λ t. bytes_eq t name) o false) e

code_found : (pool : Pool) (a : Attribute) (code : Option (List Instruction)) → text_at pool a.name ≡ Some (codes "Code")
    → HasCode pool (attributes_of pool (codes "Code") (a ∷ [])) code → HasCode pool (a ∷ []) code
code_found pool a code e h = subst (λ (b : Bool). HasCode pool (if b then a ∷ [] else []) code) (named pool a.name (codes "Code") (codes "Code") e) h

code_below : (cs : List Constant) (calls : List Call) → is_long calls ≡ false → length (code_bytes (instructions cs calls)) < 2 ^ 32
code_below cs calls h =
    let few = ltb-false 65535 (length calls) h in
    let code = short_code cs calls in
    omega (arith, few, code)

coded_sites : (cs : List Constant) (calls : List Call) (code : Option (List Instruction)) → length cs ≤ 65534 → is_long calls ≡ false
    → AllByRecursion (NamesCall cs) calls → HasCode (places cs) (code_attribute cs calls ∷ []) code
    → sites_of (places cs) code ≡ sites_of_calls 0 calls
coded_sites cs calls None few short names h = absurd h
coded_sites cs calls (Some is) few short names h =
    let bytes : code_bytes (instructions cs calls) ≡ code_bytes is = held_is (code_bytes (instructions cs calls)) (code_bytes is)
    (code_below cs calls short) h.holds in
    let same : is ≡ instructions cs calls = one_list 0 is (instructions cs calls) h.code.places (stand cs calls 0 few) (sym bytes) in
    ap (sites_from (places cs) 0) same ∙ sites_are cs calls 0 names

no_sites : (pool : Pool) (code : Option (List Instruction)) → HasCode pool [] code → sites_of pool code ≡ []
no_sites pool None h = refl
no_sites pool (Some is) h = absurd h

not_false : (b : Bool) → not b ≡ false → b ≡ true
not_false true h = refl
not_false false h = absurd (false≢true (sym h))

no_calls : (m : SketchMethod) → has_code m.flags ≡ false → calls_without_code m ≡ false → m.calls ≡ []
no_calls m e h =
    let some : not (length m.calls == 0) ≡ false = sym (ap (λ (b : Bool). not b && not (length m.calls == 0)) e) ∙ h in
    nil_from_length m.calls (eqb-true (length m.calls) 0 (not_false (length m.calls == 0) some))

-- the sites that are read in a method are those of its calls
pub method_sites : (cs : List Constant) (m : SketchMethod) (code : Option (List Instruction)) → length cs ≤ 65534 → is_long m.calls ≡ false
    → calls_without_code m ≡ false → NamesMethod cs m → HasCode (places cs) (codes_of (places cs) (method_of cs m)) code
    → sites_of (places cs) code ≡ sites_of_calls 0 m.calls
method_sites cs m code few short without h k = by_code (has_code m.flags) refl
  where
    attribute : Attribute
    attribute = code_attribute cs m.calls

    holding : (b : Bool) → has_code m.flags ≡ b → HasCode (places cs) (attributes_of (places cs) (codes "Code") (if b then attribute ∷ [] else [])) code
    holding b e = subst (λ (c : Bool). HasCode (places cs) (attributes_of (places cs) (codes "Code") (if c then attribute ∷ [] else [])) code) e k

    by_code : (b : Bool) → has_code m.flags ≡ b → sites_of (places cs) code ≡ sites_of_calls 0 m.calls
    by_code true e = coded_sites cs m.calls code few short h.calls (code_found (places cs) attribute code (h.code e) (holding true e))
    by_code false e = no_sites (places cs) code (holding false e) ∙ ap (sites_of_calls 0) (sym (no_calls m e without))
