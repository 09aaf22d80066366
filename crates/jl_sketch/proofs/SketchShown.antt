-- A class file that is read from a sketch's bytes shows the sketch.
use Rattle.std.proofs.Common.{◌≡◌, ℕ, ◌+◌, ◌≤◌, Bool, true, false, cond, not, ◌||◌, nat_lt, List, [], ◌∷◌, length, map, Some, None, refl, sym}
use Rattle.std.proofs.Common.{ap, ◌∙◌, subst, arith, suc}
use Rattle.std.specs.Prelude.{Option, IsFalse}
use Rattle.std.specs.Option.{option_map_or, option_and_then, unwrap_or}
use Rattle.std.specs.List.{list_any, prefix_len, position, AllByRecursion}
use Rattle.std.proofs.lemmas.Bool.{or_parts, ltb-false}
use Rattle.std.proofs.lemmas.Bool.Decides.{nat_tests}
use Rattle.jl_names.proofs.Tests.{All-front, All-back}
use Rattle.jl_pool.specs.declared.constant.Constant.{Constant}
use Rattle.jl_pool.specs.Pools.{Pool, places, class_at}
use Rattle.jl_code.specs.declared.instruction.Instruction.{Instruction}
use Rattle.jl_class.specs.Site.{Site}
use Rattle.jl_class.specs.Class.{ClassFile, Method as ShownMethod}
use Rattle.jl_classfile.specs.Layouts.{Layout, file_text}
use Rattle.jl_classfile.specs.Parts.{Parts}
use Rattle.jl_classfile.specs.Conditions.{IsClassNumber, superclass_numbers, class_numbers, Nest, HasCode, codes_of, HaveCodes}
use Rattle.jl_classfile.specs.ClassFiles.{pool_of, IsClass}
use Rattle.jl_classfile.specs.Shown.{name_or_nothing, sites_of, shown, shown_method, shown_methods}
use Rattle.jl_class.specs.Kept.{text_or_nothing}
use Rattle.jl_sketch.specs.declared.sketch.Sketch.{Sketch}
use Rattle.jl_sketch.specs.declared.sketch.SketchMethod.{SketchMethod}
use Rattle.jl_sketch.specs.Constants.{text_number, class_number, sketch_constants}
use Rattle.jl_sketch.specs.Layouts.{method_of, sketch_layout}
use Rattle.jl_sketch.specs.Faults.{is_long, is_long_call, is_long_method, is_long_sketch, is_too_big, calls_without_code, first_without_code, IsSpelled}
use Rattle.jl_sketch.specs.Names.{AreFlags, NamesMethod, NamesParts, sites_of_calls, method_shown, class_of}
use Rattle.jl_sketch.proofs.Sizes.{IsShort, short}
use Rattle.jl_sketch.proofs.SketchNames.{parts_named}
use Rattle.jl_sketch.proofs.SketchLies.{layout_is}
use Rattle.jl_sketch.proofs.SketchTexts.{name_is, names_are, super_is}
use Rattle.jl_sketch.proofs.SketchCodes.{method_sites}
use Rattle.jl_sketch.proofs.SketchNest.{host_is, members_are}

-- ---- if no item passes, none is first

one_less : (n m : ℕ) → nat_lt (1 + n) (suc m) ≡ false → nat_lt n m ≡ false
one_less n m h = grind (arith, nat_tests)

never : (m : ℕ) → nat_lt 0 (suc m) ≡ false → ⊥
never m h = absurd (omega (arith, ltb-false 0 (suc m) h))

none_pass : {X : Type 0} (p : X → Bool) (xs : List X) → nat_lt (prefix_len (λ x. not (p x)) xs) (length xs) ≡ false → list_any p xs ≡ false
none_pass p [] h = refl
none_pass p (x ∷ xs) h = by_test (λ k. none_pass p xs k) (p x) refl
  where
    before : Bool → ℕ
    before b = cond (not b) (1 + prefix_len (λ y. not (p y)) xs) 0

    by_test : (nat_lt (prefix_len (λ y. not (p y)) xs) (length xs) ≡ false → list_any p xs ≡ false) → (b : Bool) → p x ≡ b → (p x || list_any p xs) ≡ false
    by_test more true e = absurd (never (length xs) (sym (ap (λ (b : Bool). nat_lt (before b) (suc (length xs))) e) ∙ h))
    by_test more false e =
        let over : nat_lt (1 + prefix_len (λ y. not (p y)) xs) (suc (length xs)) ≡ false = sym (ap (λ (b : Bool). nat_lt (before b) (suc (length xs))) e) ∙ h in
        ap (λ (b : Bool). b || list_any p xs) e ∙ more (one_less (prefix_len (λ y. not (p y)) xs) (length xs) over)

none_first : {X : Type 0} (p : X → Bool) (xs : List X) → position p xs ≡ None → list_any p xs ≡ false
none_first p xs h = by_test (nat_lt first (length xs)) refl
  where
    first : ℕ
    first = prefix_len (λ x. not (p x)) xs

    found : cond (nat_lt first (length xs)) (Some first) None ≡ None
    found = h

    by_test : (b : Bool) → nat_lt first (length xs) ≡ b → list_any p xs ≡ false
    by_test true e = absurd (let clash : Some first ≡ None = sym (ap (λ (b : Bool). cond b (Some first) None) e) ∙ found in cc)
    by_test false e = none_pass p xs e

-- ---- methods

make_method : ℕ → List ℕ → List ℕ → List Site → ShownMethod
make_method flags name ty sites = record { flags = flags; name = name; ty = ty; sites = sites }

method_is : (cs : List Constant) (m : SketchMethod) (code : Option (List Instruction)) → length cs ≤ 65534 → is_long_method m ≡ false
    → calls_without_code m ≡ false → NamesMethod cs m → HasCode (places cs) (codes_of (places cs) (method_of cs m)) code
    → shown_method (places cs) (method_of cs m) code ≡ method_shown m
unfolding make_method
method_is cs m code few short without h k =
    let a = or_parts (is_long m.name) (is_long m.ty || (is_long m.calls || list_any is_long_call m.calls)) short in
    let b = or_parts (is_long m.ty) (is_long m.calls || list_any is_long_call m.calls) a.1 in
    let c = or_parts (is_long m.calls) (list_any is_long_call m.calls) b.1 in
    let name : text_or_nothing (places cs) (text_number cs m.name) ≡ m.name = ap (λ (o : Option (List ℕ)). unwrap_or o []) h.name in
    let ty : text_or_nothing (places cs) (text_number cs m.ty) ≡ m.ty = ap (λ (o : Option (List ℕ)). unwrap_or o []) h.descriptor in
    let sites : sites_of (places cs) code ≡ sites_of_calls 0 m.calls = method_sites cs m code few c.0 without h k in
    ap (λ (t : List ℕ). make_method m.flags t (text_or_nothing (places cs) (text_number cs m.ty)) (sites_of (places cs) code)) name
    ∙ ap (λ (t : List ℕ). make_method m.flags m.name t (sites_of (places cs) code)) ty
    ∙ ap (λ (l : List Site). make_method m.flags m.name m.ty l) sites

methods_are : (cs : List Constant) (ms : List SketchMethod) (codes : List (Option (List Instruction))) → length cs ≤ 65534 → list_any is_long_method ms ≡ false
    → list_any calls_without_code ms ≡ false → AllByRecursion (NamesMethod cs) ms
    → HaveCodes (places cs) (map (method_of cs) ms) codes → shown_methods (places cs) (map (method_of cs) ms) codes ≡ map method_shown ms
methods_are cs [] codes few short without h k = refl
methods_are cs (m ∷ ms) [] few short without h k = absurd k
methods_are cs (m ∷ ms) (code ∷ codes) few short without h k =
    let s = or_parts (is_long_method m) (list_any is_long_method ms) short in
    let w = or_parts (calls_without_code m) (list_any calls_without_code ms) without in
    ap (λ (one : ShownMethod). one ∷ shown_methods (places cs) (map (method_of cs) ms) codes) (method_is cs m code few s.0 w.0 h.0 k.0)
    ∙ ap (λ (rest : List ShownMethod). method_shown m ∷ rest) (methods_are cs ms codes few s.1 w.1 h.1 k.1)

-- ---- the class

make : List ℕ → ℕ → Option (List ℕ) → List (List ℕ) → Option (List ℕ) → List (List ℕ) → List ShownMethod → ClassFile
make name flags superclass interfaces host members methods = record {
  name = name;
  flags = flags;
  superclass = superclass;
  interfaces = interfaces;
  nest_host = host;
  nest_members = members;
  methods = methods;
}

made : (f : ClassFile) → make f.name f.flags f.superclass f.interfaces f.nest_host f.nest_members f.methods ≡ f
unfolding make
made f = refl

same_class : (f g : ClassFile) → f.name ≡ g.name → f.flags ≡ g.flags → f.superclass ≡ g.superclass → f.interfaces ≡ g.interfaces
    → f.nest_host ≡ g.nest_host → f.nest_members ≡ g.nest_members → f.methods ≡ g.methods → f ≡ g
same_class f g name flags superclass interfaces host members methods =
    let same : make f.name f.flags f.superclass f.interfaces f.nest_host f.nest_members f.methods ≡ make g.name g.flags g.superclass g.interfaces g.nest_host
    g.nest_members g.methods = cc in
    sym (made f) ∙ same ∙ made g

pub sketch_shown : (s : Sketch) (p : Parts) → AreFlags s → IsFalse (is_too_big s) → first_without_code s ≡ None → IsClass (file_text (sketch_layout s)) p
    → shown p ≡ class_of s
sketch_shown s p f h without k =
    let e : p.layout ≡ sketch_layout s = layout_is s p f h k in
    let cs : List Constant = sketch_constants s in
    let pool : Pool = places cs in
    let named : NamesParts s = parts_named s in
    let sizes = or_parts (is_long_sketch s) (nat_lt 65534 (length cs)) h in
    let few : length cs ≤ 65534 = ltb-false 65534 (length cs) sizes.1 in
    let small : IsShort s = short s sizes.0 in
    let links = subst (λ (l : Layout). AllByRecursion (IsClassNumber (pool_of l)) (class_numbers l.body)) e k.links.classes in
    let codes = subst (λ (l : Layout). HaveCodes (pool_of l) l.body.methods p.codes) e k.codes in
    let nest = subst (λ (l : Layout). Nest l.major (pool_of l) l.body p.nest_host p.nest_members) e k.nest in
    let super : ℕ = option_map_or (class_number cs) s.superclass 0 in
    let interfaces : List ℕ = map (class_number cs) s.interfaces in
    let short_members = or_parts (is_long s.members) (list_any is_long s.members) small.members in
    same_class (shown p) (class_of s)
    (ap (λ (l : Layout). name_or_nothing (pool_of l) l.body.this_class) e ∙ name_is pool (class_number cs s.name) s.name named.this_class links.0)
    (ap (λ (l : Layout). l.body.flags) e)
    (ap (λ (l : Layout). class_at (pool_of l) l.body.super_class) e
    ∙ super_is pool super s.superclass named.super_class (All-front (IsClassNumber pool) (superclass_numbers super) interfaces links.1) refl)
    (ap (λ (l : Layout). map (name_or_nothing (pool_of l)) l.body.interfaces) e
    ∙ names_are pool interfaces s.interfaces named.interfaces (All-back (IsClassNumber pool) (superclass_numbers super) interfaces links.1))
    (ap (λ (l : Layout). option_and_then (class_at (pool_of l)) p.nest_host) e
    ∙ host_is cs s.host s.members p.nest_host few named.host named.members nest.host_holds)
    (ap (λ (l : Layout). map (name_or_nothing (pool_of l)) (unwrap_or p.nest_members [])) e
    ∙ members_are cs s.host s.members p.nest_members few short_members.0 named.host named.members nest.members_hold)
    (ap (λ (l : Layout). shown_methods (pool_of l) l.body.methods p.codes) e
    ∙ methods_are cs s.methods p.codes few small.each_method (none_first calls_without_code s.methods without) named.methods codes)

pub written_shown : (s : Sketch) (bytes : List ℕ) (p : Parts) → AreFlags s → IsSpelled s bytes → IsClass bytes p → shown p ≡ class_of s
written_shown s bytes p f h k = sketch_shown s p f h.fits h.coded (subst (λ (text : List ℕ). IsClass text p) h.spelled k)
