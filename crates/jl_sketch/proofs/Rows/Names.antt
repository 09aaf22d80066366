-- What calls and numbers name, and what is shown of a sketch.
use Rattle.std.specs.Prelude.{◌≡◌, ℕ, Bool, true, false, List, [], ◌∷◌, map, codes, Option, Some, None, refl}
use Rattle.std.proofs.Common.{arith}
use Rattle.jl_pool.specs.declared.constant.Constant.TheVariants.{Utf8}
use Rattle.jl_class.specs.declared.site.Kind.TheVariants as kind
use Rattle.jl_class.specs.declared.site.Operand.{Operand}
use Rattle.jl_class.specs.declared.site.Operand.TheVariants.{Method, CallSite}
use Rattle.jl_classfile.specs.Shown.{shown}
use Rattle.jl_classfile.proofs.Rows.M as m
use Rattle.jl_sketch.specs.declared.sketch.SketchMethod.{SketchMethod}
use Rattle.jl_sketch.specs.declared.sketch.Call.{Call}
use Rattle.jl_sketch.specs.declared.sketch.Call.TheVariants.{Virtual, Special, Static, Interface, Dynamic}
use Rattle.jl_sketch.specs.Constants.{enter, number, sketch_constants}
use Rattle.jl_sketch.specs.Names.{call_operand, NamesCall, NamesMethod, NamesHost, NamesMembers, AreFlags, call_kind, call_size, sites_of_calls, class_of}
use Rattle.jl_sketch.proofs.Rows.Sketches.{f_of_A, m_sketch, all_parts}

-- ---- calls

abbrev calls : List Call
calls = Virtual f_of_A ∷ Special false f_of_A ∷ Special true f_of_A ∷ Static false f_of_A ∷ Static true f_of_A ∷ Interface f_of_A
    ∷ Dynamic (codes "f") (codes "()V") ∷ []

abbrev called : Bool → Operand (List ℕ)
called itf = Method (record { itf = itf; owner = codes "A"; name = codes "f"; ty = codes "()V" })

operands : map call_operand calls
    ≡ called false ∷ called false ∷ called true ∷ called false ∷ called true ∷ called true
    ∷ CallSite (record { bootstrap = 0; name = codes "f"; ty = codes "()V" }) ∷ []
operands = refl

kinds : map call_kind calls ≡ kind.Virtual ∷ kind.Special ∷ kind.Special ∷ kind.Static ∷ kind.Static ∷ kind.Interface ∷ kind.Dynamic ∷ []
kinds = refl

sizes : map call_size calls ≡ 3 ∷ 3 ∷ 3 ∷ 3 ∷ 3 ∷ 5 ∷ 5 ∷ []
sizes = refl

pcs : map (λ site. site.pc) (sites_of_calls 0 calls) ≡ 0 ∷ 3 ∷ 6 ∷ 9 ∷ 12 ∷ 15 ∷ 20 ∷ []
pcs = refl

sites : sites_of_calls 7 (Interface f_of_A ∷ Static false f_of_A ∷ [])
    ≡ record { pc = 7; kind = kind.Interface; operand = called true } ∷ record { pc = 12; kind = kind.Static; operand = called false } ∷ []
sites = refl

-- ---- what is shown

m_is_shown : class_of (m_sketch 9) ≡ shown m.parts
m_is_shown = refl

parts_are_shown : class_of (all_parts 0x0401) ≡ record {
  name = codes "N";
  flags = 0x0421;
  superclass = Some (codes "S");
  interfaces = codes "I" ∷ codes "J" ∷ [];
  nest_host = Some (codes "H");
  nest_members = codes "K" ∷ codes "L" ∷ [];
  methods = record { flags = 0x0401; name = codes "m"; ty = codes "()V"; sites = [] } ∷ [];
}
parts_are_shown = refl

-- ---- flags

largest_flags : AreFlags (record (m_sketch 65535) { flags = 65535 })
largest_flags = (omega arith, (omega arith, tt))

large_flags : ¬ AreFlags (record (m_sketch 9) { flags = 65536 })
large_flags = λ h. absurd (omega (arith, h.0))

large_flags_of_a_method : ¬ AreFlags (m_sketch 65536)
large_flags_of_a_method = λ h. absurd (omega (arith, h.1.0))

-- ---- numbers that name nothing

missing : {X : Type 0} (x : X) (o : Option X) → o ≡ None → o ≡ Some x → ⊥
missing x o n e = absurd cc

missing_first : {X : Type 0} (x : X) (o : Option X) → o ≡ None → o ∷ [] ≡ Some x ∷ [] → ⊥
missing_first x o n e = absurd cc

m_names_its_call : NamesCall (sketch_constants (m_sketch 9)) (Virtual f_of_A)
unfolding enter number
m_names_its_call = refl

m_names_no_other : ¬ NamesCall (sketch_constants (m_sketch 9)) (Static true f_of_A)
unfolding enter number
m_names_no_other = λ e. missing (called true) _ refl e

abbrev run : SketchMethod
run = record { name = codes "run"; ty = codes "()V"; flags = 9; calls = Virtual f_of_A ∷ [] }

without_its_name : ¬ NamesMethod [] run
unfolding number
without_its_name = λ h. missing (codes "run") _ refl h.name

without_its_descriptor : ¬ NamesMethod (Utf8 (codes "run") ∷ []) run
unfolding number
without_its_descriptor = λ h. missing (codes "()V") _ refl h.descriptor

without_code : ¬ NamesMethod (Utf8 (codes "run") ∷ Utf8 (codes "()V") ∷ []) run
unfolding number
without_code = λ h. missing (codes "Code") _ refl (h.code refl)

without_its_call : ¬ NamesMethod (Utf8 (codes "run") ∷ Utf8 (codes "()V") ∷ Utf8 (codes "Code") ∷ []) run
unfolding number
without_its_call = λ h. missing (called false) _ refl h.calls.0

without_nest_host : ¬ NamesHost [] (codes "Out")
unfolding number
without_nest_host = λ h. missing (codes "NestHost") _ refl h.0

without_host : ¬ NamesHost (Utf8 (codes "NestHost") ∷ []) (codes "Out")
unfolding number
without_host = λ h. missing (codes "Out") _ refl h.1

without_nest_members : ¬ NamesMembers [] (codes "In" ∷ [])
unfolding number
without_nest_members = λ h. missing (codes "NestMembers") _ refl h.0

without_members : ¬ NamesMembers (Utf8 (codes "NestMembers") ∷ []) (codes "In" ∷ [])
unfolding number
without_members = λ h. missing_first (codes "In") _ refl h.1
