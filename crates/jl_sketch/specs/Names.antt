-- What the numbers of a sketch's class file name, and what it shows.
use Rattle.std.specs.Prelude.{◌≡◌, ◌+◌, ◌<◌, ◌^◌, ℕ, Bool, true, false, List, [], ◌∷◌, map, codes, Some, IfSome, ⊤}
use Rattle.std.specs.List.{AllByRecursion}
use Rattle.jl_pool.specs.declared.constant.Constant.{Constant}
use Rattle.jl_pool.specs.Pools.{places, text_at, class_text_at}
use Rattle.jl_class.specs.declared.site.Kind.{Kind}
use Rattle.jl_class.specs.declared.site.Kind.TheVariants as kind
use Rattle.jl_class.specs.declared.site.Operand.{Operand}
use Rattle.jl_class.specs.declared.site.Operand.TheVariants.{Method, CallSite}
use Rattle.jl_class.specs.Site.{Site}
use Rattle.jl_class.specs.Operands.{operand_at}
use Rattle.jl_class.specs.Class.{ClassFile, Method as ShownMethod}
use Rattle.jl_classfile.specs.ClassFiles.{pool_of}
use Rattle.jl_sketch.specs.declared.sketch.Sketch.{Sketch}
use Rattle.jl_sketch.specs.declared.sketch.SketchMethod.{SketchMethod}
use Rattle.jl_sketch.specs.declared.sketch.MethodName.{MethodName}
use Rattle.jl_sketch.specs.declared.sketch.Call.{Call}
use Rattle.jl_sketch.specs.declared.sketch.Call.TheVariants.{Virtual, Special, Static, Interface, Dynamic}
use Rattle.jl_sketch.specs.Constants.{number, text_number, class_number, call_constant, has_code, sketch_constants}
use Rattle.jl_sketch.specs.Layouts.{method_of, sketch_layout}

abbrev pub method_operand : Bool → MethodName → Operand (List ℕ)
method_operand itf m = Method (record { itf = itf; owner = m.owner; name = m.name; ty = m.ty })

-- what a call names
abbrev pub call_operand : Call → Operand (List ℕ)
call_operand (Virtual m) = method_operand false m
call_operand (Special itf m) = method_operand itf m
call_operand (Static itf m) = method_operand itf m
call_operand (Interface m) = method_operand true m
call_operand (Dynamic name ty) = CallSite (record { bootstrap = 0; name = name; ty = ty })

-- the number of a call's instruction names what the call does
abbrev pub NamesCall : List Constant → Call → Type 0
NamesCall cs call = operand_at (places cs) (number cs (call_constant cs call)) ≡ Some (call_operand call)

-- the numbers of a method, of its Code attribute and of its calls name what the method says
pub record NamesMethod (cs : List Constant) (m : SketchMethod) : Type 0 where
  pub name : text_at (places cs) (method_of cs m).name ≡ Some m.name
  pub descriptor : text_at (places cs) (method_of cs m).descriptor ≡ Some m.ty
  pub code : has_code m.flags ≡ true → text_at (places cs) (text_number cs (codes "Code")) ≡ Some (codes "Code")
  pub calls : AllByRecursion (NamesCall cs) m.calls

abbrev pub NamesHost : List Constant → List ℕ → Type 0
NamesHost cs host = (text_at (places cs) (text_number cs (codes "NestHost")) ≡ Some (codes "NestHost"))
    × (class_text_at (places cs) (class_number cs host) ≡ Some host)

abbrev pub NamesMembers : List Constant → List (List ℕ) → Type 0
NamesMembers cs [] = ⊤
NamesMembers cs (m ∷ ms) = (text_at (places cs) (text_number cs (codes "NestMembers")) ≡ Some (codes "NestMembers"))
    × (map (class_text_at (places cs)) (map (class_number cs) (m ∷ ms)) ≡ map Some (m ∷ ms))

-- flags are of their size
abbrev pub AreFlags : Sketch → Type 0
AreFlags s = (s.flags < 2 ^ 16) × AllByRecursion (λ m. m.flags < 2 ^ 16) s.methods

-- every number of the layout names what the sketch says
pub record NamesParts (s : Sketch) : Type 0 where
  pub this_class : class_text_at (pool_of (sketch_layout s)) (sketch_layout s).body.this_class ≡ Some s.name
  pub super_class : class_text_at (pool_of (sketch_layout s)) (sketch_layout s).body.super_class ≡ s.superclass
  pub interfaces : map (class_text_at (pool_of (sketch_layout s))) (sketch_layout s).body.interfaces ≡ map Some s.interfaces
  pub methods : AllByRecursion (NamesMethod (sketch_constants s)) s.methods
  pub host : IfSome s.host (NamesHost (sketch_constants s))
  pub members : NamesMembers (sketch_constants s) s.members

-- ---- what is shown of it

abbrev pub call_kind : Call → Kind
call_kind (Virtual m) = kind.Virtual
call_kind (Special itf m) = kind.Special
call_kind (Static itf m) = kind.Static
call_kind (Interface m) = kind.Interface
call_kind (Dynamic name ty) = kind.Dynamic

-- how many bytes a call takes (JVMS 6.5)
abbrev pub call_size : Call → ℕ
call_size (Virtual m) = 3
call_size (Special itf m) = 3
call_size (Static itf m) = 3
call_size (Interface m) = 5
call_size (Dynamic name ty) = 5

-- the calls as invocations, one after another from this pc on
abbrev pub sites_of_calls : ℕ → List Call → List Site
sites_of_calls pc [] = []
sites_of_calls pc (call ∷ calls) = record { pc = pc; kind = call_kind call; operand = call_operand call } ∷ sites_of_calls (pc + call_size call) calls

abbrev pub method_shown : SketchMethod → ShownMethod
method_shown m = record { flags = m.flags; name = m.name; ty = m.ty; sites = sites_of_calls 0 m.calls }

-- the class file of a sketch, as it is read again
abbrev pub class_of : Sketch → ClassFile
class_of s = record {
  name = s.name;
  flags = s.flags;
  superclass = s.superclass;
  interfaces = s.interfaces;
  nest_host = s.host;
  nest_members = s.members;
  methods = map method_shown s.methods;
}
