-- The answer to a class file, as JSON.
use Rattle.std.specs.Prelude.{◌≡◌, ℕ, List, map, codes}
use Rattle.serde_json.specs.Data.{Data, number, unsigned, string, array, object, no_members, member}
use Rattle.serde_json.specs.View.{items_of}
use Rattle.serde_json.specs.Written.{compact_text}
use Rattle.jl_class.specs.Class.{ClassFile, Method}
use Rattle.jl_pool.specs.declared.reference.Reference.{Reference}
use Rattle.jl_pool.specs.declared.reference.CallSiteSpecifier.{CallSiteSpecifier}
use Rattle.jl_class.specs.declared.site.Kind.{Kind}
use Rattle.jl_class.specs.declared.site.Kind.TheVariants.{Virtual, Special, Static}
use Rattle.jl_class.specs.declared.site.Kind.TheVariants.{Interface, Dynamic}
use Rattle.jl_class.specs.declared.site.Operand.{Operand}
use Rattle.jl_class.specs.declared.site.Operand.TheVariants as operand
use Rattle.jl_class.specs.Site.{Site}
use Rattle.jl_json.specs.Names.{SpellsNames}

abbrev pub number_data : ℕ → Data
number_data n = number (unsigned n)

-- the name of the instruction (JVMS SE 17 §6.5)
abbrev pub instruction_name : Kind → List ℕ
instruction_name Virtual = codes "invokevirtual"
instruction_name Special = codes "invokespecial"
instruction_name Static = codes "invokestatic"
instruction_name Interface = codes "invokeinterface"
instruction_name Dynamic = codes "invokedynamic"

-- ---- by the text of each name

module _ (text_of : List ℕ → List ℕ) where
  -- a name, as text
  abbrev pub name_data : List ℕ → Data
  name_data name = string (text_of name)

  abbrev pub call_data : ℕ → Kind → Reference (List ℕ) → Data
  call_data pc kind r =
      object (member (codes "kind") (string (instruction_name kind))
      (member (codes "name") (name_data r.name)
      (member (codes "of") (name_data r.owner)
      (member (codes "pc") (number_data pc)
      (member (codes "type") (name_data r.ty) no_members)))))

  abbrev pub call_site_data : ℕ → Kind → CallSiteSpecifier (List ℕ) → Data
  call_site_data pc kind s =
      object (member (codes "bootstrap") (number_data s.bootstrap)
      (member (codes "kind") (string (instruction_name kind))
      (member (codes "name") (name_data s.name)
      (member (codes "pc") (number_data pc)
      (member (codes "type") (name_data s.ty) no_members)))))

  abbrev pub operand_data : ℕ → Kind → Operand (List ℕ) → Data
  operand_data pc kind (operand.Method r) = call_data pc kind r
  operand_data pc kind (operand.CallSite s) = call_site_data pc kind s

  unfoldable pub site_data : Site → Data
  site_data s = operand_data s.pc s.kind s.operand

  unfoldable pub method_data : Method → Data
  method_data m =
      object (member (codes "flags") (number_data m.flags)
      (member (codes "name") (name_data m.name)
      (member (codes "sites") (array (items_of (map site_data m.sites)))
      (member (codes "type") (name_data m.ty) no_members))))

  -- the name of the class, and its methods with their invocations
  unfoldable pub class_data : ClassFile → Data
  class_data file =
      object (member (codes "class") (name_data file.name)
      (member (codes "methods") (array (items_of (map method_data file.methods))) no_members))

-- the text of that, with each name spelled
abbrev pub IsClassText : ClassFile → List ℕ → Type 0
IsClassText file text =
    (text_of : List ℕ → List ℕ) × SpellsNames text_of × (text ≡ compact_text (class_data text_of file))
