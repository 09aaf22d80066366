-- What the readers of the passes find out. No public clause cites this.
use Rattle.std.specs.Prelude.{◌≡◌, ◌≢◌, ℕ, ◌≤◌, ◌<◌, ◌^◌, true, List, [], ◌∷◌, ◌++◌, length, map, Option, ⊤}
use Rattle.std.specs.Option.{option_and_then, unwrap_or}
use Rattle.std.specs.List.{Contains, list_all}
use Rattle.jl_classfile.specs.declared.body.Attribute.{Attribute}
use Rattle.jl_classfile.specs.declared.body.Member.{Member}
use Rattle.jl_classfile.specs.declared.body.Body.{Body}
use Rattle.jl_classfile.specs.declared.read.Names.{Names}
use Rattle.jl_classfile.specs.declared.body.Broken.{Broken}
use Rattle.jl_classfile.specs.declared.body.Broken.TheVariants as broken
use Rattle.jl_pool.specs.declared.pool_fault.PoolFault.{PoolFault}
use Rattle.jl_pool.specs.declared.pool_fault.PoolFault.TheVariants as pool
use Rattle.jl_class.specs.Class.{ClassFile, Method}
use Rattle.jl_class.specs.declared.class.KeptMethod.{KeptMethod}
use Rattle.jl_class.specs.Kept.{method_in, is_ranged, AreMethodsKept}
use Rattle.jl_pool.specs.declared.constant.Constant.{Constant}
use Rattle.jl_code.specs.declared.instruction.Instruction.{Instruction}
use Rattle.jl_class.specs.Site.{Site}
use Rattle.jl_class.specs.declared.site.KeptSite.{KeptSite}
use Rattle.jl_code.specs.Kept.{Adds}
use Rattle.jl_class.specs.Kept.{is_named}
use Rattle.jl_code.specs.declared.code_fault.CodeFault.{CodeFault}
use Rattle.jl_code.specs.declared.code_fault.CodeFault.TheVariants as code
use Rattle.jl_classfile.specs.declared.fault.ClassFault.{ClassFault}
use Rattle.jl_classfile.specs.declared.fault.ClassFault.TheVariants.{Truncated, Pool as InPool, Code, BadLink, Memory}
use Rattle.jl_pool.specs.Pools.{Pool, class_at, places, IsSoundPool}
use Rattle.jl_classfile.specs.Layouts.{Layout, head_text, file_text, IsLayout}
use Rattle.jl_classfile.specs.Conditions.{IsVersionUpTo, codes_of, HasCode, HaveCodes}
use Rattle.jl_classfile.specs.ClassFiles.{most_bytes, pool_of}
use Rattle.jl_pool.specs.Faults.{PoolStands}
use Rattle.jl_classfile.specs.Faults.{IsCodeFault}
use Rattle.jl_classfile.specs.Shown.{name_or_nothing, sites_of, shown_method, shown_methods}

abbrev pub fault_of_broken : Broken → ClassFault
fault_of_broken broken.Cut = Truncated
fault_of_broken broken.Memory = Memory

abbrev pub fault_of_pool : PoolFault → ClassFault
fault_of_pool pool.Memory = Memory
fault_of_pool f = InPool f

-- the first eight bytes, of a version that is read
pub record HasHead (newest : ℕ) (bytes rest : List ℕ) (major : ℕ) : Type 0 where
  pub minor : ℕ
  pub spelled : bytes ≡ head_text minor major ++ rest
  pub minor_size : minor < 2 ^ 16
  pub major_size : major < 2 ^ 16
  pub version : IsVersionUpTo newest minor major

-- the first of the numbers for which this doesn't hold
abbrev pub IsBadLink : (ℕ → Type 0) → List ℕ → ClassFault → Type 0
IsBadLink IsSo numbers f = (n : ℕ) × (f ≡ BadLink n) × Contains numbers n × ¬ IsSo n

-- the bytes up to the end of a sound pool, and what comes after it
pub record HasPool (newest : ℕ) (bytes : List ℕ) (major : ℕ) (p : Pool) (left : List ℕ) : Type 0 where
  pub few : length bytes ≤ most_bytes
  pub text : List ℕ
  pub head : HasHead newest bytes text major
  pub constants : List Constant
  pub stands : PoolStands text constants left
  pub sound : IsSoundPool constants
  pub pool_is : p ≡ places constants

-- the bytes lie so, and their pool is sound
pub record Lies (newest : ℕ) (bytes : List ℕ) (major : ℕ) (p : Pool) (body : Body) : Type 0 where
  pub layout : Layout
  pub few : length bytes ≤ most_bytes
  pub spelled : bytes ≡ file_text layout
  pub laid : IsLayout layout
  pub version : IsVersionUpTo newest layout.minor layout.major
  pub sound : IsSoundPool layout.constants
  pub major_is : major ≡ layout.major
  pub pool_is : p ≡ pool_of layout
  pub body_is : body ≡ layout.body

-- why a method has no sites
abbrev pub IsMethodFault : Pool → ℕ → Member → ClassFault → Type 0
IsMethodFault p index m (Code i f) = (a : Attribute) × (i ≡ index) × (codes_of p m ≡ a ∷ []) × (f ≢ code.Memory) × IsCodeFault p a.info f
IsMethodFault p index m Memory = ⊤
IsMethodFault p index m _ = ⊥

abbrev pub fault_of_code : ℕ → CodeFault → ClassFault
fault_of_code index code.Memory = Memory
fault_of_code index f = Code index f

-- these are the sites of the method's code
pub record SitesShown (p : Pool) (m : Member) (sites : List Site) : Type 0 where
  pub code : Option (List Instruction)
  pub has : HasCode p (codes_of p m) code
  pub shown : sites ≡ sites_of p code

pub record MethodShown (p : Pool) (m : Member) (method : Method) : Type 0 where
  pub code : Option (List Instruction)
  pub has : HasCode p (codes_of p m) code
  pub shown : method ≡ shown_method p m code

pub record MethodsShown (p : Pool) (ms : List Member) (methods : List Method) : Type 0 where
  pub codes : List (Option (List Instruction))
  pub have : HaveCodes p ms codes
  pub shown : methods ≡ shown_methods p ms codes

-- the sites of the method's code are added after those of the methods before it
abbrev pub SitesAdded : Pool → Member → List KeptSite → List KeptSite → Type 0
SitesAdded p m before after = (sites : List Site) × SitesShown p m sites × Adds p before after sites

-- the method is kept, over sites of which these were there before
pub record MethodAdded (p : Pool) (m : Member) (before after : List KeptSite) (method : KeptMethod) : Type 0 where
  pub made : List KeptSite
  pub later : after ≡ before ++ made
  pub named : list_all (is_named p) made ≡ true
  pub ranged : is_ranged (length after) method ≡ true
  pub shown : MethodShown p m (method_in p after method)

-- the methods are kept over these sites
pub record MethodsKept (p : Pool) (ms : List Member) (sites : List KeptSite) (methods : List KeptMethod) : Type 0 where
  pub kept : AreMethodsKept p sites methods
  pub shown : MethodsShown p ms (map (method_in p sites) methods)

-- the names that the body of a class file shows, beside the numbers of its nest attributes
pub record NamesShown (p : Pool) (b : Body) (host : Option ℕ) (members : Option (List ℕ)) (n : Names) : Type 0 where
  pub name : n.name ≡ name_or_nothing p b.this_class
  pub superclass : n.superclass ≡ class_at p b.super_class
  pub interfaces : n.interfaces ≡ map (name_or_nothing p) b.interfaces
  pub nest_host : n.nest_host ≡ option_and_then (class_at p) host
  pub nest_members : n.nest_members ≡ map (name_or_nothing p) (unwrap_or members [])

pub record BodyShown (p : Pool) (b : Body) (host : Option ℕ) (members : Option (List ℕ)) (file : ClassFile) : Type 0 where
  pub codes : List (Option (List Instruction))
  pub have : HaveCodes p b.methods codes
  pub shown : file ≡ record {
    name = name_or_nothing p b.this_class;
    flags = b.flags;
    superclass = class_at p b.super_class;
    interfaces = map (name_or_nothing p) b.interfaces;
    nest_host = option_and_then (class_at p) host;
    nest_members = map (name_or_nothing p) (unwrap_or members []);
    methods = shown_methods p b.methods codes;
  }
