-- What a class file shows.
use Rattle.std.specs.Prelude.{ℕ, List, [], ◌∷◌, map, Option, Some, None}
use Rattle.std.specs.Option.{option_and_then, unwrap_or}
use Rattle.jl_classfile.specs.declared.body.Member.{Member}
use Rattle.jl_class.specs.Class.{ClassFile, Method}
use Rattle.jl_code.specs.declared.instruction.Instruction.{Instruction}
use Rattle.jl_class.specs.Site.{Site}
use Rattle.jl_pool.specs.Pools.{Pool, class_at}
use Rattle.jl_code.specs.Codes.{sites_from}
use Rattle.jl_classfile.specs.Parts.{Parts}
use Rattle.jl_classfile.specs.ClassFiles.{pool_of}
use Rattle.jl_class.specs.Kept.{text_or_nothing}

abbrev pub name_or_nothing : Pool → ℕ → List ℕ
name_or_nothing pool n = unwrap_or (class_at pool n) []

abbrev pub sites_of : Pool → Option (List Instruction) → List Site
sites_of pool None = []
sites_of pool (Some instructions) = sites_from pool 0 instructions

abbrev pub shown_method : Pool → Member → Option (List Instruction) → Method
shown_method pool m code = record { flags = m.flags; name = text_or_nothing pool m.name; ty = text_or_nothing pool m.descriptor; sites = sites_of pool code }

-- each method with its code
abbrev pub shown_methods : Pool → List Member → List (Option (List Instruction)) → List Method
shown_methods pool [] codes = []
shown_methods pool (m ∷ ms) [] = []
shown_methods pool (m ∷ ms) (code ∷ codes) = shown_method pool m code ∷ shown_methods pool ms codes

abbrev pub shown : Parts → ClassFile
shown p =
    let b = p.layout.body in
    let pool = pool_of p.layout in
    record {
      name = name_or_nothing pool b.this_class;
      flags = b.flags;
      superclass = class_at pool b.super_class;
      interfaces = map (name_or_nothing pool) b.interfaces;
      nest_host = option_and_then (class_at pool) p.nest_host;
      nest_members = map (name_or_nothing pool) (unwrap_or p.nest_members []);
      methods = shown_methods pool b.methods p.codes;
    }
