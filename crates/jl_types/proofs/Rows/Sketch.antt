-- Small classes to write worlds with.
use Rattle.std.specs.Prelude.{ℕ, ◌+◌, ◌==◌, if◌then◌else◌, List, [], ◌∷◌, Option, None, codes, true, false}
use Rattle.jl_class.specs.Class.{ClassFile, Method}
use Rattle.jl_pool.specs.declared.reference.Reference.{Reference}
use Rattle.jl_class.specs.declared.site.Kind.{Kind}
use Rattle.jl_class.specs.declared.site.Operand.TheVariants as operand
use Rattle.jl_types.specs.declared.ids.MethodId.{MethodId}
use Rattle.jl_types.specs.Values.World.{Class, Classes, World}
use Rattle.jl_types.specs.Linkage.Resolution.{Resolved}

abbrev pub method : ℕ → List ℕ → Method
method flags name = record { name = name; ty = codes "()V"; flags = flags; sites = [] }

-- with an invocation at pc 0
abbrev pub calling : ℕ → List ℕ → Kind → Reference (List ℕ) → Method
calling flags name kind ref =
    record { name = name; ty = codes "()V"; flags = flags; sites = record { pc = 0; kind = kind; operand = operand.Method ref } ∷ [] }

abbrev pub class_ref : List ℕ → List ℕ → Reference (List ℕ)
class_ref owner name = record { itf = false; owner = owner; name = name; ty = codes "()V" }

abbrev pub itf_ref : List ℕ → List ℕ → Reference (List ℕ)
itf_ref owner name = record { itf = true; owner = owner; name = name; ty = codes "()V" }

abbrev pub file : List ℕ → ℕ → List Method → ClassFile
file name flags methods =
    record { name = name; flags = flags; superclass = None; interfaces = []; nest_host = None; nest_members = []; methods = methods }

abbrev pub class : List ℕ → ℕ → Option ℕ → List ℕ → List Method → Class
class name flags superclass interfaces methods =
    record { loader = 0; file = file name flags methods; superclass = superclass; interfaces = interfaces }

abbrev pub object : Class
object = class (codes "java/lang/Object") 33 None [] []

-- what the loader has recorded: each class that it defined, under the class's own name
abbrev records_from : ℕ → ℕ → List Class → List (List ℕ × ℕ)
records_from loader n [] = []
records_from loader n (row ∷ rows) =
    if row.loader == loader then (row.file.name, n) ∷ records_from loader (n + 1) rows else records_from loader (n + 1) rows

abbrev pub classes : List Class → Classes
classes rows = record { loaders = records_from 0 0 rows ∷ records_from 1 0 rows ∷ []; rows = rows; retired = [] }

-- the first method of the class
abbrev pub first : ℕ → MethodId
first c = record { class = c; index = 0 }

-- the resolved method, by the class that is named
abbrev pub naming : ℕ → MethodId → Resolved
naming named m = record { named = named; method = m }

-- a world with site 0 at pc 0 of a class's first method
abbrev pub world : List Class → ℕ → World
world rows c = record {
  classes = classes rows;
  places = record { class = c; method = 0; pc = 0 } ∷ [];
  bindings = [];
  sites = record { call_sites = []; switches = [] };
}
