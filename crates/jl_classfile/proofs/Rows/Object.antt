-- The 46 bytes of java/lang/Object.
use Rattle.std.proofs.Common.{◌≡◌, ℕ, List, [], ◌∷◌, ◌++◌, None, refl, arith, inl, rules}
use Rattle.std.specs.Prelude.{codes}
use Rattle.jl_pool.specs.declared.constant.Constant.TheVariants.{Utf8, Class}
use Rattle.jl_classfile.specs.Layouts.{Layout, file_text}
use Rattle.jl_classfile.specs.Parts.{Parts}
use Rattle.jl_classfile.specs.ClassFiles.{IsClass}
use Rattle.jl_classfile.specs.Shown.{shown}

abbrev pub layout : Layout
layout = record {
  minor = 0;
  major = 61;
  constants = Utf8 (codes "java/lang/Object") ∷ Class 1 ∷ [];
  body = record { flags = 33; this_class = 2; super_class = 0; interfaces = []; fields = []; methods = []; attributes = [] };
}

abbrev pub parts : Parts
parts = record { layout = layout; codes = []; nest_host = None; nest_members = None }

abbrev pub bytes : List ℕ
bytes =
    0xca ∷ 0xfe ∷ 0xba ∷ 0xbe ∷ 0 ∷ 0 ∷ 0 ∷ 0x3d ∷ 0 ∷ 3 ∷ 1 ∷ 0 ∷ 16 ∷ (codes "java/lang/Object"
    ++ (7 ∷ 0 ∷ 1 ∷ 0 ∷ 0x21 ∷ 0 ∷ 2 ∷ 0 ∷ 0 ∷ 0 ∷ 0 ∷ 0 ∷ 0 ∷ 0 ∷ 0 ∷ 0 ∷ 0 ∷ []))

pub spelled : bytes ≡ file_text layout
spelled = refl

pub is_class : IsClass bytes parts
is_class = record {
  few = omega arith;
  spelled = refl;
  laid = search rules;
  version = record { from = omega arith; to = omega arith; plain = λ _. refl };
  pool = record {
    texts = ((codes "java/lang/Object", record { in_range = search rules; bytes = refl }), (tt, tt));
    links = (refl, (refl, tt));
    types = (tt, (inl refl, tt));
  };
  links = record { no_module = refl; classes = (refl, tt); super = refl };
  members = record { links = tt; fields = tt; methods = tt; distinct = refl; one_code = tt };
  attributes = tt;
  nest = record { host_holds = tt; members_hold = tt; not_both = tt };
  codes = tt;
}

pub shows : shown parts ≡ record {
  name = codes "java/lang/Object";
  flags = 33;
  superclass = None;
  interfaces = [];
  nest_host = None;
  nest_members = [];
  methods = [];
}
shows = refl
