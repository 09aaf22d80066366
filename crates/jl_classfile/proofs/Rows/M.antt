-- A class with one method and one invocation: a Code attribute, instructions and a site.
use Rattle.std.proofs.Common.{◌≡◌, ℕ, List, [], ◌∷◌, ◌++◌, Some, None, refl, arith, rules, false, inl, inr}
use Rattle.std.specs.Prelude.{codes}
use Rattle.jl_pool.specs.declared.constant.Constant.TheVariants.{Utf8, Class, Methodref, NameAndType}
use Rattle.jl_class.specs.declared.site.Kind.TheVariants.{Virtual}
use Rattle.jl_class.specs.declared.site.Operand.TheVariants.{Method as Called}
use Rattle.jl_names.specs.MethodTypes.{TakesSlots}
use Rattle.jl_code.specs.declared.instruction.Instruction.{Instruction}
use Rattle.jl_code.specs.declared.instruction.Instruction.TheVariants.{Plain, Invoke}
use Rattle.jl_classfile.specs.Layouts.{Layout, file_text}
use Rattle.jl_classfile.specs.CodeAttributes.{IsCodeOf}
use Rattle.jl_classfile.specs.Parts.{Parts}
use Rattle.jl_classfile.specs.ClassFiles.{IsClass, pool_of}
use Rattle.jl_classfile.specs.Shown.{shown}

abbrev pub instructions : List Instruction
instructions = Invoke 182 12 [] ∷ Plain 177 [] ∷ []

-- what its Code attribute holds
abbrev pub info : List ℕ
info = 0 ∷ 0 ∷ 0 ∷ 0 ∷ 0 ∷ 0 ∷ 0 ∷ 4 ∷ 0xb6 ∷ 0 ∷ 12 ∷ 0xb1 ∷ 0 ∷ 0 ∷ 0 ∷ 0 ∷ []

abbrev pub layout : Layout
layout = record {
  minor = 0;
  major = 61;
  constants = Utf8 (codes "M") ∷ Class 1 ∷ Utf8 (codes "java/lang/Object") ∷ Class 3 ∷ Utf8 (codes "run") ∷ Utf8 (codes "()V") ∷ Utf8 (codes "Code")
      ∷ Utf8 (codes "A") ∷ Class 8 ∷ Utf8 (codes "f") ∷ NameAndType 10 6 ∷ Methodref 9 11 ∷ [];
  body = record {
    flags = 33;
    this_class = 2;
    super_class = 4;
    interfaces = [];
    fields = [];
    methods = record { flags = 9; name = 5; descriptor = 6; attributes = record { name = 7; info = info } ∷ [] } ∷ [];
    attributes = [];
  };
}

abbrev pub parts : Parts
parts = record { layout = layout; codes = Some instructions ∷ []; nest_host = None; nest_members = None }

-- the 123 bytes
abbrev pub bytes : List ℕ
bytes =
    0xca ∷ 0xfe ∷ 0xba ∷ 0xbe ∷ 0 ∷ 0 ∷ 0 ∷ 0x3d ∷ 0 ∷ 13 ∷ 1 ∷ 0 ∷ 1 ∷ 0x4d ∷ 7 ∷ 0 ∷ 1 ∷ 1 ∷ 0 ∷ 16 ∷ (codes "java/lang/Object"
    ++ (7 ∷ 0 ∷ 3 ∷ 1 ∷ 0 ∷ 3 ∷ (codes "run" ++ (1 ∷ 0 ∷ 3 ∷ (codes "()V" ++ (1 ∷ 0 ∷ 4 ∷ (codes "Code"
    ++ (1 ∷ 0 ∷ 1 ∷ 0x41 ∷ 7 ∷ 0 ∷ 8 ∷ 1 ∷ 0 ∷ 1 ∷ 0x66 ∷ 12 ∷ 0 ∷ 10 ∷ 0 ∷ 6 ∷ 10 ∷ 0 ∷ 9 ∷ 0 ∷ 11
    ∷ 0 ∷ 0x21 ∷ 0 ∷ 2 ∷ 0 ∷ 4 ∷ 0 ∷ 0 ∷ 0 ∷ 0 ∷ 0 ∷ 1 ∷ 0 ∷ 9 ∷ 0 ∷ 5 ∷ 0 ∷ 6 ∷ 0 ∷ 1 ∷ 0 ∷ 7 ∷ 0 ∷ 0 ∷ 0 ∷ 16
    ∷ 0 ∷ 0 ∷ 0 ∷ 0 ∷ 0 ∷ 0 ∷ 0 ∷ 4 ∷ 0xb6 ∷ 0 ∷ 12 ∷ 0xb1 ∷ 0 ∷ 0 ∷ 0 ∷ 0 ∷ 0 ∷ 0 ∷ []))))))))

pub spelled : bytes ≡ file_text layout
spelled = refl

void : TakesSlots (codes "()V") 0
void = (record { parameters = []; returns = None }, record { parameters = tt; returns = tt }, refl, refl)

pub holds : IsCodeOf (pool_of layout) info instructions
holds = record {
  holds = record {
    max_stack = 0;
    max_locals = 0;
    exceptions = 0;
    table = [];
    attributes = [];
    spelled = refl;
    max_stack_size = omega arith;
    max_locals_size = omega arith;
    some = omega arith;
    few = omega arith;
    exceptions_size = omega arith;
    rows = refl;
    attributes_sized = record { count = omega arith; each = tt };
  };
  code = record {
    bytes_are = refl;
    places = ((refl, omega arith), (refl, tt));
    operands = (
      record {
        row = record { opcode = 182; tags = 10 ∷ []; tail = 0 };
        found = refl;
        tagged = refl;
        operand = Called (record { itf = false; owner = codes "A"; name = codes "f"; ty = codes "()V" });
        there = refl;
        named = refl;
        slots = 0;
        counted = void;
        few = omega arith;
        later = refl;
      },
      (tt, tt),
    );
  };
}

pub is_class : IsClass bytes parts
is_class = record {
  few = omega arith;
  spelled = refl;
  laid = search rules;
  version = record { from = omega arith; to = omega arith; plain = λ _. refl };
  pool = record {
    texts = (
      (codes "M", record { in_range = search rules; bytes = refl }),
      (
        tt,
        (
          (codes "java/lang/Object", record { in_range = search rules; bytes = refl }),
          (
            tt,
            (
              (codes "run", record { in_range = search rules; bytes = refl }),
              (
                (codes "()V", record { in_range = search rules; bytes = refl }),
                (
                  (codes "Code", record { in_range = search rules; bytes = refl }),
                  (
                    (codes "A", record { in_range = search rules; bytes = refl }),
                    (tt, ((codes "f", record { in_range = search rules; bytes = refl }), (tt, (tt, tt)))),
                  ),
                ),
              ),
            ),
          ),
        ),
      ),
    );
    links = search rules;
    types = (tt, (inl refl, (tt, (inl refl, (tt, (tt, (tt, (tt, (inl refl, (tt, (inr (0, omega arith, void), ((0, omega arith, void), tt))))))))))));
  };
  links = record { no_module = refl; classes = (refl, (refl, tt)); super = refl };
  members = record {
    links = search rules;
    fields = tt;
    methods = (record { name = refl; descriptor = (0, omega arith, void); flags = refl }, tt);
    distinct = refl;
    one_code = (omega arith, tt);
  };
  attributes = tt;
  nest = record { host_holds = tt; members_hold = tt; not_both = tt };
  codes = (holds, tt);
}

pub shows : shown parts ≡ record {
  name = codes "M";
  flags = 33;
  superclass = Some (codes "java/lang/Object");
  interfaces = [];
  nest_host = None;
  nest_members = [];
  methods =
      record {
        flags = 9;
        name = codes "run";
        ty = codes "()V";
        sites = record { pc = 0; kind = Virtual; operand = Called (record { itf = false; owner = codes "A"; name = codes "f"; ty = codes "()V" }) } ∷ [];
      }
      ∷ [];
}
shows = refl
