-- Worked rows of the definitions, by computation. The counts of operand bytes, the forms of wide and the padding of switches are
-- written out from JVMS SE 17 §6.5, instruction by instruction.
use Rattle.std.proofs.Common.{◌≡◌, ℕ, Bool, true, false, List, [], ◌∷◌, ◌++◌, Option, Some, None, refl, arith}
use Rattle.std.specs.Prelude.{codes, map, replicate}
use Rattle.std.specs.List.{range_with_len}
use Rattle.jl_pool.specs.declared.constant.Constant.TheVariants.{Utf8, Class, Methodref, InterfaceMethodref, NameAndType, InvokeDynamic}
use Rattle.jl_pool.specs.Pools.{Pool, places, has_tag}
use Rattle.jl_class.specs.declared.site.Kind.TheVariants.{Virtual, Special, Static, Interface, Dynamic}
use Rattle.jl_class.specs.declared.site.Operand.TheVariants.{Method, CallSite}
use Rattle.jl_code.specs.declared.instruction.Instruction.TheVariants.{Plain, Wide, Invoke, TableSwitch, LookupSwitch}
use Rattle.jl_code.specs.Known.{plain_opcodes, wide_opcodes, invoke_rows}
use Rattle.jl_code.specs.Instructions.{operands_in, invoke_row_in, tail_in, instruction_text, from_least, Pads, IsTableSwitch, IsLookupSwitch}
use Rattle.jl_code.specs.Codes.{kind_of, may_name, tail_of, most_slots, sites_from}
use Rattle.jl_class.specs.Operands.{operand_at}
use Rattle.jl_class.specs.Special.{begins_special}
use Rattle.jl_code.specs.Faults.{is_opcode, begins_opcode}

-- ---- how many bytes follow each opcode

-- of the opcodes 0 to 201, each; of those that have a length of their own, and of the five invocations, nothing
abbrev operand_counts : List (Option ℕ)
operand_counts =
    replicate 16 (Some 0)  -- nop, the constants
    ++ (Some 1 ∷ Some 2 ∷ Some 1 ∷ Some 2 ∷ Some 2 ∷ [])  -- bipush, sipush, ldc, ldc_w, ldc2_w
    ++ replicate 5 (Some 1) ++ replicate 20 (Some 0)  -- the loads, those with a number in the name
    ++ replicate 8 (Some 0)  -- loads from arrays
    ++ replicate 5 (Some 1) ++ replicate 20 (Some 0)  -- the stores, those with a number in the name
    ++ replicate 8 (Some 0) ++ replicate 9 (Some 0)  -- stores into arrays, the stack
    ++ replicate 36 (Some 0)  -- iadd to lxor
    ++ (Some 2 ∷ [])  -- iinc
    ++ replicate 15 (Some 0) ++ replicate 5 (Some 0)  -- conversions, comparisons
    ++ replicate 14 (Some 2) ++ (Some 2 ∷ Some 2 ∷ Some 1 ∷ [])  -- ifeq to if_acmpne, goto, jsr, ret
    ++ (None ∷ None ∷ [])  -- tableswitch, lookupswitch
    ++ replicate 6 (Some 0)  -- the returns
    ++ (Some 2 ∷ Some 2 ∷ Some 2 ∷ Some 2 ∷ [])  -- getstatic, putstatic, getfield, putfield
    ++ replicate 5 None  -- the invocations
    ++ (Some 2 ∷ Some 1 ∷ Some 2 ∷ Some 0 ∷ Some 0 ∷ [])  -- new, newarray, anewarray, arraylength, athrow
    ++ (Some 2 ∷ Some 2 ∷ Some 0 ∷ Some 0 ∷ [])  -- checkcast, instanceof, monitorenter, monitorexit
    ++ (None ∷ Some 3 ∷ Some 2 ∷ Some 2 ∷ Some 4 ∷ Some 4 ∷ [])  -- wide, multianewarray, ifnull, ifnonnull, goto_w, jsr_w

fixed_lengths : map (operands_in plain_opcodes) (range_with_len 0 256) ≡ operand_counts ++ replicate 54 None
fixed_lengths = refl

-- after the two bytes of the number
invocation_lengths : map (tail_in invoke_rows) (range_with_len 0 256)
    ≡ replicate 182 None ++ (Some 0 ∷ Some 0 ∷ Some 0 ∷ Some 2 ∷ Some 2 ∷ []) ++ replicate 69 None
invocation_lengths = refl

known_opcodes : map is_opcode (range_with_len 0 256) ≡ replicate 202 true ++ replicate 54 false
known_opcodes = refl

-- ---- wide

-- iload to aload, istore to astore, iinc with a number of two bytes more, ret; and no other opcode
wide_lengths : map (operands_in wide_opcodes) (range_with_len 0 256)
    ≡ replicate 21 None
    ++ replicate 5 (Some 2)
    ++ replicate 28 None
    ++ replicate 5 (Some 2)
    ++ replicate 73 None
    ++ (Some 4 ∷ [])
    ++ replicate 36 None
    ++ (Some 2 ∷ [])
    ++ replicate 86 None
wide_lengths = refl

wide_iload : instruction_text (Wide 21 (1 ∷ 2 ∷ [])) ≡ 196 ∷ 21 ∷ 1 ∷ 2 ∷ []
wide_iload = refl

-- before a load, and before one of each other kind: nop, an invocation, a switch, wide itself, no opcode
wide_begins : map (λ b. begins_opcode (196 ∷ b ∷ [])) (21 ∷ 58 ∷ 132 ∷ 169 ∷ 0 ∷ 26 ∷ 182 ∷ 170 ∷ 171 ∷ 196 ∷ 202 ∷ [])
    ≡ true ∷ true ∷ true ∷ true ∷ false ∷ false ∷ false ∷ false ∷ false ∷ false ∷ false ∷ []
wide_begins = refl

-- nothing is said of what ends after a wide, and of no byte
wide_alone : begins_opcode (196 ∷ []) ≡ true
wide_alone = refl

no_byte : begins_opcode [] ≡ true
no_byte = refl

-- ---- switches

-- at each of the four places from a multiple of 4 on: what makes the default begin at one
padded_at_0 : Pads (0 ∷ 0 ∷ 0 ∷ []) 0
padded_at_0 = record { few = omega arith; aligned = refl }

padded_at_1 : Pads (0 ∷ 0 ∷ []) 1
padded_at_1 = record { few = omega arith; aligned = refl }

padded_at_2 : Pads (0 ∷ []) 2
padded_at_2 = record { few = omega arith; aligned = refl }

padded_at_3 : Pads [] 3
padded_at_3 = record { few = omega arith; aligned = refl }

-- whatever bytes they are
padded_by_any : Pads (0xca ∷ 0xfe ∷ 0xba ∷ []) 4
padded_by_any = record { few = omega arith; aligned = refl }

not_padded_at_0 : ¬ Pads [] 0
not_padded_at_0 = λ h. let clash = h.aligned in cc

-- no more than three bytes, though four would do
not_padded_by_four : ¬ Pads (0 ∷ 0 ∷ 0 ∷ 0 ∷ []) 3
not_padded_by_four = λ h. let few = h.few in omega (arith, few)

-- numbers with a sign, from the least: -2^31, -1, 0, 2^31 - 1
signs : map from_least (0x80000000 ∷ 0xffffffff ∷ 0 ∷ 0x7fffffff ∷ []) ≡ 0 ∷ 0x7fffffff ∷ 0x80000000 ∷ 0xffffffff ∷ []
signs = refl

-- from -1 to 1: three offsets
three_offsets : IsTableSwitch 3 [] 0 0xffffffff 1 (replicate 12 0)
three_offsets = record { pads = padded_at_3; default_size = omega arith; low_size = omega arith; high_size = omega arith; order = omega arith; count = refl }

-- from 1 to 0
no_order : (offsets : List ℕ) → ¬ IsTableSwitch 3 [] 0 1 0 offsets
no_order offsets = λ h. let order = h.order in omega (arith, order)

two_pairs : IsLookupSwitch 2 (0 ∷ []) 0 2 (replicate 16 0)
two_pairs = record { pads = padded_at_2; default_size = omega arith; not_negative = omega arith; sizes = refl }

-- -1 pairs
negative_pairs : (pairs : List ℕ) → ¬ IsLookupSwitch 3 [] 0 0xffffffff pairs
negative_pairs pairs = λ h. let few = h.not_negative in omega (arith, few)

table_switch : instruction_text (TableSwitch (7 ∷ []) 1 2 3 (8 ∷ [])) ≡ 170 ∷ 7 ∷ 0 ∷ 0 ∷ 0 ∷ 1 ∷ 0 ∷ 0 ∷ 0 ∷ 2 ∷ 0 ∷ 0 ∷ 0 ∷ 3 ∷ 8 ∷ []
table_switch = refl

lookup_switch : instruction_text (LookupSwitch (7 ∷ []) 1 2 (8 ∷ [])) ≡ 171 ∷ 7 ∷ 0 ∷ 0 ∷ 0 ∷ 1 ∷ 0 ∷ 0 ∷ 0 ∷ 2 ∷ 8 ∷ []
lookup_switch = refl

-- ---- invocations

kinds : map kind_of (182 ∷ 183 ∷ 184 ∷ 185 ∷ 186 ∷ []) ≡ Virtual ∷ Special ∷ Static ∷ Interface ∷ Dynamic ∷ []
kinds = refl

-- 1 A, 2 its Class, 3 f, 4 ()V, 5 their NameAndType, and of these 6 a Methodref, 7 an InterfaceMethodref, 8 an InvokeDynamic
abbrev pool : Pool
pool = places (Utf8 (codes "A") ∷ Class 1 ∷ Utf8 (codes "f") ∷ Utf8 (codes "()V") ∷ NameAndType 3 4 ∷ Methodref 2 5 ∷ InterfaceMethodref 2 5 ∷ InvokeDynamic 9 5
    ∷ [])

-- whether the instruction may name the Class, the Methodref, the InterfaceMethodref and the InvokeDynamic
abbrev may_be : ℕ → List (Option Bool)
may_be opcode = map (λ n. Rattle.std.specs.Prelude.option_map (λ row. has_tag pool row.tags n) (invoke_row_in invoke_rows opcode)) (2 ∷ 6 ∷ 7 ∷ 8 ∷ [])

tags : map may_be (182 ∷ 183 ∷ 184 ∷ 185 ∷ 186 ∷ [])
    ≡ (Some false ∷ Some true ∷ Some false ∷ Some false ∷ [])
    ∷ (Some false ∷ Some true ∷ Some true ∷ Some false ∷ [])
    ∷ (Some false ∷ Some true ∷ Some true ∷ Some false ∷ [])
    ∷ (Some false ∷ Some false ∷ Some true ∷ Some false ∷ [])
    ∷ (Some false ∷ Some false ∷ Some false ∷ Some true ∷ [])
    ∷ []
tags = refl

names_a_method : operand_at pool 6 ≡ Some (Method (record { itf = false; owner = codes "A"; name = codes "f"; ty = codes "()V" }))
names_a_method = refl

names_an_interface's : operand_at pool 7 ≡ Some (Method (record { itf = true; owner = codes "A"; name = codes "f"; ty = codes "()V" }))
names_an_interface's = refl

names_a_call_site : operand_at pool 8 ≡ Some (CallSite (record { bootstrap = 9; name = codes "f"; ty = codes "()V" }))
names_a_call_site = refl

names_nothing : map (operand_at pool) (0 ∷ 2 ∷ 5 ∷ 9 ∷ []) ≡ None ∷ None ∷ None ∷ None ∷ []
names_nothing = refl

-- <init> by invokespecial alone, and no other name that begins so
initializers : map (λ opcode. may_name opcode (codes "<init>")) (182 ∷ 183 ∷ 184 ∷ 185 ∷ 186 ∷ []) ≡ false ∷ true ∷ false ∷ false ∷ false ∷ []
initializers = refl

class_initializer : map (λ opcode. may_name opcode (codes "<clinit>")) (182 ∷ 183 ∷ 184 ∷ 185 ∷ 186 ∷ []) ≡ replicate 5 false
class_initializer = refl

other_names : map (may_name 182) (codes "f" ∷ codes "f<" ∷ codes ">" ∷ []) ≡ true ∷ true ∷ true ∷ []
other_names = refl

begin_special : map begins_special (codes "<init>" ∷ codes "<" ∷ codes "f<" ∷ [] ∷ []) ≡ true ∷ true ∷ false ∷ false ∷ []
begin_special = refl

-- a receiver takes one of 255 slots
slots : map most_slots (182 ∷ 183 ∷ 184 ∷ 185 ∷ 186 ∷ []) ≡ 254 ∷ 254 ∷ 255 ∷ 254 ∷ 255 ∷ []
slots = refl

-- of two slots: the count of invokeinterface has the receiver's
later : map (λ opcode. tail_of opcode 2) (182 ∷ 183 ∷ 184 ∷ 185 ∷ 186 ∷ []) ≡ [] ∷ [] ∷ [] ∷ (3 ∷ 0 ∷ []) ∷ (0 ∷ 0 ∷ []) ∷ []
later = refl

invocation_text : instruction_text (Invoke 185 0x102 (3 ∷ 0 ∷ [])) ≡ 185 ∷ 1 ∷ 2 ∷ 3 ∷ 0 ∷ []
invocation_text = refl

-- each invocation at the length of what stands before it; what names nothing is no site
places_of_sites : map (λ site. site.pc) (sites_from pool 0
    (Plain 17 (0 ∷ 0 ∷ []) ∷ Invoke 182 6 [] ∷ Wide 132 (0 ∷ 0 ∷ 0 ∷ 0 ∷ []) ∷ Invoke 185 7 (1 ∷ 0 ∷ []) ∷ Invoke 184 2 [] ∷ Invoke 186 8 (0 ∷ 0 ∷ []) ∷ []))
    ≡ 3 ∷ 12 ∷ 20 ∷ []
places_of_sites = refl
