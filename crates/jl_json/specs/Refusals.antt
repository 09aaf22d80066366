-- The answer to a file or a sketch that is refused, as JSON: the name of the fault, the place that the fault is
-- about, and the method.
use Rattle.std.specs.Prelude.{ℕ, List, codes, Option, Some, None}
use Rattle.serde_json.specs.Data.{Data, number, unsigned, string, object}
use Rattle.serde_json.specs.Data.{Members, no_members, member, put}
use Rattle.jl_pool.specs.declared.pool_fault.PoolFault.{PoolFault}
use Rattle.jl_pool.specs.declared.pool_fault.PoolFault.TheVariants as pool
use Rattle.jl_code.specs.declared.code_fault.CodeFault.{CodeFault}
use Rattle.jl_code.specs.declared.code_fault.CodeFault.TheVariants as code
use Rattle.jl_classfile.specs.declared.fault.ClassFault.{ClassFault}
use Rattle.jl_classfile.specs.declared.fault.ClassFault.TheVariants.{TooLarge, BadMagic, BadVersion}
use Rattle.jl_classfile.specs.declared.fault.ClassFault.TheVariants.{Truncated, Pool, ModuleFile}
use Rattle.jl_classfile.specs.declared.fault.ClassFault.TheVariants.{BadSuper, DuplicateMethod}
use Rattle.jl_classfile.specs.declared.fault.ClassFault.TheVariants.{TwoCodes, Code, TrailingBytes}
use Rattle.jl_classfile.specs.declared.fault.ClassFault.TheVariants.{BadMember, BadLink, BadNest}
use Rattle.jl_classfile.specs.declared.fault.ClassFault.TheVariants.{Memory}
use Rattle.jl_sketch.specs.declared.fault.SketchFault.{SketchFault}
use Rattle.jl_sketch.specs.declared.fault.SketchFault.TheVariants as sketch

-- ---- the name of the fault

abbrev pub pool_reason : PoolFault → List ℕ
pool_reason pool.Truncated = codes "Pool.Truncated"
pool_reason (pool.BadTag i) = codes "Pool.BadTag"
pool_reason (pool.BadIndex i) = codes "Pool.BadIndex"
pool_reason (pool.BadUtf8 i) = codes "Pool.BadUtf8"
pool_reason (pool.BadDescriptor i) = codes "Pool.BadDescriptor"
pool_reason pool.Memory = codes "Memory"

abbrev pub code_reason : CodeFault → List ℕ
code_reason (code.BadOpcode pc) = codes "Code.BadOpcode"
code_reason (code.CutShort pc) = codes "Code.CutShort"
code_reason (code.BadSwitch pc) = codes "Code.BadSwitch"
code_reason (code.BadOperand pc) = codes "Code.BadOperand"
code_reason code.BadLayout = codes "Code.BadLayout"
code_reason code.Memory = codes "Memory"

abbrev pub class_reason : ClassFault → List ℕ
class_reason TooLarge = codes "TooLarge"
class_reason BadMagic = codes "BadMagic"
class_reason BadVersion = codes "BadVersion"
class_reason Truncated = codes "Truncated"
class_reason (Pool f) = pool_reason f
class_reason ModuleFile = codes "ModuleFile"
class_reason BadSuper = codes "BadSuper"
class_reason (DuplicateMethod i) = codes "DuplicateMethod"
class_reason (TwoCodes i) = codes "TwoCodes"
class_reason (Code i f) = code_reason f
class_reason TrailingBytes = codes "TrailingBytes"
class_reason (BadMember k) = codes "BadMember"
class_reason (BadLink n) = codes "BadLink"
class_reason BadNest = codes "BadNest"
class_reason Memory = codes "Memory"

abbrev pub sketch_reason : SketchFault → List ℕ
sketch_reason sketch.TooBig = codes "TooBig"
sketch_reason (sketch.CallsWithoutCode i) = codes "CallsWithoutCode"
sketch_reason (sketch.Refused f) = class_reason f
sketch_reason sketch.Memory = codes "Memory"

-- ---- its place: a number of an entry or a member, or a pc

abbrev pub pool_place : PoolFault → Option ℕ
pool_place (pool.BadTag i) = Some i
pool_place (pool.BadIndex i) = Some i
pool_place (pool.BadUtf8 i) = Some i
pool_place (pool.BadDescriptor i) = Some i
pool_place _ = None

abbrev pub code_place : CodeFault → Option ℕ
code_place (code.BadOpcode pc) = Some pc
code_place (code.CutShort pc) = Some pc
code_place (code.BadSwitch pc) = Some pc
code_place (code.BadOperand pc) = Some pc
code_place _ = None

abbrev pub class_place : ClassFault → Option ℕ
class_place (Pool f) = pool_place f
class_place (Code i f) = code_place f
class_place (BadMember k) = Some k
class_place (BadLink n) = Some n
class_place _ = None

abbrev pub sketch_place : SketchFault → Option ℕ
sketch_place (sketch.Refused f) = class_place f
sketch_place _ = None

-- ---- the index of the method

abbrev pub class_method : ClassFault → Option ℕ
class_method (DuplicateMethod i) = Some i
class_method (TwoCodes i) = Some i
class_method (Code i code.Memory) = None
class_method (Code i f) = Some i
class_method _ = None

abbrev pub sketch_method : SketchFault → Option ℕ
sketch_method (sketch.CallsWithoutCode i) = Some i
sketch_method (sketch.Refused f) = class_method f
sketch_method _ = None

-- ---- refusals

pub record FileRefusal : Type 0 where
  pub reason : List ℕ
  pub place : Option ℕ
  pub method : Option ℕ

abbrev pub pool_refusal : PoolFault → FileRefusal
pool_refusal f = record { reason = pool_reason f; place = pool_place f; method = None }

abbrev pub code_refusal : CodeFault → FileRefusal
code_refusal f = record { reason = code_reason f; place = code_place f; method = None }

abbrev pub class_refusal : ClassFault → FileRefusal
class_refusal f = record { reason = class_reason f; place = class_place f; method = class_method f }

-- that of a sketch whose bytes would be refused is theirs
abbrev pub sketch_refusal : SketchFault → FileRefusal
sketch_refusal f = record { reason = sketch_reason f; place = sketch_place f; method = sketch_method f }

-- ---- the answer

-- a number under a key, if there is one
abbrev pub with_number : List ℕ → Option ℕ → Members → Members
with_number key None members = members
with_number key (Some n) members = put key (number (unsigned n)) members

unfoldable pub refusal_of : FileRefusal → Data
refusal_of r =
    object (with_number (codes "at") r.place (with_number (codes "method") r.method
    (member (codes "refused") (string r.reason) no_members)))

abbrev pub refusal_data : ClassFault → Data
refusal_data f = refusal_of (class_refusal f)

abbrev pub sketch_refusal_data : SketchFault → Data
sketch_refusal_data f = refusal_of (sketch_refusal f)
