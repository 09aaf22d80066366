-- The class, its superclass and its interfaces (JVMS 4.1).
use Rattle.std.proofs.Common.{◌≡◌, ℕ, true, false, [], ◌∷◌, Some, None, refl}
use Rattle.std.specs.Prelude.{codes, map}
use Rattle.jl_pool.specs.declared.constant.Constant.TheVariants.{Utf8, Class}
use Rattle.jl_pool.specs.Pools.{Pool, places, class_at}
use Rattle.jl_classfile.specs.declared.body.Body.{Body}
use Rattle.jl_classfile.specs.Conditions.{class_numbers, is_interface, super_fits}
use Rattle.jl_class.specs.Flags.{extends_object, object}

-- 2 java/lang/Object, 4 A, 6 an array of it
abbrev pool : Pool
pool = places (Utf8 (codes "java/lang/Object") ∷ Class 1 ∷ Utf8 (codes "A") ∷ Class 3 ∷ Utf8 (codes "[LA;") ∷ Class 5 ∷ [])

abbrev below : ℕ → ℕ → ℕ → Body
below this_class super_class flags = record {
  flags = flags;
  this_class = this_class;
  super_class = super_class;
  interfaces = [];
  fields = [];
  methods = [];
  attributes = [];
}

-- PUBLIC and SUPER, and a public interface's flags
abbrev CLASS : ℕ
CLASS = 0x0021

abbrev AN_INTERFACE : ℕ
AN_INTERFACE = 0x0601

-- a Class that is no array's; a text and no entry are none
classes : map (class_at pool) (2 ∷ 4 ∷ 6 ∷ 3 ∷ 0 ∷ 7 ∷ []) ≡ Some (codes "java/lang/Object") ∷ Some (codes "A") ∷ None ∷ None ∷ None ∷ None ∷ []
classes = refl

-- java/lang/Object: without a superclass, with one, with itself for one, as an interface
object_alone : super_fits pool (below 2 0 CLASS) ≡ true
object_alone = refl

object_below_a_class : super_fits pool (below 2 4 CLASS) ≡ false
object_below_a_class = refl

object_below_itself : super_fits pool (below 2 2 CLASS) ≡ false
object_below_itself = refl

object_as_an_interface : super_fits pool (below 2 0 AN_INTERFACE) ≡ false
object_as_an_interface = refl

-- another class: without a superclass, below java/lang/Object, below another
class_alone : super_fits pool (below 4 0 CLASS) ≡ false
class_alone = refl

class_below_object : super_fits pool (below 4 2 CLASS) ≡ true
class_below_object = refl

-- also below itself: that is no matter of one file
class_below_a_class : super_fits pool (below 4 4 CLASS) ≡ true
class_below_a_class = refl

-- an interface: without a superclass, below java/lang/Object, below another class
interface_alone : super_fits pool (below 4 0 AN_INTERFACE) ≡ false
interface_alone = refl

interface_below_object : super_fits pool (below 4 2 AN_INTERFACE) ≡ true
interface_below_object = refl

interface_below_a_class : super_fits pool (below 4 4 AN_INTERFACE) ≡ false
interface_below_a_class = refl

-- by the flag INTERFACE alone
interfaces : map (λ flags. is_interface (below 4 2 flags)) (0x0200 ∷ 0xffff ∷ 0xfdff ∷ 0 ∷ []) ≡ true ∷ true ∷ false ∷ false ∷ []
interfaces = refl

-- this class first, then its superclass, if it has one, then its interfaces
numbers : class_numbers (record { flags = 33; this_class = 4; super_class = 2; interfaces = 8 ∷ 9 ∷ []; fields = []; methods = []; attributes = [] }) ≡ 4 ∷ 2
    ∷ 8 ∷ 9 ∷ []
numbers = refl

numbers_without : class_numbers (below 2 0 CLASS) ≡ 2 ∷ []
numbers_without = refl

extends : extends_object AN_INTERFACE (Some object) ≡ true
extends = refl

extends_another : extends_object AN_INTERFACE (Some (codes "A")) ≡ false
extends_another = refl

extends_nothing : extends_object AN_INTERFACE None ≡ false
extends_nothing = refl

class_extends_another : extends_object CLASS (Some (codes "A")) ≡ true
class_extends_another = refl
