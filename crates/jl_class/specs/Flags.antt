-- Access flags (JVMS 4.1, 4.6), and java/lang/Object.
use Rattle.std.specs.Prelude.{ℕ, Bool, not, ◌==◌, ◌||◌, List, codes, Option, bit_and, false}
use Rattle.std.specs.Option.{option_map_or}
use Rattle.std.specs.Str.{bytes_eq}

abbrev pub has_flag : ℕ → ℕ → Bool
has_flag flags flag = not (bit_and flags flag == 0)

abbrev pub PUBLIC : ℕ
PUBLIC = 0x0001

abbrev pub PRIVATE : ℕ
PRIVATE = 0x0002

abbrev pub PROTECTED : ℕ
PROTECTED = 0x0004

abbrev pub STATIC : ℕ
STATIC = 0x0008

abbrev pub NATIVE : ℕ
NATIVE = 0x0100

abbrev pub INTERFACE : ℕ
INTERFACE = 0x0200

abbrev pub ABSTRACT : ℕ
ABSTRACT = 0x0400

abbrev pub MODULE : ℕ
MODULE = 0x8000

abbrev pub object : List ℕ
object = codes "java/lang/Object"

-- if these are an interface's flags, the superclass is java/lang/Object
abbrev pub extends_object : ℕ → Option (List ℕ) → Bool
extends_object flags superclass = not (has_flag flags INTERFACE) || option_map_or (λ text. bytes_eq text object) superclass false
