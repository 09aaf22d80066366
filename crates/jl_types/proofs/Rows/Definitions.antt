-- What a loader refuses to define (JVMS 5.3.5), each fault once, and each pair of neighbours in their order.
use Rattle.std.specs.Prelude.{◌≡◌, ℕ, List, [], ◌∷◌, ◌++◌, Some, None, Ok, Err, Result, length, codes, refl}
use Rattle.jl_types.specs.declared.limits.Limits.{Limits}
use Rattle.jl_types.specs.Events.Limits.{fixed}
use Rattle.jl_types.specs.Events.Event.{Event}
use Rattle.jl_types.specs.declared.event.EventOf.TheVariants.{NewLoader, Define, Delegate}
use Rattle.jl_types.specs.declared.event.Made.{Made}
use Rattle.jl_types.specs.declared.event.Made.TheVariants as made
use Rattle.jl_types.specs.declared.refusal.Refusal.{Refusal}
use Rattle.jl_types.specs.declared.refusal.Refusal.TheVariants as refusal
use Rattle.jl_types.specs.declared.refusal.DefineFault.TheVariants.{UnknownLoader, AlreadyRecorded, NamesItself, MissingParent, SuperIsInterface, FinalSuper}
use Rattle.jl_types.specs.declared.refusal.DefineFault.TheVariants.{NotAnInterface, InaccessibleParent, SecondObject, Full}
use Rattle.jl_types.specs.Values.World.{Class, World}
use Rattle.jl_types.specs.Events.Verdict.{verdict}
use Rattle.jl_types.specs.Events.History.{world_after}

abbrev object : List ℕ
object = codes "java/lang/Object"

abbrev defines : ℕ → List ℕ → ℕ → List ℕ → List (List ℕ) → Event
defines loader name flags parent interfaces =
    Define loader (record { name = name; flags = flags; superclass = Some parent; interfaces = interfaces; nest_host = None; nest_members = []; methods = [] })

abbrev root : ℕ → Event
root loader = Define loader (record { name = object; flags = 33; superclass = None; interfaces = []; nest_host = None; nest_members = []; methods = [] })

-- java/lang/Object 0, which loader 1 finds, too; F 1 is final, I 2 an interface, p/A 3 and p/I 4 aren't public, J 5 is a final
-- interface
abbrev before : List Event
before = root 0 ∷ NewLoader ∷ Delegate 1 object 0
    ∷ defines 0 (codes "F") 49 object []
    ∷ defines 0 (codes "I") 1537 object []
    ∷ defines 0 (codes "p/A") 32 object []
    ∷ defines 0 (codes "p/I") 1536 object []
    ∷ defines 0 (codes "J") 1553 object []
    ∷ []

abbrev answers : Event → Result Made Refusal
answers e = verdict (fixed 65536) (world_after before) e

-- ---- each alone

implements : answers (defines 0 (codes "X") 33 object (codes "I" ∷ [])) ≡ Ok (made.Class 6)
implements = refl

final_superclass : answers (defines 0 (codes "X") 33 (codes "F") []) ≡ Err (refusal.Define FinalSuper)
final_superclass = refl

interface_as_superclass : answers (defines 0 (codes "X") 33 (codes "I") []) ≡ Err (refusal.Define SuperIsInterface)
interface_as_superclass = refl

class_as_interface : answers (defines 0 (codes "X") 33 object (codes "I" ∷ codes "F" ∷ [])) ≡ Err (refusal.Define (NotAnInterface (codes "F")))
class_as_interface = refl

closed_interface : answers (defines 0 (codes "q/X") 33 object (codes "I" ∷ codes "p/I" ∷ [])) ≡ Err (refusal.Define (InaccessibleParent (codes "p/I")))
closed_interface = refl

open_in_package : answers (defines 0 (codes "p/X") 33 object (codes "p/I" ∷ [])) ≡ Ok (made.Class 6)
open_in_package = refl

missing_interface : answers (defines 0 (codes "X") 33 object (codes "I" ∷ codes "K" ∷ [])) ≡ Err (refusal.Define (MissingParent (codes "K")))
missing_interface = refl

its_own_interface : answers (defines 0 (codes "X") 1537 object (codes "X" ∷ [])) ≡ Err (refusal.Define NamesItself)
its_own_interface = refl

-- ---- in order

unknown_before_second : answers (root 2) ≡ Err (refusal.Define UnknownLoader)
unknown_before_second = refl

second_before_recorded : answers (root 1) ≡ Err (refusal.Define SecondObject)
second_before_recorded = refl

recorded_before_itself : answers (defines 0 (codes "F") 33 (codes "F") []) ≡ Err (refusal.Define AlreadyRecorded)
recorded_before_itself = refl

itself_before_missing : answers (defines 0 (codes "X") 33 (codes "X") []) ≡ Err (refusal.Define NamesItself)
itself_before_missing = refl

missing_before_interface : answers (defines 0 (codes "X") 33 (codes "I") (codes "K" ∷ [])) ≡ Err (refusal.Define (MissingParent (codes "K")))
missing_before_interface = refl

interface_before_final : answers (defines 0 (codes "X") 33 (codes "J") []) ≡ Err (refusal.Define SuperIsInterface)
interface_before_final = refl

final_before_no_interface : answers (defines 0 (codes "X") 33 (codes "F") (codes "F" ∷ [])) ≡ Err (refusal.Define FinalSuper)
final_before_no_interface = refl

no_interface_before_closed : answers (defines 0 (codes "q/X") 33 (codes "p/A") (codes "p/A" ∷ [])) ≡ Err (refusal.Define (NotAnInterface (codes "p/A")))
no_interface_before_closed = refl

-- ---- of one fault, the superclass's first, then those of the superinterfaces as the file has them

missing_superclass_first : answers (defines 0 (codes "X") 33 (codes "L") (codes "K" ∷ [])) ≡ Err (refusal.Define (MissingParent (codes "L")))
missing_superclass_first = refl

missing_in_file_order : answers (defines 0 (codes "X") 33 object (codes "L" ∷ codes "K" ∷ [])) ≡ Err (refusal.Define (MissingParent (codes "L")))
missing_in_file_order = refl

no_interfaces_in_file_order : answers (defines 0 (codes "X") 33 object (codes "F" ∷ object ∷ [])) ≡ Err (refusal.Define (NotAnInterface (codes "F")))
no_interfaces_in_file_order = refl

closed_superclass_first : answers (defines 0 (codes "q/X") 33 (codes "p/A") (codes "p/I" ∷ [])) ≡ Err (refusal.Define (InaccessibleParent (codes "p/A")))
closed_superclass_first = refl

closed_in_file_order : verdict (fixed 65536) (world_after (before ++ defines 0 (codes "r/I") 1536 object [] ∷ []))
    (defines 0 (codes "q/X") 33 object (codes "r/I" ∷ codes "p/I" ∷ []))
    ≡ Err (refusal.Define (InaccessibleParent (codes "r/I")))
closed_in_file_order = refl

interface_twice : answers (defines 0 (codes "X") 33 object (codes "I" ∷ codes "I" ∷ [])) ≡ Ok (made.Class 6)
interface_twice = refl

-- ---- at most 65,536 classes

-- the classes before, and any more
abbrev with_more : List Class → World
with_more more =
    let w = world_after before in
    record w { classes = record w.classes { rows = w.classes.rows ++ more } }

last_class : (more : List Class) → length (with_more more).classes.rows ≡ 65535
    → verdict (fixed 65536) (with_more more) (defines 0 (codes "X") 33 object []) ≡ Ok (made.Class 65535)
last_class more e = rw e refl

too_many_classes : (more : List Class) → length (with_more more).classes.rows ≡ 65536
    → verdict (fixed 65536) (with_more more) (defines 0 (codes "X") 33 object []) ≡ Err (refusal.Define Full)
too_many_classes more e = rw e refl

-- if a linker may have more, and if it may have fewer
abbrev at_most : ℕ → Limits
at_most most = record (fixed 65536) { classes = most }

last_wide_class : (more : List Class) → length (with_more more).classes.rows ≡ 69999
    → verdict (at_most 70000) (with_more more) (defines 0 (codes "X") 33 object []) ≡ Ok (made.Class 69999)
last_wide_class more e = rw e refl

too_many_wide_classes : (more : List Class) → length (with_more more).classes.rows ≡ 70000
    → verdict (at_most 70000) (with_more more) (defines 0 (codes "X") 33 object []) ≡ Err (refusal.Define Full)
too_many_wide_classes more e = rw e refl

-- however many there are
closed_before_too_many : (more : List Class) → verdict (fixed 65536) (with_more more) (defines 0 (codes "q/X") 33 (codes "p/A") []) ≡ Err
    (refusal.Define (InaccessibleParent (codes "p/A")))
closed_before_too_many more = refl
