-- What resolution, selection and invokespecial look through (JVMS 5.4.3.3, 5.4.3.4, 5.4.6, 6.5).
use Rattle.std.specs.Prelude.{◌≡◌, ℕ, List, [], ◌∷◌, Some, None, Ok, Err, codes, refl}
use Rattle.jl_class.specs.Class.{Method}
use Rattle.jl_pool.specs.declared.reference.Reference.{Reference}
use Rattle.jl_class.specs.declared.site.Kind.TheVariants.{Virtual, Special, Interface}
use Rattle.jl_types.specs.declared.answer.Chosen.TheVariants.{Method as Picked, Nothing}
use Rattle.jl_types.specs.declared.answer.Outcome.TheVariants.{Run, Throws}
use Rattle.jl_types.specs.declared.answer.Recv.TheVariants.{Null, Of}
use Rattle.jl_types.specs.declared.answer.Answer.TheVariants as answer
use Rattle.jl_types.specs.declared.answer.Unlinked.TheVariants.{Gone, NoSite}
use Rattle.jl_types.specs.declared.answer.ResolveAnswer.TheVariants.{Fault}
use Rattle.jl_types.specs.declared.answer.Throwable.TheVariants.{NoSuchMethodError, AbstractMethodError}
use Rattle.jl_types.specs.declared.link.Link.TheVariants as link
use Rattle.jl_types.specs.Values.World.{Class, Classes, World}
use Rattle.jl_types.specs.Linkage.Resolution.{resolved}
use Rattle.jl_types.specs.Linkage.Selection.{chosen, virtual_outcome, interface_outcome, special_outcome}
use Rattle.jl_types.specs.Linkage.Links.{scratch}
use Rattle.jl_types.specs.Linkage.Calls.{dispatch}
use Rattle.jl_types.proofs.Rows.Sketch.{object, class, classes, method, first, naming, world, calling, class_ref, itf_ref}

-- java/lang/Object with this method
abbrev root : Method → Class
root m = class (codes "java/lang/Object") 33 None [] (m ∷ [])

-- ---- java/lang/Object's methods, from an interface

-- I 1 declares these; M 2 is the caller
abbrev under : Method → List Method → Classes
under m own = classes (root m ∷ class (codes "I") 1537 (Some 0) [] own ∷ class (codes "M") 33 (Some 0) [] [] ∷ [])

of_object : resolved (under (method 1 (codes "h")) []) 2 (itf_ref (codes "I") (codes "h")) ≡ Ok (naming 1 (first 0))
of_object = refl

own_first : resolved (under (method 1 (codes "h")) (method 1 (codes "h") ∷ [])) 2 (itf_ref (codes "I") (codes "h")) ≡ Ok (naming 1 (first 1))
own_first = refl

protected_of_object : resolved (under (method 4 (codes "h")) []) 2 (itf_ref (codes "I") (codes "h")) ≡ Err (Fault NoSuchMethodError)
protected_of_object = refl

static_of_object : resolved (under (method 9 (codes "h")) []) 2 (itf_ref (codes "I") (codes "h")) ≡ Err (Fault NoSuchMethodError)
static_of_object = refl

-- ---- superinterface methods that count, and those that hide others

-- I 1 with f; K 2 below it; X 3 implements K; M 4
abbrev stacked : ℕ → List Method → Classes
stacked flags own = classes (object
    ∷ class (codes "I") 1537 (Some 0) [] (method flags (codes "f") ∷ [])
    ∷ class (codes "K") 1537 (Some 0) (1 ∷ []) own
    ∷ class (codes "X") 33 (Some 0) (2 ∷ []) []
    ∷ class (codes "M") 33 (Some 0) [] []
    ∷ [])

static_candidate : resolved (stacked 9 []) 4 (class_ref (codes "X") (codes "f")) ≡ Err (Fault NoSuchMethodError)
static_candidate = refl

private_candidate : resolved (stacked 2 []) 4 (class_ref (codes "X") (codes "f")) ≡ Err (Fault NoSuchMethodError)
private_candidate = refl

-- an abstract f of K hides the default of I: nothing is picked, though something is found
hidden_default : chosen (stacked 1 (method 1025 (codes "f") ∷ [])) 3 (first 1) ≡ Nothing
hidden_default = refl

found_though_hidden : resolved (stacked 1 (method 1025 (codes "f") ∷ [])) 4 (class_ref (codes "X") (codes "f")) ≡ Ok (naming 3 (first 1))
found_though_hidden = refl

abstract_at_virtual : virtual_outcome (stacked 1 (method 1025 (codes "f") ∷ [])) 3 (first 1) ≡ Throws AbstractMethodError
abstract_at_virtual = refl

abstract_at_interface : interface_outcome (stacked 1 (method 1025 (codes "f") ∷ [])) 3 1 (first 1) ≡ Throws AbstractMethodError
abstract_at_interface = refl

-- X's own f, which it inherits, called by X
abstract_at_special : special_outcome (stacked 1 (method 1025 (codes "f") ∷ [])) 3 3 (class_ref (codes "X") (codes "f")) ≡ Throws AbstractMethodError
abstract_at_special = refl

-- a static one hides nothing
nothing_hidden : chosen (stacked 1 (method 9 (codes "f") ∷ [])) 3 (first 1) ≡ Picked (first 1)
nothing_hidden = refl

-- ---- invokespecial

-- A 1 with f, B 2 below it with its own, C 3 below B calls A.f: the search begins at B
by_direct_superclass : scratch (world (object
    ∷ class (codes "A") 33 (Some 0) [] (method 1 (codes "f") ∷ [])
    ∷ class (codes "B") 33 (Some 1) [] (method 1 (codes "f") ∷ [])
    ∷ class (codes "C") 33 (Some 2) [] (calling 1 (codes "run") Special (class_ref (codes "A") (codes "f")) ∷ [])
    ∷ []) 3) 0 ≡ Ok (link.Direct (Run (first 2)))
by_direct_superclass = refl

-- A 1 with f, B 2 below it with a static one, C 3 below B calls super.f(): the search begins at B
over_a_static_one : scratch (world (object
    ∷ class (codes "A") 33 (Some 0) [] (method 1 (codes "f") ∷ [])
    ∷ class (codes "B") 33 (Some 1) [] (method 9 (codes "f") ∷ [])
    ∷ class (codes "C") 33 (Some 2) [] (calling 1 (codes "run") Special (class_ref (codes "A") (codes "f")) ∷ [])
    ∷ []) 3) 0 ≡ Ok (link.Direct (Run (first 1)))
over_a_static_one = refl

-- I 1 with a default f, J 2 below it; A 3 implements J; B 4 below A implements both, and calls f as this reference names it
abbrev with_default : Reference (List ℕ) → World
with_default ref = world (object
    ∷ class (codes "I") 1537 (Some 0) [] (method 1 (codes "f") ∷ [])
    ∷ class (codes "J") 1537 (Some 0) (1 ∷ []) []
    ∷ class (codes "A") 33 (Some 0) (2 ∷ []) []
    ∷ class (codes "B") 33 (Some 3) (1 ∷ 2 ∷ []) (calling 1 (codes "run") Special ref ∷ [])
    ∷ []) 4

default_of_the_interface : scratch (with_default (itf_ref (codes "I") (codes "f"))) 0 ≡ Ok (link.Direct (Run (first 1)))
default_of_the_interface = refl

default_of_its_superinterface : scratch (with_default (itf_ref (codes "J") (codes "f"))) 0 ≡ Ok (link.Direct (Run (first 1)))
default_of_its_superinterface = refl

default_of_the_superclass : scratch (with_default (class_ref (codes "A") (codes "f"))) 0 ≡ Ok (link.Direct (Run (first 1)))
default_of_the_superclass = refl

-- I 1 with a default f, A 2 with its own; B 3 below A implements I and calls I.super.f()
over_the_superclass : scratch (world (object
    ∷ class (codes "I") 1537 (Some 0) [] (method 1 (codes "f") ∷ [])
    ∷ class (codes "A") 33 (Some 0) [] (method 1 (codes "f") ∷ [])
    ∷ class (codes "B") 33 (Some 2) (1 ∷ []) (calling 1 (codes "run") Special (itf_ref (codes "I") (codes "f")) ∷ [])
    ∷ []) 3) 0 ≡ Ok (link.Direct (Run (first 1)))
over_the_superclass = refl

-- A 1 with f, B 2 below it calls its own
own_method : scratch (world (object
    ∷ class (codes "A") 33 (Some 0) [] (method 1 (codes "f") ∷ [])
    ∷ class (codes "B") 33 (Some 1) [] (calling 1 (codes "run") Special (class_ref (codes "B") (codes "f")) ∷ method 1 (codes "f") ∷ [])
    ∷ []) 2) 0 ≡ Ok (link.Direct (Run (record { class = 2; index = 1 })))
own_method = refl

-- X 2 implements I 1 and calls I.h, which java/lang/Object alone declares
special_of_object : scratch (world (root (method 1 (codes "h"))
    ∷ class (codes "I") 1537 (Some 0) [] []
    ∷ class (codes "X") 33 (Some 0) (1 ∷ []) (calling 1 (codes "run") Special (itf_ref (codes "I") (codes "h")) ∷ [])
    ∷ []) 2) 0 ≡ Ok (link.Direct (Run (first 0)))
special_of_object = refl

-- B 2 has no constructor of its own
inherited_constructor : scratch (world (object
    ∷ class (codes "A") 33 (Some 0) [] (method 1 (codes "<init>") ∷ [])
    ∷ class (codes "B") 33 (Some 1) [] []
    ∷ class (codes "M") 33 (Some 0) [] (calling 9 (codes "run") Special (class_ref (codes "B") (codes "<init>")) ∷ [])
    ∷ []) 3) 0 ≡ Ok (link.Fault NoSuchMethodError)
inherited_constructor = refl

-- A 1 and B 2 below it have constructors; C 3 below B calls A's
named_constructor : scratch (world (object
    ∷ class (codes "A") 33 (Some 0) [] (method 1 (codes "<init>") ∷ [])
    ∷ class (codes "B") 33 (Some 1) [] (method 1 (codes "<init>") ∷ [])
    ∷ class (codes "C") 33 (Some 2) [] (calling 1 (codes "run") Special (class_ref (codes "A") (codes "<init>")) ∷ [])
    ∷ []) 3) 0 ≡ Ok (link.Direct (Run (first 1)))
named_constructor = refl

-- ---- invokeinterface of a private method

-- I 1 calls its own private f; X 2 implements it
private_runs : dispatch (world (object
    ∷ class (codes "I") 1537 (Some 0) [] (calling 1 (codes "run") Interface (itf_ref (codes "I") (codes "f")) ∷ method 2 (codes "f") ∷ [])
    ∷ class (codes "X") 33 (Some 0) (1 ∷ []) []
    ∷ []) 1) 0 (Of 2) ≡ answer.Run (record { class = 1; index = 1 })
private_runs = refl

-- ---- invokevirtual of a private method: of an abstract class A 1 without subclasses

private_without_receivers : scratch (world (object
    ∷ class (codes "A") 1057 (Some 0) [] (calling 1 (codes "run") Virtual (class_ref (codes "A") (codes "f")) ∷ method 2 (codes "f") ∷ [])
    ∷ []) 1) 0 ≡ Ok (link.Direct (Run (record { class = 1; index = 1 })))
private_without_receivers = refl

-- ---- a place whose class isn't there, one without an invocation, and a site that nobody requested

absent_class : scratch (world (object ∷ []) 7) 0 ≡ Err Gone
absent_class = refl

call_of_absent_class : dispatch (world (object ∷ []) 7) 0 Null ≡ answer.Unlinked Gone
call_of_absent_class = refl

no_invocation : scratch (world (object ∷ []) 0) 0 ≡ Err NoSite
no_invocation = refl

no_site : scratch (world (object ∷ []) 7) 1 ≡ Err NoSite
no_site = refl

call_of_no_site : dispatch (world (object ∷ []) 7) 1 Null ≡ answer.Unlinked NoSite
call_of_no_site = refl
