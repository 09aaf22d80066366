-- Static methods where an instance method is wanted, and the other way round (JVMS 6.5).
use Rattle.std.specs.Prelude.{◌≡◌, ℕ, List, [], ◌∷◌, Some, Ok, codes, refl}
use Rattle.jl_pool.specs.declared.reference.Reference.{Reference}
use Rattle.jl_class.specs.declared.site.Kind.{Kind}
use Rattle.jl_class.specs.declared.site.Kind.TheVariants.{Virtual, Special, Static, Interface}
use Rattle.jl_types.specs.declared.answer.Recv.TheVariants.{Null}
use Rattle.jl_types.specs.declared.answer.Answer.TheVariants as answer
use Rattle.jl_types.specs.declared.answer.Throwable.TheVariants.{IncompatibleClassChangeError}
use Rattle.jl_types.specs.declared.link.Link.TheVariants.{Fault, Plain}
use Rattle.jl_types.specs.Values.World.{World}
use Rattle.jl_types.specs.Linkage.Links.{scratch}
use Rattle.jl_types.specs.Linkage.Calls.{dispatch}
use Rattle.jl_types.proofs.Rows.Sketch.{object, class, method, first, world, calling, class_ref, itf_ref}

-- A 1, with these flags, has f with these; M 2 calls it
abbrev pub called : ℕ → ℕ → Kind → (List ℕ → List ℕ → Reference (List ℕ)) → World
called class_flags flags kind ref = world (object
    ∷ class (codes "A") class_flags (Some 0) [] (method flags (codes "f") ∷ [])
    ∷ class (codes "M") 33 (Some 0) [] (calling 9 (codes "run") kind (ref (codes "A") (codes "f")) ∷ [])
    ∷ []) 2

static_of_static : scratch (called 33 9 Static class_ref) 0 ≡ Ok (Plain (first 1))
static_of_static = refl

static_of_instance : scratch (called 33 1 Static class_ref) 0 ≡ Ok (Fault IncompatibleClassChangeError)
static_of_instance = refl

virtual_of_static : scratch (called 33 9 Virtual class_ref) 0 ≡ Ok (Fault IncompatibleClassChangeError)
virtual_of_static = refl

special_of_static : scratch (called 33 9 Special class_ref) 0 ≡ Ok (Fault IncompatibleClassChangeError)
special_of_static = refl

interface_of_static : scratch (called 1537 9 Interface itf_ref) 0 ≡ Ok (Fault IncompatibleClassChangeError)
interface_of_static = refl

-- it is thrown before the receiver is looked at
throws_for_null : dispatch (called 33 9 Virtual class_ref) 0 Null ≡ answer.Throws IncompatibleClassChangeError
throws_for_null = refl
