-- What a reference finds among superinterfaces.
use Rattle.std.specs.Prelude.{◌≡◌, ℕ, [], ◌∷◌, Some, Ok, Err, codes, refl}
use Rattle.jl_types.specs.declared.answer.ResolveAnswer.TheVariants.{NotReady, Fault}
use Rattle.jl_types.specs.declared.answer.Missing.TheVariants.{Named}
use Rattle.jl_types.specs.declared.answer.Throwable.TheVariants.{IncompatibleClassChangeError, NoSuchMethodError}
use Rattle.jl_types.specs.Values.World.{Classes}
use Rattle.jl_types.specs.Linkage.Resolution.{resolved}
use Rattle.jl_types.proofs.Rows.Sketch.{object, class, classes, method, first, naming, class_ref, itf_ref}

-- X 3 implements I 1 and J 2, each with its f; M 4 is the caller; K 5 is below I and J
abbrev with_flags : ℕ → ℕ → Classes
with_flags i j = classes (object
    ∷ class (codes "I") 1537 (Some 0) [] (method i (codes "f") ∷ [])
    ∷ class (codes "J") 1537 (Some 0) [] (method j (codes "f") ∷ [])
    ∷ class (codes "X") 1057 (Some 0) (1 ∷ 2 ∷ []) []
    ∷ class (codes "M") 33 (Some 0) [] []
    ∷ class (codes "K") 1537 (Some 0) (1 ∷ 2 ∷ []) []
    ∷ [])

-- both abstract: that of the interface of least number
both_abstract : resolved (with_flags 1025 1025) 4 (class_ref (codes "X") (codes "f")) ≡ Ok (naming 3 (first 1))
both_abstract = refl

-- the only one with a body
one_body : resolved (with_flags 1025 1) 4 (class_ref (codes "X") (codes "f")) ≡ Ok (naming 3 (first 2))
one_body = refl

-- two with bodies: that of the interface of least number again
two_bodies : resolved (with_flags 1 1) 4 (class_ref (codes "X") (codes "f")) ≡ Ok (naming 3 (first 1))
two_bodies = refl

-- of an interface: the only one with a body
one_body_of_interface : resolved (with_flags 1025 1) 4 (itf_ref (codes "K") (codes "f")) ≡ Ok (naming 5 (first 2))
one_body_of_interface = refl

abstract_of_interface : resolved (with_flags 1025 1025) 4 (itf_ref (codes "K") (codes "f")) ≡ Ok (naming 5 (first 1))
abstract_of_interface = refl

two_bodies_of_interface : resolved (with_flags 1 1) 4 (itf_ref (codes "K") (codes "f")) ≡ Ok (naming 5 (first 1))
two_bodies_of_interface = refl

by_interface : resolved (with_flags 1025 1) 4 (itf_ref (codes "I") (codes "f")) ≡ Ok (naming 1 (first 1))
by_interface = refl

class_as_interface : resolved (with_flags 1025 1) 4 (itf_ref (codes "X") (codes "f")) ≡ Err (Fault IncompatibleClassChangeError)
class_as_interface = refl

interface_as_class : resolved (with_flags 1025 1) 4 (class_ref (codes "I") (codes "f")) ≡ Err (Fault IncompatibleClassChangeError)
interface_as_class = refl

no_method : resolved (with_flags 1025 1) 4 (class_ref (codes "X") (codes "g")) ≡ Err (Fault NoSuchMethodError)
no_method = refl

no_class : resolved (with_flags 1025 1) 4 (class_ref (codes "Y") (codes "f")) ≡ Err (NotReady Named)
no_class = refl
