-- invokeinterface: its receivers, and methods that aren't public.
use Rattle.std.specs.Prelude.{◌≡◌, [], ◌∷◌, Some, Ok, codes, refl}
use Rattle.jl_class.specs.declared.site.Kind.TheVariants.{Interface}
use Rattle.jl_types.specs.declared.answer.Outcome.TheVariants as outcome
use Rattle.jl_types.specs.declared.answer.Recv.TheVariants.{Null, Of}
use Rattle.jl_types.specs.declared.answer.Answer.TheVariants.{Run, Throws, BadReceiver}
use Rattle.jl_types.specs.declared.answer.Throwable.TheVariants.{IllegalAccessError, IncompatibleClassChangeError, NullPointerException}
use Rattle.jl_types.specs.declared.link.Link.TheVariants.{Table}
use Rattle.jl_types.specs.declared.link.TableKind.TheVariants as kind
use Rattle.jl_types.specs.Values.World.{World}
use Rattle.jl_types.specs.Linkage.Links.{scratch}
use Rattle.jl_types.specs.Linkage.Calls.{dispatch}
use Rattle.jl_types.proofs.Rows.Sketch.{object, class, method, first, world, calling, itf_ref}

-- I 1 with an abstract f; X 2 with a protected f and Y 3 with a public one implement it; M 4 calls I.f
abbrev w : World
w = world (object
    ∷ class (codes "I") 1537 (Some 0) [] (method 1025 (codes "f") ∷ [])
    ∷ class (codes "X") 33 (Some 0) (1 ∷ []) (method 4 (codes "f") ∷ [])
    ∷ class (codes "Y") 33 (Some 0) (1 ∷ []) (method 1 (codes "f") ∷ [])
    ∷ class (codes "M") 33 (Some 0) [] (calling 9 (codes "run") Interface (itf_ref (codes "I") (codes "f")) ∷ [])
    ∷ []) 4

link : scratch w 0 ≡ Ok (Table kind.Interface ((2, outcome.Throws IllegalAccessError) ∷ (3, outcome.Run (first 3)) ∷ []))
link = refl

of_null : dispatch w 0 Null ≡ Throws NullPointerException
of_null = refl

of_another : dispatch w 0 (Of 4) ≡ Throws IncompatibleClassChangeError
of_another = refl

of_protected : dispatch w 0 (Of 2) ≡ Throws IllegalAccessError
of_protected = refl

of_public : dispatch w 0 (Of 3) ≡ Run (first 3)
of_public = refl

of_interface : dispatch w 0 (Of 1) ≡ BadReceiver
of_interface = refl
