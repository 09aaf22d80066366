-- An invokespecial whose search finds an abstract method.
use Rattle.std.specs.Prelude.{◌≡◌, [], ◌∷◌, Some, Ok, codes, refl}
use Rattle.jl_class.specs.declared.site.Kind.TheVariants.{Special}
use Rattle.jl_types.specs.declared.answer.Outcome.TheVariants as outcome
use Rattle.jl_types.specs.declared.answer.Recv.TheVariants.{Null, Of}
use Rattle.jl_types.specs.declared.answer.Answer.TheVariants.{Throws, BadReceiver}
use Rattle.jl_types.specs.declared.answer.Throwable.TheVariants.{AbstractMethodError, NullPointerException}
use Rattle.jl_types.specs.declared.link.Link.TheVariants.{Direct}
use Rattle.jl_types.specs.Linkage.Links.{scratch}
use Rattle.jl_types.specs.Linkage.Calls.{dispatch}
use Rattle.jl_types.specs.Values.World.{World}
use Rattle.jl_types.proofs.Rows.Sketch.{object, class, method, world, calling, class_ref}

-- abstract A with an abstract f; B below A calls super.f
abbrev w : World
w = world (object
    ∷ class (codes "A") 1057 (Some 0) [] (method 1025 (codes "f") ∷ [])
    ∷ class (codes "B") 33 (Some 1) [] (calling 1 (codes "run") Special (class_ref (codes "A") (codes "f")) ∷ [])
    ∷ []) 2

link : scratch w 0 ≡ Ok (Direct (outcome.Throws AbstractMethodError))
link = refl

of_null : dispatch w 0 Null ≡ Throws NullPointerException
of_null = refl

of_concrete : dispatch w 0 (Of 2) ≡ Throws AbstractMethodError
of_concrete = refl

of_abstract : dispatch w 0 (Of 1) ≡ BadReceiver
of_abstract = refl
