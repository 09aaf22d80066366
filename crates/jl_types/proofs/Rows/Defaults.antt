-- Two unrelated defaults, and one that is more specific.
use Rattle.std.specs.Prelude.{◌≡◌, List, [], ◌∷◌, Some, codes, refl}
use Rattle.jl_class.specs.declared.site.Kind.TheVariants.{Interface}
use Rattle.jl_types.specs.Values.World.{Class}
use Rattle.jl_types.specs.declared.answer.Chosen.TheVariants.{Method as Picked, Several}
use Rattle.jl_types.specs.declared.answer.Recv.TheVariants.{Null, Of}
use Rattle.jl_types.specs.declared.answer.Answer.TheVariants.{Run, Throws}
use Rattle.jl_types.specs.declared.answer.Throwable.TheVariants.{IncompatibleClassChangeError, NullPointerException}
use Rattle.jl_types.specs.Linkage.Selection.{chosen}
use Rattle.jl_types.specs.Linkage.Calls.{dispatch}
use Rattle.jl_types.proofs.Rows.Sketch.{object, class, classes, method, first, world, calling, itf_ref}

-- I and J each with a default f, K below both with its own; X implements I and J, Y all three
abbrev rows : List Class
rows = object
    ∷ class (codes "I") 1537 (Some 0) [] (method 1 (codes "f") ∷ [])
    ∷ class (codes "J") 1537 (Some 0) [] (method 1 (codes "f") ∷ [])
    ∷ class (codes "X") 33 (Some 0) (1 ∷ 2 ∷ []) []
    ∷ class (codes "K") 1537 (Some 0) (1 ∷ 2 ∷ []) (method 1 (codes "f") ∷ [])
    ∷ class (codes "Y") 33 (Some 0) (1 ∷ 2 ∷ 4 ∷ []) []
    ∷ class (codes "M") 33 (Some 0) [] (calling 9 (codes "run") Interface (itf_ref (codes "I") (codes "f")) ∷ [])
    ∷ []

two_defaults : chosen (classes rows) 3 (first 1) ≡ Several
two_defaults = refl

throws : dispatch (world rows 6) 0 (Of 3) ≡ Throws IncompatibleClassChangeError
throws = refl

of_null : dispatch (world rows 6) 0 Null ≡ Throws NullPointerException
of_null = refl

most_specific : chosen (classes rows) 5 (first 1) ≡ Picked (first 4)
most_specific = refl

runs_k : dispatch (world rows 6) 0 (Of 5) ≡ Run (first 4)
runs_k = refl
