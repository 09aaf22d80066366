-- A protected method, from a subclass in another package.
use Rattle.std.specs.Prelude.{◌≡◌, ℕ, List, [], ◌∷◌, Some, Ok, codes, refl}
use Rattle.jl_class.specs.declared.site.Kind.TheVariants.{Virtual}
use Rattle.jl_types.specs.Values.World.{Class}
use Rattle.jl_types.specs.declared.answer.Outcome.TheVariants.{Run}
use Rattle.jl_types.specs.declared.answer.Throwable.TheVariants.{IllegalAccessError}
use Rattle.jl_types.specs.declared.link.Link.TheVariants.{Fault, Direct}
use Rattle.jl_types.specs.Linkage.Links.{scratch}
use Rattle.jl_types.proofs.Rows.Sketch.{object, class, method, first, world, calling, class_ref}

-- p/C with a protected f; q/D and q/E below it; D's code names owner.f
abbrev rows : List ℕ → List Class
rows owner = object
    ∷ class (codes "p/C") 33 (Some 0) [] (method 4 (codes "f") ∷ [])
    ∷ class (codes "q/D") 33 (Some 1) [] (calling 9 (codes "run") Virtual (class_ref owner (codes "f")) ∷ [])
    ∷ class (codes "q/E") 33 (Some 1) [] []
    ∷ []

by_e : scratch (world (rows (codes "q/E")) 2) 0 ≡ Ok (Fault IllegalAccessError)
by_e = refl

by_c : scratch (world (rows (codes "p/C")) 2) 0 ≡ Ok (Direct (Run (first 1)))
by_c = refl
