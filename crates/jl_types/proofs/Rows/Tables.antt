-- A table of eight, and no more.
use Rattle.std.specs.Prelude.{◌≡◌, ℕ, ◌+◌, List, [], ◌∷◌, map, Some, Ok, codes, refl}
use Rattle.std.specs.List.{range_with_len}
use Rattle.jl_class.specs.declared.site.Kind.TheVariants.{Virtual}
use Rattle.jl_types.specs.Values.World.{Class}
use Rattle.jl_types.specs.declared.answer.Outcome.TheVariants.{Run}
use Rattle.jl_types.specs.declared.link.Link.TheVariants.{Table, Mega}
use Rattle.jl_types.specs.declared.link.TableKind.TheVariants as kind
use Rattle.jl_types.specs.Linkage.Links.{scratch}
use Rattle.jl_types.proofs.Rows.Sketch.{object, class, method, first, world, calling, class_ref}

-- abstract A with f, a caller, and n children of A with their own f
abbrev family : ℕ → List Class
family n = object
    ∷ class (codes "A") 1057 (Some 0) [] (method 1025 (codes "f") ∷ [])
    ∷ class (codes "M") 33 (Some 0) [] (calling 9 (codes "run") Virtual (class_ref (codes "A") (codes "f")) ∷ [])
    ∷ map (λ i. class (67 ∷ (48 + i) ∷ []) 33 (Some 1) [] (method 1 (codes "f") ∷ [])) (range_with_len 0 n)

eight : scratch (world (family 8) 2) 0 ≡ Ok (Table kind.Virtual (map (λ c. (c, Run (first c))) (range_with_len 3 8)))
eight = refl

nine : scratch (world (family 9) 2) 0 ≡ Ok Mega
nine = refl

ten : scratch (world (family 10) 2) 0 ≡ Ok Mega
ten = refl

none : scratch (world (family 0) 2) 0 ≡ Ok (Table kind.Virtual [])
none = refl
