-- A private method of a nest.
use Rattle.std.specs.Prelude.{◌≡◌, ℕ, List, [], ◌∷◌, Option, Some, None, Ok, Err, codes, refl}
use Rattle.jl_class.specs.Class.{Method}
use Rattle.jl_class.specs.declared.site.Kind.TheVariants.{Virtual}
use Rattle.jl_types.specs.Values.World.{Class}
use Rattle.jl_types.specs.declared.answer.Outcome.TheVariants.{Run}
use Rattle.jl_types.specs.declared.answer.Missing.TheVariants.{MethodHost}
use Rattle.jl_types.specs.declared.answer.Unlinked.TheVariants.{NotReady}
use Rattle.jl_types.specs.declared.answer.Throwable.TheVariants.{IllegalAccessError}
use Rattle.jl_types.specs.declared.link.Link.TheVariants.{Fault, Direct}
use Rattle.jl_types.specs.Linkage.Links.{scratch}
use Rattle.jl_types.proofs.Rows.Sketch.{object, method, first, world, calling, class_ref}

abbrev nested : List ℕ → Option (List ℕ) → List (List ℕ) → List Method → Class
nested name host members methods = record {
  loader = 0;
  superclass = Some 0;
  interfaces = [];
  file = record { name = name; flags = 33; superclass = None; interfaces = []; nest_host = host; nest_members = members; methods = methods };
}

abbrev caller : Method
caller = calling 9 (codes "run") Virtual (class_ref (codes "In") (codes "g"))

abbrev inner : Class
inner = nested (codes "In") (Some (codes "Out")) [] (method 2 (codes "g") ∷ [])

not_ready : scratch (world (object ∷ inner ∷ nested (codes "X") None [] (caller ∷ []) ∷ []) 2) 0 ≡ Err (NotReady MethodHost)
not_ready = refl

not_listed : scratch (world (object ∷ inner ∷ nested (codes "X") None [] (caller ∷ []) ∷ nested (codes "Out") None [] [] ∷ []) 2) 0 ≡ Ok
    (Fault IllegalAccessError)
not_listed = refl

no_member : scratch (world (object ∷ inner ∷ nested (codes "X") None [] (caller ∷ []) ∷ nested (codes "Out") None (codes "In" ∷ []) [] ∷ []) 2) 0 ≡ Ok
    (Fault IllegalAccessError)
no_member = refl

in_the_host : scratch (world (object ∷ inner ∷ nested (codes "Out") None (codes "In" ∷ []) (caller ∷ []) ∷ []) 2) 0 ≡ Ok (Direct (Run (first 1)))
in_the_host = refl
