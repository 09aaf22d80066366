-- Who may name a method (JVMS 5.4.4): each sentence of the rule once.
use Rattle.std.specs.Prelude.{◌≡◌, ℕ, List, [], ◌∷◌, Option, Some, None, Ok, Err, Result, codes, refl}
use Rattle.jl_class.specs.Class.{Method}
use Rattle.jl_types.specs.declared.answer.ResolveAnswer.{ResolveAnswer}
use Rattle.jl_types.specs.declared.answer.ResolveAnswer.TheVariants.{NotReady, Fault}
use Rattle.jl_types.specs.declared.answer.Missing.TheVariants.{CallerHost, MethodHost}
use Rattle.jl_types.specs.declared.answer.Throwable.TheVariants.{IllegalAccessError, IncompatibleClassChangeError}
use Rattle.jl_types.specs.Values.World.{Class, Classes}
use Rattle.jl_types.specs.Linkage.Resolution.{Resolved, resolved}
use Rattle.jl_types.proofs.Rows.Sketch.{object, class, classes, method, first, naming, class_ref, itf_ref}

-- p/C 1 with f; q/D 2 and q/E 3 below it; p/X 4 and q/X 5 below java/lang/Object
abbrev with_flags : ℕ → Classes
with_flags flags = classes (object
    ∷ class (codes "p/C") 33 (Some 0) [] (method flags (codes "f") ∷ [])
    ∷ class (codes "q/D") 33 (Some 1) [] []
    ∷ class (codes "q/E") 33 (Some 1) [] []
    ∷ class (codes "p/X") 33 (Some 0) [] []
    ∷ class (codes "q/X") 33 (Some 0) [] []
    ∷ [])

abbrev named : ℕ → ℕ → List ℕ → Result Resolved ResolveAnswer
named flags caller owner = resolved (with_flags flags) caller (class_ref owner (codes "f"))

public_to_all : named 1 5 (codes "p/C") ≡ Ok (naming 1 (first 1))
public_to_all = refl

-- protected: from a subclass by way of itself, a subclass or a superclass
protected_by_superclass : named 4 2 (codes "p/C") ≡ Ok (naming 1 (first 1))
protected_by_superclass = refl

protected_by_itself : named 4 2 (codes "q/D") ≡ Ok (naming 2 (first 1))
protected_by_itself = refl

protected_by_another : named 4 2 (codes "q/E") ≡ Err (Fault IllegalAccessError)
protected_by_another = refl

-- a static one by way of any
protected_static : named 12 2 (codes "q/E") ≡ Ok (naming 3 (first 1))
protected_static = refl

protected_in_package : named 4 4 (codes "p/C") ≡ Ok (naming 1 (first 1))
protected_in_package = refl

protected_elsewhere : named 4 5 (codes "p/C") ≡ Err (Fault IllegalAccessError)
protected_elsewhere = refl

-- without access flag: in the run-time package alone
flagless_in_package : named 0 4 (codes "p/C") ≡ Ok (naming 1 (first 1))
flagless_in_package = refl

flagless_elsewhere : named 0 2 (codes "p/C") ≡ Err (Fault IllegalAccessError)
flagless_elsewhere = refl

private_to_others : named 2 4 (codes "p/C") ≡ Err (Fault IllegalAccessError)
private_to_others = refl

private_to_itself : named 2 1 (codes "p/C") ≡ Ok (naming 1 (first 1))
private_to_itself = refl

-- ---- nests

abbrev in_nest : List ℕ → Option (List ℕ) → List (List ℕ) → List Method → Class
in_nest name host members methods = record {
  loader = 0;
  superclass = Some 0;
  interfaces = [];
  file = record { name = name; flags = 33; superclass = None; interfaces = []; nest_host = host; nest_members = members; methods = methods };
}

-- In 1 with a private g and a NestHost; the caller X 2
abbrev nested : List ℕ → Option (List ℕ) → List Class → Classes
nested host own more = classes (object
    ∷ in_nest (codes "In") (Some host) [] (method 2 (codes "g") ∷ [])
    ∷ in_nest (codes "X") own [] []
    ∷ more)

-- the caller's host is looked for first
no_caller_host : resolved (nested (codes "Out") (Some (codes "Else")) []) 2 (class_ref (codes "In") (codes "g")) ≡ Err (NotReady CallerHost)
no_caller_host = refl

no_method_host : resolved (nested (codes "Out") None []) 2 (class_ref (codes "In") (codes "g")) ≡ Err (NotReady MethodHost)
no_method_host = refl

both_listed : resolved (nested (codes "Out") (Some (codes "Out")) (in_nest (codes "Out") None (codes "In" ∷ codes "X" ∷ []) [] ∷ [])) 2
    (class_ref (codes "In") (codes "g")) ≡ Ok (naming 1 (first 1))
both_listed = refl

one_listed : resolved (nested (codes "Out") (Some (codes "Out")) (in_nest (codes "Out") None (codes "X" ∷ []) [] ∷ [])) 2
    (class_ref (codes "In") (codes "g")) ≡ Err (Fault IllegalAccessError)
one_listed = refl

-- a class is in one nest with itself, whatever its host is
own_nest : resolved (nested (codes "Out") None []) 1 (class_ref (codes "In") (codes "g")) ≡ Ok (naming 1 (first 1))
own_nest = refl

-- q/Out 3 lists In, but is in another run-time package
other_package : resolved (nested (codes "q/Out") None (in_nest (codes "q/Out") None (codes "In" ∷ []) [] ∷ [])) 3 (class_ref (codes "In") (codes "g")) ≡ Err
    (Fault IllegalAccessError)
other_package = refl

-- ---- the class itself comes before its kind

-- p/A 1 isn't public; p/M 2 and q/M 3 name it
abbrev closed : Classes
closed = classes (object
    ∷ class (codes "p/A") 32 (Some 0) [] []
    ∷ class (codes "p/M") 33 (Some 0) [] []
    ∷ class (codes "q/M") 33 (Some 0) [] []
    ∷ [])

closed_elsewhere : resolved closed 3 (itf_ref (codes "p/A") (codes "f")) ≡ Err (Fault IllegalAccessError)
closed_elsewhere = refl

closed_in_package : resolved closed 2 (itf_ref (codes "p/A") (codes "f")) ≡ Err (Fault IncompatibleClassChangeError)
closed_in_package = refl
