-- Overriding across packages, and by methods that override nothing.
use Rattle.std.specs.Prelude.{◌≡◌, ℕ, List, [], ◌∷◌, Some, codes, refl, true, false}
use Rattle.jl_types.specs.declared.answer.Chosen.TheVariants.{Method as Picked}
use Rattle.jl_types.specs.Values.World.{Classes}
use Rattle.jl_types.specs.Linkage.Overriding.{can_override}
use Rattle.jl_types.specs.Linkage.Selection.{chosen}
use Rattle.jl_types.proofs.Rows.Sketch.{object, class, classes, method, first}

-- p/A f without flag, q/B below it with public f, p/C below that with public f
abbrev mixed : Classes
mixed = classes (object
    ∷ class (codes "p/A") 33 (Some 0) [] (method 0 (codes "f") ∷ [])
    ∷ class (codes "q/B") 33 (Some 1) [] (method 1 (codes "f") ∷ [])
    ∷ class (codes "p/C") 33 (Some 2) [] (method 1 (codes "f") ∷ [])
    ∷ [])

b_keeps_a : chosen mixed 2 (first 1) ≡ Picked (first 1)
b_keeps_a = refl

c_overrides_a : can_override mixed (first 3) (first 1) ≡ true
c_overrides_a = refl

c_overrides_b : can_override mixed (first 3) (first 2) ≡ true
c_overrides_b = refl

c_is_chosen : chosen mixed 3 (first 1) ≡ Picked (first 3)
c_is_chosen = refl

-- p/A f without flag, p/B public f, q/C public f
abbrev chained : Classes
chained = classes (object
    ∷ class (codes "p/A") 33 (Some 0) [] (method 0 (codes "f") ∷ [])
    ∷ class (codes "p/B") 33 (Some 1) [] (method 1 (codes "f") ∷ [])
    ∷ class (codes "q/C") 33 (Some 2) [] (method 1 (codes "f") ∷ [])
    ∷ [])

c_overrides_by_b : can_override chained (first 3) (first 1) ≡ true
c_overrides_by_b = refl

c_is_chosen_by_b : chosen chained 3 (first 1) ≡ Picked (first 3)
c_is_chosen_by_b = refl

-- p/A f without flag; below it a class of this name, with f of these flags; below that q/C with a public f
abbrev bridged : List ℕ → ℕ → Classes
bridged name flags = classes (object
    ∷ class (codes "p/A") 33 (Some 0) [] (method 0 (codes "f") ∷ [])
    ∷ class name 33 (Some 1) [] (method flags (codes "f") ∷ [])
    ∷ class (codes "q/C") 33 (Some 2) [] (method 1 (codes "f") ∷ [])
    ∷ [])

-- C overrides B, but B doesn't override A
c_overrides_b_alone : can_override (bridged (codes "q/B") 1) (first 3) (first 1) ≡ false
c_overrides_b_alone = refl

a_is_chosen : chosen (bridged (codes "q/B") 1) 3 (first 1) ≡ Picked (first 1)
a_is_chosen = refl

-- B overrides A, but C doesn't override B
b_overrides_a_alone : can_override (bridged (codes "p/B") 0) (first 3) (first 1) ≡ false
b_overrides_a_alone = refl

b_is_chosen : chosen (bridged (codes "p/B") 0) 3 (first 1) ≡ Picked (first 2)
b_is_chosen = refl

-- p/Z with a public f, p/A below it f without flag, q/C below that public f: Z isn't between C and A
bridge_above : can_override (classes (object
    ∷ class (codes "p/Z") 33 (Some 0) [] (method 1 (codes "f") ∷ [])
    ∷ class (codes "p/A") 33 (Some 1) [] (method 0 (codes "f") ∷ [])
    ∷ class (codes "q/C") 33 (Some 2) [] (method 1 (codes "f") ∷ [])
    ∷ [])) (first 3) (first 2) ≡ false
bridge_above = refl

-- A 1 with f, B 2 below it with this method
abbrev below : ℕ → List ℕ → Classes
below flags name = classes (object
    ∷ class (codes "A") 33 (Some 0) [] (method 1 (codes "f") ∷ [])
    ∷ class (codes "B") 33 (Some 1) [] (method flags name ∷ [])
    ∷ [])

public_does : can_override (below 1 (codes "f")) (first 2) (first 1) ≡ true
public_does = refl

private_does_not : can_override (below 2 (codes "f")) (first 2) (first 1) ≡ false
private_does_not = refl

private_is_passed_over : chosen (below 2 (codes "f")) 2 (first 1) ≡ Picked (first 1)
private_is_passed_over = refl

static_does_not : can_override (below 9 (codes "f")) (first 2) (first 1) ≡ false
static_does_not = refl

static_is_passed_over : chosen (below 9 (codes "f")) 2 (first 1) ≡ Picked (first 1)
static_is_passed_over = refl

other_name_does_not : can_override (below 1 (codes "g")) (first 2) (first 1) ≡ false
other_name_does_not = refl
