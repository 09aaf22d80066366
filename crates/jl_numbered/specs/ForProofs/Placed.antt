-- Values by their places.
use Rattle.std.specs.Prelude.{ℕ, suc, List, [], ◌∷◌, Option, Some, None}

-- what stands at the places, of which the first has number n
abbrev pub placed : {T : Type 0} → ℕ → List (Option T) → List (ℕ × T)
placed n [] = []
placed n (None ∷ rest) = placed (suc n) rest
placed n (Some value ∷ rest) = (n, value) ∷ placed (suc n) rest

-- what stands at a place, if there is such a place
abbrev pub standing : {T : Type 0} → Option (Option T) → Option T
standing None = None
standing (Some slot) = slot

-- how many values stand in a slot: one or none
abbrev pub one : {T : Type 0} → Option T → ℕ
one None = 0
one (Some value) = 1
