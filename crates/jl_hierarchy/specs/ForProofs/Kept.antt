-- What the classes keep beside what a clause sees. A means of proof.
use Rattle.std.specs.Prelude.{◌≡◌, ℕ, ◌<◌, ◌≤◌, ◌^◌, ◌==◌, Bool, true, ◌&&◌, if◌then◌else◌, List, ◌∷◌, [], ◌++◌, Vec, map, length, get_or, slice_get}
use Rattle.std.specs.Prelude.{is_none, Some, false, ⊤}
use Rattle.std.specs.List.{AllByRecursion, list_any}
use Rattle.std.specs.Vec.{vec_len, vec_capacity}
use Rattle.std.specs.declared.alloc.Global.{Global}
use Rattle.jl_types.specs.Values.World.{Class, Classes}
use Rattle.jl_types.specs.Values.Members.{numbers, recorded, is_retired, lookup}
use Rattle.jl_types.specs.Values.Ancestry.{AreOrdered, ancestors, receivers}
use Rattle.jl_hierarchy.specs.Constancy.{ObjectComesFirst, ExtendNoFinal, IsClosed}

-- the names of a map, each with its number
abbrev pub named : {A : Type 0} → List (Vec ℕ A × ℕ) → List (List ℕ × ℕ)
named entries = map (λ e. (e.0.items, e.1)) entries

-- each of the recent names is new to those before it
abbrev pub are_new : List (List ℕ × ℕ) → List (List ℕ × ℕ) → Bool
are_new older [] = true
are_new older (r ∷ recent) = is_none (recorded r.0 older) && are_new (older ++ r ∷ []) recent

-- what the lists that grow hold
abbrev pub lists : List (Vec ℕ Global) → List (List ℕ)
lists vectors = map (λ v. v.items) vectors

-- a class of a loader that isn't retired stands in the loader's records, under its name
abbrev pub AreRecorded : Classes → Type 0
AreRecorded cs = (c : ℕ) (row : Class) → slice_get cs.rows c ≡ Some row → is_retired cs row.loader ≡ false → lookup cs row.loader row.file.name ≡ Some c

-- The ancestors and the receivers of each class are kept. What loaders have recorded is there. Parents come first and may be
-- extended. java/lang/Object comes first. What is present rests on what is present, and its own loader has recorded it.
pub record IsKept (cs : Classes) (above below : List (List ℕ)) : Type 0 where
  pub there : AllByRecursion (AllByRecursion (λ r. r.1 < length cs.rows)) cs.loaders
  pub ordered : AreOrdered cs.rows
  pub extended : ExtendNoFinal cs
  pub object : ObjectComesFirst cs
  pub closed : IsClosed cs
  pub own : AreRecorded cs
  pub few : length cs.rows ≤ 2 ^ 20
  pub few_loaders : length cs.loaders ≤ 2 ^ 20
  pub ancestors_kept : above ≡ map (ancestors cs.rows) (numbers cs)
  pub receivers_kept : below ≡ map (receivers cs) (numbers cs)

-- a list has room for one more
abbrev pub HasRoomForOne : Vec ℕ Global → Type 0
HasRoomForOne v = vec_len v < vec_capacity v

-- the list of the class has room for one more
abbrev pub HasRoom : List (Vec ℕ Global) → ℕ → Type 0
HasRoom vectors c = (d : Vec ℕ Global) → HasRoomForOne (get_or vectors c d)

-- each number is below those after it
abbrev pub Rises : List ℕ → Type 0
Rises [] = ⊤
Rises (x ∷ xs) = AllByRecursion (λ y. x < y) xs × Rises xs

-- the lists of these are changed, and the others stay
pub record AreChanged (classes : List ℕ) (f : List ℕ → List ℕ) (old new : List (List ℕ)) : Type 0 where
  pub many : length new ≡ length old
  pub each : (c : ℕ) → get_or new c [] ≡ (if list_any (λ k. k == c) classes then f (get_or old c []) else get_or old c [])

-- the class is appended to the lists of these, and the others stay
abbrev pub IsAppended : List ℕ → ℕ → List (List ℕ) → List (List ℕ) → Type 0
IsAppended classes class old new = AreChanged classes (λ xs. xs ++ class ∷ []) old new
