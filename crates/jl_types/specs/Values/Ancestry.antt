-- Superclasses, superinterfaces, and the classes below (JVMS 4.1, 5.3.5). A class's parents were defined before it.
use Rattle.std.specs.Prelude.{◌≡◌, ℕ, zero, suc, ◌+◌, ◌<◌, Bool, true, false, not, ◌&&◌, ◌||◌, ◌==◌, List, [], ◌∷◌, ◌++◌, slice_get, filter, Option}
use Rattle.std.specs.Prelude.{Some, option_to_list, option_and_then, All}
use Rattle.std.specs.List.{list_any, range_with_len}
use Rattle.std.specs.Option.{option_map_or}
use Rattle.jl_types.specs.Values.World.{Class, Classes}
use Rattle.jl_types.specs.Values.Members.{numbers, is_concrete, is_interface}

-- the superclass and the direct superinterfaces
abbrev pub parents : Class → List ℕ
parents row = option_to_list row.superclass ++ row.interfaces

abbrev pub is_parent : Class → ℕ → Bool
is_parent row p = list_any (λ q. p == q) (parents row)

-- a is x itself, or an ancestor of a parent of x
pub data IsAncestor (rows : List Class) (a : ℕ) : ℕ → Type 0 where
  itself : {row : Class} → slice_get rows a ≡ Some row → IsAncestor rows a a
  over : {x p : ℕ} {row : Class} → slice_get rows x ≡ Some row → is_parent row p ≡ true
      → IsAncestor rows a p → IsAncestor rows a x

-- whether a is x itself or an ancestor of x, as a test, over so many classes upward from x
abbrev pub is_ancestor_within : ℕ → List Class → ℕ → ℕ → Bool
is_ancestor_within zero rows a x = false
is_ancestor_within (suc steps) rows a x =
    option_map_or (λ row. (a == x) || list_any (is_ancestor_within steps rows a) (parents row)) (slice_get rows x) false

-- whether a is x itself or an ancestor of x, as a test; from x upward there are x + 1 classes at most
abbrev pub is_ancestor : Classes → ℕ → ℕ → Bool
is_ancestor cs a x = is_ancestor_within (x + 1) cs.rows a x

abbrev pub is_proper_ancestor : Classes → ℕ → ℕ → Bool
is_proper_ancestor cs a x = not (a == x) && is_ancestor cs a x

-- each class's parents were defined before it
abbrev pub AreOrdered : List Class → Type 0
AreOrdered rows = (c : ℕ) (row : Class) → slice_get rows c ≡ Some row → All (λ p. p < c) (parents row)

-- ---- the chain of superclasses

abbrev pub superclass_of : Classes → ℕ → Option ℕ
superclass_of cs c = option_and_then (λ row. row.superclass) (slice_get cs.rows c)

-- c, its superclass and so on upward, so many at most
abbrev pub superclasses_within : ℕ → List Class → ℕ → List ℕ
superclasses_within zero rows c = []
superclasses_within (suc steps) rows c =
    option_map_or (λ row. c ∷ option_map_or (superclasses_within steps rows) row.superclass []) (slice_get rows c) []

-- c, its superclass and so on upward
abbrev pub superclasses : Classes → ℕ → List ℕ
superclasses cs c = superclasses_within (c + 1) cs.rows c

-- x is y or one of its subclasses
abbrev pub is_subclass : Classes → ℕ → ℕ → Bool
is_subclass cs x y = list_any (λ c. c == y) (superclasses cs x)

abbrev pub is_proper_subclass : Classes → ℕ → ℕ → Bool
is_proper_subclass cs x y = not (x == y) && is_subclass cs x y

-- ---- sets of classes, by rising number

-- the ancestors of c, itself among them, by rising number: parents come first, so none comes after c
abbrev pub ancestors : List Class → ℕ → List ℕ
ancestors rows c = filter (λ a. is_ancestor_within (c + 1) rows a c) (range_with_len 0 (c + 1))

-- the direct and indirect superinterfaces of c, those of its superclasses among them
abbrev pub superinterfaces : Classes → ℕ → List ℕ
superinterfaces cs c = filter (λ k. is_interface cs k && not (k == c)) (ancestors cs.rows c)

-- the classes that objects may be of, among c and the classes below it
abbrev pub receivers : Classes → ℕ → List ℕ
receivers cs c = filter (λ x. is_concrete cs x && is_ancestor cs c x) (numbers cs)
