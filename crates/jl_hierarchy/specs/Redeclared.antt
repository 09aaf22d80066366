-- Which classes have a subclass that declares a method again that they see (JVMS 5.4.5), and which ancestors classes have (5.4.3.3).
-- `sees`, `AreLines` and `IsNotRedeclared` are what contracts say; the rest is a means of proof.
use Rattle.std.specs.Prelude.{◌≡◌, ℕ, ◌==◌, ◌&&◌, ◌||◌, ◌⊎◌, Bool, true, false, List, [], get_or, slice_get, is_some, Option, None}
use Rattle.std.specs.List.{list_any}
use Rattle.std.specs.Option.{option_map_or}
use Rattle.jl_class.specs.Class.{Method}
use Rattle.jl_types.specs.Values.World.{Class, Classes}
use Rattle.jl_types.specs.Values.Members.{is_interface, declared}
use Rattle.jl_types.specs.Values.Ancestry.{is_ancestor, is_subclass, superclasses}
use Rattle.jl_types.specs.Linkage.Resolution.{declared_upward}
use Rattle.jl_hierarchy.specs.declared.marks.Mark.{Mark}
use Rattle.jl_hierarchy.specs.Prints.{print_of_method}

-- classes of these rows: what is said of classes here rests on their rows alone
abbrev pub of_rows : List Class → Classes
of_rows rows = record { loaders = []; rows = rows; retired = [] }

-- the marks that are kept: of a class with a print, and of classes of which every print is marked, a test for each number
abbrev pub Marked : Type 0
Marked = List Mark × List Bool

-- the mark is of the class and the print
abbrev pub tells : ℕ → ℕ → Mark → Bool
tells s p m = (m.class == s) && (m.print == p)

abbrev pub is_listed : List Mark → ℕ → ℕ → Bool
is_listed marks s p = list_any (tells s p) marks

-- every print is marked at the class
abbrev pub is_every : List Bool → ℕ → Bool
is_every every s = get_or every s false

-- the print is marked at the class
abbrev pub is_marked : Marked → ℕ → ℕ → Bool
is_marked marks s p = is_every marks.1 s || is_listed marks.0 s p

-- the class or one above it declares a method of this name and descriptor
abbrev pub sees : Classes → List ℕ → List ℕ → ℕ → Bool
sees cs name ty s = is_some (declared_upward cs name ty s)

-- one of the methods has the print
abbrev pub has_method : ℕ → List Method → Bool
has_method p ms = list_any (λ m. print_of_method m == p) ms

-- the class declares a method of the print
abbrev pub declares_print : Classes → ℕ → ℕ → Bool
declares_print cs p c = has_method p (option_map_or (λ r. r.file.methods) (slice_get cs.rows c) [])

-- the class or one above it declares a method of the print
abbrev pub sees_print : Classes → ℕ → ℕ → Bool
sees_print cs p s = list_any (declares_print cs p) (superclasses cs s)

-- this superclass and those above it
abbrev pub line_from : Classes → Option ℕ → List ℕ
line_from cs superclass = option_map_or (superclasses cs) superclass []

-- the superclasses of a class, without itself
abbrev pub line_above : Classes → Class → List ℕ
line_above cs row = line_from cs row.superclass

-- a is an ancestor of the class's superclass
abbrev pub is_above : Classes → Class → ℕ → Bool
is_above cs row a = option_map_or (is_ancestor cs a) row.superclass false

-- s is one of these
abbrev pub is_on : ℕ → List ℕ → Bool
is_on s xs = list_any (λ c. c == s) xs

-- a proper subclass of s declares a method of the print
abbrev pub IsRedeclared : Classes → ℕ → ℕ → Type 0
IsRedeclared cs p s = (d : ℕ) × ((d == s) ≡ false) × (is_subclass cs d s ≡ true) × (declares_print cs p d ≡ true)

-- what is marked: of each class the prints that it sees and a proper subclass declares again
abbrev pub AreMarked : List Class → Marked → Type 0
AreMarked rows marks = (s p : ℕ) → IsRedeclared (of_rows rows) p s → sees_print (of_rows rows) p s ≡ true → is_marked marks s p ≡ true

-- this test tells the print at s, or a proper subclass of s declares a method of it already
abbrev pub IsTold : Classes → ℕ → (ℕ → ℕ → Bool) → ℕ → Type 0
IsTold cs p told s = (told s p ≡ true) ⊎ IsRedeclared cs p s

-- each ancestor of a class that isn't an interface is one of its superclasses
abbrev pub AreLines : List Class → Type 0
AreLines rows = (x a : ℕ) → is_ancestor (of_rows rows) a x ≡ true → is_interface (of_rows rows) a ≡ false → is_subclass (of_rows rows) x a ≡ true

pub record IsIndexed (rows : List Class) (marks : Marked) (are_superclass_chains : Bool) : Type 0 where
  pub marked : AreMarked rows marks
  pub lines : are_superclass_chains ≡ true → AreLines rows

-- no proper subclass of the class declares a method of this name and descriptor
abbrev pub IsNotRedeclared : Classes → List ℕ → List ℕ → ℕ → Type 0
IsNotRedeclared cs name ty c = (x : ℕ) → (x == c) ≡ false → is_subclass cs x c ≡ true → declared cs name ty x ≡ None
