-- What a definition adds to what the classes keep. A means of proof.
use Rattle.std.specs.Prelude.{◌≡◌, ℕ, ◌<◌, ◌≤◌, ◌^◌, true, false, if◌then◌else◌, List, ◌∷◌, [], ◌++◌, length, None, IfSome, All}
use Rattle.jl_types.specs.Values.World.{Class, Classes}
use Rattle.jl_types.specs.Values.Members.{is_concrete_row, is_interface}
use Rattle.jl_types.specs.Values.Ancestry.{ancestors}
use Rattle.jl_hierarchy.specs.declared.define.NewClass.{NewClass}
use Rattle.jl_hierarchy.specs.ForProofs.Kept.{Rises, IsAppended}
use Rattle.jl_hierarchy.specs.Redeclared.{Marked, has_method, sees_print, line_above, is_above, is_listed, is_marked, is_on, IsTold}

-- as many lists of ancestors and of receivers as classes, which aren't too many
pub record AreEven (rows : List Class) (above below : List (List ℕ)) : Type 0 where
  pub few : length rows ≤ 2 ^ 20
  pub many_above : length above ≡ length rows
  pub many_below : length below ≡ length rows

-- the ancestors that get the class as a receiver
abbrev pub gaining : NewClass → List ℕ
gaining new_class = if new_class.is_concrete then new_class.ancestors.items else []

-- what a class adds that comes after these
pub record IsNewClass (cs : Classes) (row : Class) (new_class : NewClass) : Type 0 where
  pub row_is : new_class.row ≡ row
  pub number : new_class.class ≡ length cs.rows
  pub concrete : new_class.is_concrete ≡ is_concrete_row row
  pub all : new_class.ancestors.items ++ length cs.rows ∷ [] ≡ ancestors (cs.rows ++ row ∷ []) (length cs.rows)
  pub there : All (λ a. a < length cs.rows) (gaining new_class)
  pub rising : Rises (gaining new_class)
  pub with_itself : new_class.with_itself ≡ new_class.ancestors.items ++ length cs.rows ∷ []
  pub own : new_class.own.items ≡ (if is_concrete_row row then length cs.rows ∷ [] else [])
  pub marks : IfSome new_class.marks (λ marks. (s p : ℕ) → has_method p row.file.methods ≡ true → is_on s (line_above cs row) ≡ true
      → sees_print cs p s ≡ true → IsTold cs p (is_listed marks.items) s)
  pub above : (s : ℕ) → is_on s (line_above cs row) ≡ true → is_on s new_class.ancestors.items ≡ true
  pub line : new_class.is_line ≡ true → (a : ℕ) → is_on a new_class.ancestors.items ≡ true → is_interface cs a ≡ false → is_above cs row a ≡ true

-- what the class adds to the lists of receivers
abbrev pub IsReceived : NewClass → List (List ℕ) → List (List ℕ) → Type 0
IsReceived new_class old new = (front : List (List ℕ)) × IsAppended (gaining new_class) new_class.class old front × (new ≡ front ++ new_class.own.items ∷ [])

-- what is marked stays marked
abbrev pub AreKept : Marked → Marked → Type 0
AreKept old new = (s p : ℕ) → is_marked old s p ≡ true → is_marked new s p ≡ true

-- what the class marks is marked
pub record AreAdded (new_class : NewClass) (new : Marked) : Type 0 where
  pub each : IfSome new_class.marks (λ marks. (s p : ℕ) → is_listed marks.items s p ≡ true → is_marked new s p ≡ true)
  pub every : new_class.marks ≡ None → (s p : ℕ) → is_on s new_class.ancestors.items ≡ true → is_marked new s p ≡ true
