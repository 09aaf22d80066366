-- The prints of names and descriptors. `Called` is what contracts say; the rest is a means of proof.
use Rattle.std.specs.Prelude.{◌≡◌, ℕ, ◌+◌, Bool, ◌==◌, List, [], ◌∷◌, filter}
use Rattle.std.specs.List.Sorted.{IsNonDecreasingBy}
use Rattle.jl_names.specs.ForProofs.Prints.{print_from}
use Rattle.jl_class.specs.Class.{Method}
use Rattle.jl_hierarchy.specs.declared.row.Printed.{Printed}

-- a name and a descriptor (JVMS 4.6)
pub record Called : Type 0 where
  pub name : List ℕ
  pub ty : List ℕ

abbrev pub print_of : List ℕ → List ℕ → ℕ
print_of name ty = print_from (print_from 0 name) ty

-- the print of a method's name and descriptor
abbrev pub print_of_method : Method → ℕ
print_of_method m = print_of m.name m.ty

-- the prints of these methods, of which the first stands at the place
abbrev pub printed_from : ℕ → List Method → List Printed
printed_from n [] = []
printed_from n (m ∷ ms) = record { print = print_of_method m; place = n } ∷ printed_from (n + 1) ms

abbrev pub has_print : ℕ → Printed → Bool
has_print p entry = entry.print == p

-- the prints of these methods in order, those of one print by their places
abbrev pub AreSorted : List Printed → List Method → Type 0
AreSorted entries ms =
    IsNonDecreasingBy (λ (e : Printed). e.print) entries
    × ((p : ℕ) → filter (has_print p) entries ≡ filter (has_print p) (printed_from 0 ms))
