-- Where a place stands, by parts of the places.
use Rattle.std.specs.Prelude.{◌≡◌, ◌==◌, ℕ, ◌%◌, List, [], get_or, length, position, Option}
use Rattle.std.specs.Option.{unwrap_or}
use Rattle.std.specs.List.{IsDistinct}
use Rattle.std.specs.Map.{lookup}
use Rattle.std.specs.BTreeMap.{is_at}
use Rattle.std.specs.declared.cmp.Ordering.{Ordering}
use Rattle.std.specs.Ordering.{nat_cmp, ordering_then}
use Rattle.jl_types.specs.declared.ids.Place.{Place}
use Rattle.jl_types.specs.Events.Verdict.{same_place}
use Rattle.jl_places.specs.declared.numbers.Called.{Called}

-- the part in which the place is looked up
abbrev pub part_of : Place → ℕ
part_of p = p.class % 1024

-- the place within its class
abbrev pub called : Place → Called
called p = record { method = p.method; pc = p.pc }

-- by method, and then by pc
abbrev pub called_cmp : Called → Called → Ordering
called_cmp c d = ordering_then (nat_cmp c.method d.method) (nat_cmp c.pc d.pc)

-- places of one class, with their numbers
abbrev pub OfClass : Type 0
OfClass = List (Called × ℕ)

-- classes, with their places
abbrev pub ByClass : Type 0
ByClass = List (ℕ × OfClass)

-- the number of the place within the class
abbrev pub number_within : OfClass → Called → Option ℕ
number_within numbers c = lookup (is_at (called_cmp c)) numbers

-- the places of the class
abbrev pub of_class : ByClass → ℕ → OfClass
of_class part class = unwrap_or (lookup (λ c. class == c) part) []

-- the number that a part has of the place
abbrev pub number_in : ByClass → Place → Option ℕ
number_in part p = number_within (of_class part p.class) (called p)

-- the number that its part has of the place
abbrev pub number_at : List ByClass → Place → Option ℕ
number_at parts p = number_in (get_or parts (part_of p) []) p

-- the parts tell where each place stands, and none stands twice
pub record AreFound (parts : List ByClass) (listed : List Place) : Type 0 where
  pub many : length parts ≡ 1024
  pub numbers : (p : Place) → number_at parts p ≡ position (same_place p) listed
  pub apart : IsDistinct same_place listed
