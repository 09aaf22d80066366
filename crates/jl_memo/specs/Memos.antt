-- The outcomes of calls, by site and receiver's class, in sets of two rows (a method cache: Deutsch and Schiffman 1984).
use Rattle.std.specs.Prelude.{ℕ, ◌+◌, ◌*◌, ◌/◌, ◌%◌, ◌^◌, ◌==◌, ◌&&◌, Bool, false, List, length, get_or, slice_set, Option, Some, None, if◌then◌else◌}
use Rattle.std.specs.Option.{option_or}
use Rattle.jl_types.specs.declared.answer.Outcome.{Outcome}
use Rattle.jl_memo.specs.declared.set.Row.{Row}
use Rattle.jl_memo.specs.declared.set.Set.{Set}

-- there is a row, and it is of the site's calls on objects of class x
abbrev pub is_of : Option Row → ℕ → ℕ → Bool
is_of None s x = false
is_of (Some row) s x = (row.site == s) && (row.class == x)

abbrev pub outcome_in : Option Row → ℕ → ℕ → Option Outcome
outcome_in None s x = None
outcome_in (Some row) s x = if (row.site == s) && (row.class == x) then Some row.outcome else None

abbrev pub in_set : Set → ℕ → ℕ → Option Outcome
in_set set s x = option_or (outcome_in set.newer s x) (outcome_in set.older s x)

abbrev pub no_rows : Set
no_rows = record { newer = None; older = None }

abbrev pub with_row : Set → Row → Set
with_row set row =
    if is_of set.newer row.site row.class then record { newer = Some row; older = set.older } else record { newer = Some row; older = set.newer }

-- which of n sets has the rows of site s and class x; what matters of it is that each pair has one place
abbrev pub place_of : ℕ → ℕ → ℕ → ℕ
place_of n s x = ((((s * 4294967296 + x) * 11400714819323198485) % 2 ^ 64 / 4294967296) * n) % 2 ^ 64 / 4294967296

-- what is remembered of the site's calls on objects of class x
abbrev pub remembered : List Set → ℕ → ℕ → Option Outcome
remembered sets s x = in_set (get_or sets (place_of (length sets) s x) no_rows) s x

-- the sets once the row is put into its set
abbrev pub put_at : List Set → ℕ → Row → List Set
put_at sets place row = slice_set sets place (with_row (get_or sets place no_rows) row)

abbrev pub put : List Set → Row → List Set
put sets row = put_at sets (place_of (length sets) row.site row.class) row
